-- Once the fields up to the rule have an answer, a case has a listing.
use Rattle.std.proofs.Common.{ℕ, zero, suc, ◌+◌, ◌<◌, ◌≤◌, List, [], ◌++◌, length, Ok, Err, Result, refl, arith}
use native.Mathlib.Decide.{dec_le}
use Rattle.grades.specs.Ranges.{Span}
use Rattle.grades.specs.Truths.{truths}
use Rattle.grades.specs.Margins.{margins}
use Rattle.grades.specs.Lawful.{truths_lawful, margins_lawful}
use Rattle.runs.specs.Families.{truth_and_margin}
use Rattle.runs.specs.States.{State, opened, line_count}
use Rattle.runs.specs.Calls.{RuleRows, JudgeTurn, MarkedVerdict, MarkTurn}
use Rattle.runs.specs.Jobs.{enter}
use Rattle.runs.specs.Runs.{on_job, event}
use Rattle.runs.proofs.Settings.{EndsAt}
use Rattle.runs.proofs.Exists.{enter_goes, judge_goes, mark_goes}
use Rattle.runs.proofs.Turns.{turn_ends, opened_reads}
use Rattle.lent.specs.Holding.{CellCounts}
use Rattle.cases.specs.declared.fault.CaseRefusal.{CaseRefusal}
use Rattle.cases.specs.declared.fault.CaseFault.TheVariants.{TooLong}
use Rattle.cases.specs.Contents.{Item, name, rule, entry, tick}
use Rattle.cases.specs.Orders.{MayFollow}
use Rattle.cases.specs.Headings.{refusal, OpenedCase, Opens}
use Rattle.cases.proofs.OpenedRules.{opened_sound}
use Rattle.cases.proofs.SomeStep.{Found, ends, refuses, goes, found}
use Rattle.case_lines.specs.Lines.{refused_line, refusal_line, entry_text}
use Rattle.case_lines.specs.Listings.{Ticks, no_truth, no_margin, no_marks, verdict, Does, enters, ticks, ListsFields, ended, refused, does, LentCells, Listing, too_long, no_heading, listed}
use Rattle.case_lines.specs.Laws.{SomeListing}

-- nothing is known past the last tick that an entry may name
abbrev Ended : State → Type 0
Ended s = EndsAt 1000000001 s

module _ (cells : CellCounts) (table : RuleRows) where
  module _ (k t : ℕ) (s : State) (late : Ended s) where
    abbrev Told : Type 0
    Told = (text : List ℕ) × Ticks cells table.rows k t s text

    marked : (p : Span truths.Value) (q : Span margins.Value) → JudgeTurn truths s table.rows t cells.truth_rows (Ok p) → JudgeTurn margins s table.rows t cells.margin_rows (Ok q) → (r : Result (MarkedVerdict truths) ℕ) × MarkTurn truths s table.rows t cells.truth_rows cells.wants cells.marks r → Told
    marked p q a b (Err n, h) = (refused_line n k, no_marks p q n a b h refl)
    marked p q a b (Ok m, h) = (_, verdict p q m a b h refl)

    judged : (p : Span truths.Value) → JudgeTurn truths s table.rows t cells.truth_rows (Ok p) → (r : Result (Span margins.Value) ℕ) × JudgeTurn margins s table.rows t cells.margin_rows r → Told
    judged p a (Err n, h) = (refused_line n k, no_margin p n a h refl)
    judged p a (Ok q, h) = marked p q a h (mark_goes truths_lawful 1000000001 s late table t cells.truth_rows cells.wants cells.marks)

    told : (r : Result (Span truths.Value) ℕ) × JudgeTurn truths s table.rows t cells.truth_rows r → Told
    told (Err n, h) = (refused_line n k, no_truth n h refl)
    told (Ok p, h) = judged p h (judge_goes margins_lawful 1000000001 s late table t cells.margin_rows)

  record Done (k : ℕ) (i : Item) (s : State) : Type 0 where
    pub after : State
    pub text : List ℕ
    pub done : Does cells table.rows k i s after text
    pub late : Ended after

  done : (k : ℕ) (i : Item) (s : State) → Ended s → MayFollow i → Done k i s
  done k (name w) s late f = absurd f
  done k (rule w) s late f = absurd f
  done k (entry e) s late f =
      let g = enter_goes 1000000001 (omega arith) s late e.line e.from e.to e.lower e.upper in
      record {
        after = g.1.0;
        text = entry_text k g.0;
        done = enters e refl (record { reply = g.0; turn = g.1.1; prints = refl });
        late = turn_ends truth_and_margin 1000000001 (omega arith) s g.1.0 (event (on_job (enter e.line e.from e.to e.lower e.upper)) g.0) g.1.1 late;
      }
  done k (tick t) s late f =
      let g = told k t s late (judge_goes truths_lawful 1000000001 s late table t cells.truth_rows) in
      record { after = s; text = g.0; done = ticks t refl g.1 refl; late = late }

  lists : (m n : ℕ) (s : State) (bytes : List ℕ) → length bytes ≤ m → Ended s → Found n bytes → (text : List ℕ) × ListsFields cells table.rows n s bytes text
  lists m n s bytes le late (ends p) = ([], ended p refl)
  lists m n s bytes le late (refuses e p) = (refusal_line e, refused e p refl)
  lists zero n s bytes le late (goes i rest f lt p) = absurd (omega arith)
  lists (suc m) n s bytes le late (goes i rest f lt p) =
      let d = done n i s late f in
      let more = lists m (n + 1) d.after rest (omega arith) d.late (found (n + 1) rest) in
      (d.text ++ more.0, does _ p d.done more.1 refl)

module _ (lent : LentCells) (case : List ℕ) where
  opens : length case ≤ 16384 → (r : Result OpenedCase CaseRefusal) → Opens 1 [] case r → (text : List ℕ) × Listing lent case text
  opens le (Err e) h = (refusal_line e, no_heading e le h refl)
  opens le (Ok o) h =
      let lines : ℕ = line_count o.lines lent.pieces in
      let l = lists lent.cells (record { rows = o.rows; sound = opened_sound o h }) (length o.rest) o.next (opened lines) o.rest (omega arith) (λ line t far. opened_reads truth_and_margin lines (opened lines) [] refl line t) (found o.next o.rest) in
      (l.0, listed o le h l.1)

  long : 16384 < length case → (text : List ℕ) × Listing lent case text
  long lt = (refusal_line (refusal 0 TooLong), too_long (refusal 0 TooLong) (lt, refl) refl)

pub some_listing : SomeListing
some_listing lent case r h = elim (dec_le (length case) 16384) [ yes le ↦ opens lent case le r h | no n ↦ long lent case (omega arith) ]
