-- The listing of a case: what each field prints, in the job's state before it, and what the state is behind it.
use Rattle.std.specs.Prelude.{◌≡◌, ℕ, List, [], ◌++◌, length, Some, None, Ok, Err}
use Rattle.grades.specs.Ranges.{Span}
use Rattle.grades.specs.Truths.{truths}
use Rattle.grades.specs.Margins.{margins}
use Rattle.rules.specs.declared.row.Row.{Row}
use Rattle.meaning.specs.Outcomes.{outcome_at}
use Rattle.runs.specs.States.{State, opened, line_count}
use Rattle.runs.specs.Calls.{JudgeTurn, MarkedVerdict, MarkTurn}
use Rattle.cases.specs.declared.fault.CaseRefusal.{CaseRefusal}
use Rattle.cases.specs.declared.field.Entry.{Entry}
use Rattle.cases.specs.Contents.{Item, entry, tick}
use Rattle.cases.specs.Headings.{OpenedCase, Opens}
use Rattle.cases.specs.Steps.{Sized, Stepped, Steps}
use Rattle.lent.specs.Holding.{CellCounts}
use Rattle.case_lines.specs.Lines.{refused_line, refusal_line, verdict_line, mark_lines}
use Rattle.case_lines.specs.Calls.{CarriesEntry}

module _ (cells : CellCounts) (rows : List Row) where
  -- field k is a tick: with so many cells lent, the rule is judged in truth, judged in margin and marked in truth, up to the first refusal
  pub data Ticks (k t : ℕ) (s : State) (text : List ℕ) : Type 0 where
    no_truth : (n : ℕ) → JudgeTurn truths s rows t cells.truth_rows (Err n) → text ≡ refused_line n k → Ticks k t s text
    no_margin : (p : Span truths.Value) (n : ℕ) → JudgeTurn truths s rows t cells.truth_rows (Ok p) → JudgeTurn margins s rows t cells.margin_rows (Err n) → text ≡ refused_line n k → Ticks k t s text
    no_marks : (p : Span truths.Value) (q : Span margins.Value) (n : ℕ) → JudgeTurn truths s rows t cells.truth_rows (Ok p) → JudgeTurn margins s rows t cells.margin_rows (Ok q) → MarkTurn truths s rows t cells.truth_rows cells.wants cells.marks (Err n) → text ≡ refused_line n k → Ticks k t s text
    verdict : (p : Span truths.Value) (q : Span margins.Value) (m : MarkedVerdict truths) → JudgeTurn truths s rows t cells.truth_rows (Ok p) → JudgeTurn margins s rows t cells.margin_rows (Ok q) → MarkTurn truths s rows t cells.truth_rows cells.wants cells.marks (Ok m) → text ≡ verdict_line t (outcome_at p) q.low.number q.high.number (length m.marks) ++ mark_lines m.marks → Ticks k t s text

  -- what field k does and prints: an entry is entered, and a tick leaves the job as it is
  pub data Does (k : ℕ) (i : Item) (s after : State) (text : List ℕ) : Type 0 where
    enters : (e : Entry) → i ≡ entry e → CarriesEntry k e s after text → Does k i s after text
    ticks : (t : ℕ) → i ≡ tick t → Ticks k t s text → after ≡ s → Does k i s after text

  -- what is printed of the fields from number n on
  pub data ListsFields : ℕ → State → List ℕ → List ℕ → Type 0 where
    ended : {n : ℕ} {s : State} {bytes text : List ℕ} → Steps n bytes (Ok None) → text ≡ [] → ListsFields n s bytes text
    refused : {n : ℕ} {s : State} {bytes text : List ℕ} (e : CaseRefusal) → Steps n bytes (Err e) → text ≡ refusal_line e → ListsFields n s bytes text
    does : {n : ℕ} {s after : State} {bytes text first more : List ℕ} (x : Stepped) → Steps n bytes (Ok (Some x)) → Does x.field x.item s after first → ListsFields x.next after x.rest more → text ≡ first ++ more → ListsFields n s bytes text

-- how many cells of each sort are lent
pub record LentCells : Type 0 where
  pub pieces : ℕ
  pub cells : CellCounts

abbrev pub lent_cells : ℕ → ℕ → ℕ → ℕ → ℕ → LentCells
lent_cells p a b w m = record { pieces = p; cells = record { truth_rows = a; margin_rows = b; wants = w; marks = m } }

-- the listing of a case: the names and the rule print nothing, and open a job with as many lines as there are names
pub data Listing (lent : LentCells) (case text : List ℕ) : Type 0 where
  too_long : (e : CaseRefusal) → Sized case (Err e) → text ≡ refusal_line e → Listing lent case text
  no_heading : (e : CaseRefusal) → Sized case (Ok tt) → Opens 1 [] case (Err e) → text ≡ refusal_line e → Listing lent case text
  listed : (o : OpenedCase) → Sized case (Ok tt) → Opens 1 [] case (Ok o) → ListsFields lent.cells o.rows o.next (opened (line_count o.lines lent.pieces)) o.rest text → Listing lent case text
