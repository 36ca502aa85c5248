-- A case's listing is a run of calls on one job: in the order of the fields, the calls with their replies say what is printed.
use Rattle.std.specs.Prelude.{◌≡◌, ℕ, true, false, List, [], ◌∷◌, ◌++◌, length, Some, None, Ok, Err, Result}
use Rattle.grades.specs.Ranges.{Span}
use Rattle.grades.specs.Truths.{truths}
use Rattle.grades.specs.Margins.{margins}
use Rattle.rules.specs.Rows.{Sound}
use Rattle.meaning.specs.Outcomes.{outcome_at}
use Rattle.runs.specs.Families.{truth_and_margin}
use Rattle.runs.specs.States.{State, opened, line_count}
use Rattle.runs.specs.Jobs.{JobAnswer, enter}
use Rattle.runs.specs.Calls.{RuleRows, MarkedVerdict}
use Rattle.runs.specs.Runs.{Event, on_job, judge, mark, event, Ran}
use Rattle.cases.specs.declared.fault.CaseRefusal.{CaseRefusal}
use Rattle.cases.specs.declared.field.Entry.{Entry}
use Rattle.cases.specs.Contents.{Item, entry, tick}
use Rattle.cases.specs.Headings.{OpenedCase, Opens}
use Rattle.cases.specs.Steps.{Sized, Stepped, Steps}
use Rattle.case_lines.specs.Lines.{refused_line, refusal_line, verdict_line, mark_lines, entry_text}
use Rattle.lent.specs.Holding.{CellCounts}
use Rattle.case_lines.specs.Listings.{LentCells, Listing}

-- an entry's call with its reply
abbrev pub entry_event : Entry → Result JobAnswer ℕ → Event truth_and_margin
entry_event e r = event (on_job (enter e.line e.from e.to e.lower e.upper)) r

module _ (cells : CellCounts) (rule : RuleRows) where
  -- the calls at a tick, with as many cells as are lent, each with its reply
  abbrev pub in_truth : ℕ → Result (Span truths.Value) ℕ → Event truth_and_margin
  in_truth t r = event (judge true rule t cells.truth_rows) r

  abbrev pub in_margin : ℕ → Result (Span margins.Value) ℕ → Event truth_and_margin
  in_margin t r = event (judge false rule t cells.margin_rows) r

  abbrev pub marking : ℕ → Result (MarkedVerdict truths) ℕ → Event truth_and_margin
  marking t r = event (mark true rule t cells.truth_rows cells.wants cells.marks) r

  -- field k makes these calls, and their replies are printed as this text: an entry makes one; a tick is judged in truth, in margin, and marked, and the first call that is turned down is the last
  pub data Prints (k : ℕ) (i : Item) (es : List (Event truth_and_margin)) (text : List ℕ) : Type 0 where
    enters : (e : Entry) (r : Result JobAnswer ℕ) → i ≡ entry e → es ≡ entry_event e r ∷ [] → text ≡ entry_text k r → Prints k i es text
    no_truth : (t n : ℕ) → i ≡ tick t → es ≡ in_truth t (Err n) ∷ [] → text ≡ refused_line n k → Prints k i es text
    no_margin : (t n : ℕ) (p : Span truths.Value) → i ≡ tick t → es ≡ in_truth t (Ok p) ∷ (in_margin t (Err n) ∷ []) → text ≡ refused_line n k → Prints k i es text
    no_marks : (t n : ℕ) (p : Span truths.Value) (q : Span margins.Value) → i ≡ tick t → es ≡ in_truth t (Ok p) ∷ (in_margin t (Ok q) ∷ (marking t (Err n) ∷ [])) → text ≡ refused_line n k → Prints k i es text
    verdict : (t : ℕ) (p : Span truths.Value) (q : Span margins.Value) (m : MarkedVerdict truths) → i ≡ tick t → es ≡ in_truth t (Ok p) ∷ (in_margin t (Ok q) ∷ (marking t (Ok m) ∷ [])) → text ≡ verdict_line t (outcome_at p) q.low.number q.high.number (length m.marks) ++ mark_lines m.marks → Prints k i es text

  -- the same of the fields from number n on, up to the end or to the first that is refused
  pub data AllPrint : ℕ → List ℕ → List (Event truth_and_margin) → List ℕ → Type 0 where
    ended : {n : ℕ} {bytes text : List ℕ} {es : List (Event truth_and_margin)} → Steps n bytes (Ok None) → es ≡ [] → text ≡ [] → AllPrint n bytes es text
    refused : {n : ℕ} {bytes text : List ℕ} {es : List (Event truth_and_margin)} (e : CaseRefusal) → Steps n bytes (Err e) → es ≡ [] → text ≡ refusal_line e → AllPrint n bytes es text
    prints : {n : ℕ} {bytes text first more : List ℕ} {es fs gs : List (Event truth_and_margin)} (x : Stepped) → Steps n bytes (Ok (Some x)) → Prints x.field x.item fs first → AllPrint x.next x.rest gs more → es ≡ fs ++ gs → text ≡ first ++ more → AllPrint n bytes es text

-- the rule is a table of sound rows, and there is a run on the opened job whose calls the fields behind the rule make, and whose replies are printed as the text
pub record RunPrints (lent : LentCells) (o : OpenedCase) (text : List ℕ) : Type 0 where
  pub sound : Sound o.rows
  pub events : List (Event truth_and_margin)
  pub end : State
  pub ran : Ran truth_and_margin (opened (line_count o.lines lent.pieces)) events end
  pub printed : AllPrint lent.cells (record { rows = o.rows; sound = sound }) o.next o.rest events text

-- a listing behind a heading that is read is what the replies of such a run print
abbrev pub ListingsRun : Type 0
ListingsRun = (lent : LentCells) (case text : List ℕ) (o : OpenedCase) → Sized case (Ok tt) → Opens 1 [] case (Ok o) → Listing lent case text → RunPrints lent o text

-- and what the replies of such a run print is a listing
abbrev pub RunsList : Type 0
RunsList = (lent : LentCells) (case text : List ℕ) (o : OpenedCase) → Sized case (Ok tt) → Opens 1 [] case (Ok o) → RunPrints lent o text → Listing lent case text
