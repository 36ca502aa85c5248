-- What a case leaves in the lent cells. Its rows, its fields and the job's state fix each cell that is promised; what the cells held before shows only where nothing is written.
use Rattle.std.specs.Prelude.{◌≡◌, ℕ, ◌*◌, ◌<◌, Bool, List, [], length, take, drop, Some, None, Ok, Err, Result, slice_index_or}
use Rattle.grades.specs.declared.margin.Margin.{Margin}
use Rattle.grades.specs.declared.range.Range.{Range}
use Rattle.grades.specs.declared.truth.Truth.{Truth}
use Rattle.grades.specs.Kinds.{Kind}
use Rattle.grades.specs.Margins.{margins}
use Rattle.grades.specs.Truths.{truths}
use Rattle.grades.specs.Worth.{truth_value, margin_level}
use Rattle.pieces.specs.declared.piece.Piece.{Piece}
use Rattle.rules.specs.declared.row.Row.{Row}
use Rattle.meaning.specs.declared.mark.Mark.{Mark}
use Rattle.meaning.specs.declared.reading.Reading.{Reading}
use Rattle.runs.specs.Calls.{JudgeTurn, MarkTurn}
use Rattle.runs.specs.Jobs.{JobAnswer, JobTurn, enter}
use Rattle.runs.specs.States.{State, readings_of, opened, line_count}
use Rattle.jobs.specs.declared.job.Job.{Job}
use Rattle.jobs.specs.Jobs.{cells_of, state_of}
use Rattle.judge.specs.declared.fault.JudgeFault.{JudgeFault}
use Rattle.judge.specs.declared.fault.MarkFault.{MarkFault}
use Rattle.judge.specs.declared.marking.Marking.{Marking}
use Rattle.judge.specs.Answers.{judge_reply, JudgeCells, mark_reply, MarkedCells}
use Rattle.lent.specs.Holding.{Contents}
use Rattle.cases.specs.declared.fault.CaseRefusal.{CaseRefusal}
use Rattle.cases.specs.declared.field.Entry.{Entry}
use Rattle.cases.specs.Contents.{Item, entry, tick}
use Rattle.cases.specs.Headings.{OpenedCase, Opens}
use Rattle.cases.specs.Steps.{Sized, Stepped, Steps}

module _ (rows : List Row) where
  module _ (s : State) (t : ℕ) where
    -- the rule is judged in one grade at a tick: the answer, and the row cells before and after
    pub record JudgedCells (K : Kind) {G : Type 0} (value : G → K.Value) (before after : List (Piece (Range G))) (r : Result (Range G) JudgeFault) : Type 0 where
      pub turn : JudgeTurn K s rows t (length before) (judge_reply K value r)
      pub cells : JudgeCells K value rows (readings_of s) before after r

    -- the rule is marked in truth at a tick: the row cells, the want cells and the mark cells before and after
    pub record MarkedIn (ranges ranges' : List (Piece (Range Truth))) (wants wants' : List (Piece Bool)) (marks marks' : List Mark) (r : Result (Marking Truth) MarkFault) : Type 0 where
      pub turn : MarkTurn truths s rows t (length ranges) (length wants) (length marks) (mark_reply truths truth_value marks' r)
      pub cells : MarkedCells truths truth_value rows (readings_of s) t ranges ranges' wants wants' marks marks' r

    -- a tick: judged in truth, judged in margin and marked in truth, up to the first refusal; what comes behind that is not touched
    pub data TickLeaves (before after : Contents) : Type 0 where
      no_truth : (f : JudgeFault) → JudgedCells truths truth_value before.truths after.truths (Err f) → after ≡ record before { truths = after.truths } → TickLeaves before after
      no_margin : (p : Range Truth) (f : JudgeFault) → JudgedCells truths truth_value before.truths after.truths (Ok p) → JudgedCells margins margin_level before.margins after.margins (Err f) → after ≡ record before { truths = after.truths; margins = after.margins } → TickLeaves before after
      marked : (p : Range Truth) (q : Range Margin) (judged : List (Piece (Range Truth))) (r : Result (Marking Truth) MarkFault) → JudgedCells truths truth_value before.truths judged (Ok p) → JudgedCells margins margin_level before.margins after.margins (Ok q) → MarkedIn judged after.truths before.wants after.wants before.marks after.marks r → TickLeaves before after

  -- a field: an entry touches none of these cells, and a tick leaves the job as it is
  pub data FieldLeaves (i : Item) (s z : State) (before after : Contents) : Type 0 where
    enters : (e : Entry) (reply : Result JobAnswer ℕ) → i ≡ entry e → JobTurn s (enter e.line e.from e.to e.lower e.upper) reply z → after ≡ before → FieldLeaves i s z before after
    ticks : (t : ℕ) → i ≡ tick t → z ≡ s → TickLeaves s t before after → FieldLeaves i s z before after

  -- the fields from number n on, one after another: the state s becomes z
  pub data FieldsLeave : ℕ → State → List ℕ → State → Contents → Contents → Type 0 where
    ended : {n : ℕ} {s z : State} {bytes : List ℕ} {before after : Contents} → Steps n bytes (Ok None) → z ≡ s → after ≡ before → FieldsLeave n s bytes z before after
    refused : {n : ℕ} {s z : State} {bytes : List ℕ} {before after : Contents} (e : CaseRefusal) → Steps n bytes (Err e) → z ≡ s → after ≡ before → FieldsLeave n s bytes z before after
    does : {n : ℕ} {s y z : State} {bytes : List ℕ} {before between after : Contents} (x : Stepped) → Steps n bytes (Ok (Some x)) → FieldLeaves x.item s y before between → FieldsLeave x.next y x.rest z between after → FieldsLeave n s bytes z before after

-- the pieces of each line lie at the beginning of its 64 cells, and behind the last line's 64 the cells are as they were
pub record LinesLie (lines : List (List (Piece Reading))) (before after : List (Piece Reading)) : Type 0 where
  pub each : (k : ℕ) → k < length lines → take (length (slice_index_or lines k [])) (drop (64 * k) after) ≡ slice_index_or lines k []
  pub behind : drop (64 * length lines) after ≡ drop (64 * length lines) before

-- the same of a job that was carried on: it has as many lines, and behind their cells nothing changed
pub record CarriedOn (before after : Job) : Type 0 where
  pub many : length (state_of after).lines ≡ length (state_of before).lines
  pub behind : drop (64 * length (state_of before).lines) (cells_of after) ≡ drop (64 * length (state_of before).lines) (cells_of before)

-- the whole case: where it ends before a job is opened, nothing is written
pub data CaseLeaves (case : List ℕ) (pieces pieces' : List (Piece Reading)) (before after : Contents) : Type 0 where
  too_long : (e : CaseRefusal) → Sized case (Err e) → pieces' ≡ pieces → after ≡ before → CaseLeaves case pieces pieces' before after
  no_heading : (e : CaseRefusal) → Sized case (Ok tt) → Opens 1 [] case (Err e) → pieces' ≡ pieces → after ≡ before → CaseLeaves case pieces pieces' before after
  carried : (o : OpenedCase) (z : State) → Sized case (Ok tt) → Opens 1 [] case (Ok o) → FieldsLeave o.rows o.next (opened (line_count o.lines (length pieces))) o.rest z before after → LinesLie z.lines pieces pieces' → CaseLeaves case pieces pieces' before after

-- a case leaves one thing in the judge's cells, and the same lines in the piece cells
abbrev pub OneLeaving : Type 0
OneLeaving =
    (case : List ℕ) (pieces p q : List (Piece Reading)) (before a b : Contents) → CaseLeaves case pieces p before a → CaseLeaves case pieces q before b → (a ≡ b) × ((lines : List (List (Piece Reading))) × LinesLie lines pieces p × LinesLie lines pieces q)
