-- What judging and marking answer, and what they leave in the cells.
use Rattle.std.specs.Prelude.{◌≡◌, ℕ, Bool, List, take, Ok, Err, Result}
use Rattle.grades.specs.Kinds.{Kind}
use Rattle.grades.specs.Ranges.{Span}
use Rattle.grades.specs.Worth.{worth}
use Rattle.grades.specs.declared.range.Range.{Range}
use Rattle.pieces.specs.declared.piece.Piece.{Piece}
use Rattle.rules.specs.declared.row.Row.{Row}
use Rattle.meaning.specs.declared.mark.Mark.{Mark}
use Rattle.meaning.specs.Readings.{Readings}
use Rattle.runs.specs.Calls.{MarkedVerdict as Marked}
use Rattle.judge.specs.declared.fault.JudgeFault.{JudgeFault}
use Rattle.judge.specs.declared.fault.JudgeFault.TheVariants.{NoSuchLine, LateTick, RowCells}
use Rattle.judge.specs.declared.fault.MarkFault.{MarkFault}
use Rattle.judge.specs.declared.fault.MarkFault.TheVariants.{Judging, WantCells, MarkCells}
use Rattle.judge.specs.declared.marking.Marking.{Marking}
use Rattle.judge.specs.Faults.{judge_number, mark_number}
use Rattle.judge.specs.Cells.{RowsComplete, RowsCut, WantsComplete, WantsCut, MarksComplete, MarksCut}

module _ (K : Kind) {G : Type 0} (value : G → K.Value) where
  -- the reply of a judgement as a run of calls has it
  abbrev pub judge_reply : Result (Range G) JudgeFault → Result (Span K.Value) ℕ
  judge_reply (Ok r) = Ok (worth K value r)
  judge_reply (Err f) = Err (judge_number f)

  -- the row cells of a refusal: full of the beginning of all rows' lists where these need more cells, and otherwise as they were
  abbrev pub RefusedCells : List Row → Readings → List (Piece (Range G)) → List (Piece (Range G)) → JudgeFault → Type 0
  RefusedCells rows x before after NoSuchLine = after ≡ before
  RefusedCells rows x before after LateTick = after ≡ before
  RefusedCells rows x before after RowCells = RowsCut K value rows x before after

  -- the row cells of a judgement begin with the lists of all rows, in row order
  abbrev pub JudgeCells : List Row → Readings → List (Piece (Range G)) → List (Piece (Range G)) → Result (Range G) JudgeFault → Type 0
  JudgeCells rows x before after (Ok r) = RowsComplete K value rows x before after
  JudgeCells rows x before after (Err f) = RefusedCells rows x before after f

  -- the reply of a marking as a run of calls has it: the marks are the first so many of the mark cells
  abbrev pub mark_reply : List Mark → Result (Marking G) MarkFault → Result (Marked K) ℕ
  mark_reply after (Ok m) = Ok (record { verdict = worth K value m.verdict; marks = take m.marks after })
  mark_reply after (Err f) = Err (mark_number f)

  -- the row cells, the want cells and the mark cells of a marking: what came before a lack of cells is complete, and what comes behind it is as it was
  abbrev pub MarkedCells : List Row → Readings → ℕ → List (Piece (Range G)) → List (Piece (Range G)) → List (Piece Bool) → List (Piece Bool) → List Mark → List Mark → Result (Marking G) MarkFault → Type 0
  MarkedCells rows x tick cells cells' wants wants' marks marks' (Ok m) = RowsComplete K value rows x cells cells' × WantsComplete K rows x tick wants wants' × MarksComplete K rows x tick marks marks' m.marks
  MarkedCells rows x tick cells cells' wants wants' marks marks' (Err (Judging f)) = RefusedCells rows x cells cells' f × (wants' ≡ wants) × (marks' ≡ marks)
  MarkedCells rows x tick cells cells' wants wants' marks marks' (Err WantCells) = RowsComplete K value rows x cells cells' × WantsCut K rows x tick wants wants' × (marks' ≡ marks)
  MarkedCells rows x tick cells cells' wants wants' marks marks' (Err MarkCells) = RowsComplete K value rows x cells cells' × WantsComplete K rows x tick wants wants' × MarksCut K rows x tick marks marks'
