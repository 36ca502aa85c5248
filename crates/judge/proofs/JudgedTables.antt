-- From a judged table to the answer of the call: the first condition that fails, the verdict, and the cells.
use Rattle.std.proofs.Common.{ℕ, List, [], length, Some, None, Ok, Err, Option, refl, inl, inr}
use Rattle.grades.specs.Kinds.{Kind}
use Rattle.grades.specs.Worth.{worth}
use Rattle.grades.specs.declared.range.Range.{Range}
use Rattle.pieces.specs.declared.piece.Piece.{Piece}
use Rattle.rules.specs.declared.row.Row.{Row}
use Rattle.runs.specs.States.{State, readings_of}
use Rattle.runs.specs.Conditions.{Condition, FirstFailing}
use Rattle.runs.specs.Calls.{judge_asks, JudgeTurn}
use Rattle.runs.proofs.Conditions.{failing_behind}
use Rattle.judge.specs.declared.fault.JudgeFault.{JudgeFault}
use Rattle.judge.specs.declared.fault.JudgeFault.TheVariants.{NoSuchLine, LateTick, RowCells}
use Rattle.judge.specs.declared.judgement.Judgement.{Judgement}
use Rattle.judge.specs.Faults.{judge_number}
use Rattle.judge.specs.Judges.{JudgedTable}
use Rattle.judge.specs.Answers.{RefusedCells}
use Rattle.judge.proofs.Pinned.{complete_fits, cut_misfits}

module _ (K : Kind) {G : Type 0} (val : G → K.Value) (s : State) (rows : List Row) (tick : ℕ) (before after : List (Piece (Range G))) where
  -- a refusal is the first condition that fails, whatever else is asked behind it
  pub refused_first : (more : List Condition) (f : JudgeFault) → JudgedTable K val s rows tick before after (Err f) → FirstFailing (judge_asks K s rows tick (length before) more) (Some (judge_number f))
  refused_first more NoSuchLine h = inl (h.0, refl)
  refused_first more LateTick h = inr (h.0, inl (h.1, refl))
  refused_first more RowCells h = inr (h.0, inr (h.1, inl (cut_misfits K rows (readings_of s) val before after h.2.0 h.2.1, refl)))

  -- a judged table keeps all three conditions, so what is asked behind them decides
  pub judged_first : (more : List Condition) (j : Judgement G) → JudgedTable K val s rows tick before after (Ok j) → (o : Option ℕ) → FirstFailing more o → FirstFailing (judge_asks K s rows tick (length before) more) o
  judged_first more j h o rest =
      failing_behind (judge_asks K s rows tick (length before) []) more o (h.0, (h.1, (complete_fits K rows (readings_of s) val before after h.2.0 h.2.1.0, tt))) rest

  pub refused_cells : (f : JudgeFault) → JudgedTable K val s rows tick before after (Err f) → RefusedCells K val rows (readings_of s) before after f
  refused_cells NoSuchLine h = h.1
  refused_cells LateTick h = h.2
  refused_cells RowCells h = h.2

  pub judged_turn : (j : Judgement G) → JudgedTable K val s rows tick before after (Ok j) → JudgeTurn K s rows tick (length before) (Ok (worth K val j.verdict))
  judged_turn j h = (judged_first [] j h None refl, h.2.1.2)
