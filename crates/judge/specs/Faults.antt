-- The numbers of the refusals of judging and marking.
use Rattle.std.specs.Prelude.{ℕ}
use Rattle.judge.specs.declared.fault.JudgeFault.{JudgeFault}
use Rattle.judge.specs.declared.fault.JudgeFault.TheVariants.{NoSuchLine, LateTick, RowCells}
use Rattle.judge.specs.declared.fault.MarkFault.{MarkFault}
use Rattle.judge.specs.declared.fault.MarkFault.TheVariants.{Judging, WantCells, MarkCells}

abbrev pub judge_number : JudgeFault → ℕ
judge_number NoSuchLine = 7
judge_number LateTick = 8
judge_number RowCells = 9

abbrev pub mark_number : MarkFault → ℕ
mark_number (Judging f) = judge_number f
mark_number WantCells = 10
mark_number MarkCells = 11
