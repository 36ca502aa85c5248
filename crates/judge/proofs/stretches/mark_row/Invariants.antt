use Rattle.std.proofs.Common.{◌≡◌, ℕ, ◌+◌, ◌-◌, true, List, length}
use Rattle.pieces.specs.Cells.{Put}
use Rattle.judge.specs.Yes.{FirstFrom}
use Rattle.judge.specs.Marks.{Upto}
use Rattle.meaning.specs.declared.mark.Mark.{Mark}
use Rattle.judge.proofs.stretches.mark_row.Given as goal

abbrev pub invariant-loop-start : goal.invariant-loop-start
invariant-loop-start g l =
    (ms : List Mark) × ((l.end ≡ l.used + length ms) × Put l.initial.marks l.used ms l.marks ×
    ((e : ℕ) × (Upto (g.S.YesNo.f l.source) l.limit l.row 0 ms e × FirstFrom (g.S.YesNo.f l.source) true e l.limit l.start)))

abbrev pub decreases-loop-start : goal.decreases-loop-start
decreases-loop-start g l = l.limit - l.start
