use Rattle.compare.specs.Cells.{Blanks}
use Rattle.compare.proofs.cells.blanks.Given as goal

abbrev pub invariant-loop : goal.invariant-loop
invariant-loop g l = Blanks g.C.Cell.held g.C.Cell.unwritten l.counter l.cells.items
