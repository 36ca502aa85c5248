use Rattle.std.proofs.Common.{take}
use Rattle.rules.proofs.Reaches.{Sofar}
use Rattle.rules.proofs.reach.reach_of.Given as goal

abbrev pub invariant-loop-row : goal.invariant-loop-row
invariant-loop-row l = Sofar (take l.row-index l.rows) l.found.items
