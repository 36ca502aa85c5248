use Rattle.std.proofs.Common.{◌≡◌, ◌+◌, drop}
use Rattle.rules.specs.Scans.{first_from, wrong_here}
use Rattle.rules.proofs.checks.out_of_bounds.Given as goal

abbrev pub invariant-loop-at : goal.invariant-loop-at
invariant-loop-at l = first_from wrong_here 1 l.tokens ≡ first_from wrong_here (1 + l.at) (drop l.at l.tokens)
