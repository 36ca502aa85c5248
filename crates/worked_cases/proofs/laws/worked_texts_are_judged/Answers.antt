use Rattle.std.proofs.Common.{refl}
use Rattle.meaning.specs.Values.{over, until_at, step, values, value}
use Rattle.worked_cases.proofs.GuardText.{guard_read}
use Rattle.worked_cases.proofs.UntilText.{until_read}
use Rattle.worked_cases.proofs.LowestTexts.{lowest_read, above_read}
use Rattle.worked_cases.proofs.laws.worked_texts_are_judged.Goals as goal

pub returns : goal.returns
unfolding over until_at step values value
returns c = record {
  unsure = record { rows = _; read = guard_read; comes = refl };
  pass = record { rows = _; read = guard_read; comes = refl };
  late = λ r. record { rows = _; read = until_read; comes = refl };
  timely = λ r. record { rows = _; read = until_read; comes = refl };
  lowest = λ t. record { rows = _; read = lowest_read; comes = refl };
  above = λ t. record { rows = _; read = above_read; comes = refl };
}
