use Rattle.std.proofs.Common.{refl}
use Rattle.meaning.specs.Values.{over, until_at, step, values, value}
use Rattle.meaning.proofs.Tables.{guard_sound, until_sound, at_least_sound}
use Rattle.meaning.proofs.Samples.{forecast_marks, refined_marks}
use Rattle.meaning.proofs.worked.worked_cases_stand.Goals as goal

pub returns : goal.returns
unfolding over until_at step values value
returns c = record {
  rules = (guard_sound, until_sound, at_least_sound);
  unsure = refl;
  margin = (refl, refl);
  marks = forecast_marks;
  pass = refl;
  finer = (refl, refl);
  unmarked = refined_marks;
  late = λ r. refl;
  timely = λ r. refl;
  lowest = λ t. refl;
  above = λ t. refl;
}
