use Rattle.cases.proofs.OneReading.{one_opening, one_step, one_place}
use Rattle.cases.proofs.laws.readings_are_one.Goals as goal

pub returns : goal.returns
returns c = record { opening = one_opening; step = one_step; place = one_place }
