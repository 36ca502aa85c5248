use Rattle.std.proofs.Common.{refl}
use Rattle.reference.proofs.Blanks.{unknown}
use Rattle.reference.proofs.forecast.Forecast.new.Goals as goal

pub returns : goal.returns
returns c = record { few = c.min.ensures; none_yet = refl; unsealed = refl; unknown = unknown }
