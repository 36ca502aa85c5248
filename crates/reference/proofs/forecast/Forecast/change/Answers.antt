use Rattle.std.proofs.Common.{rules, ◌≡◌, ◌≢◌}
use Rattle.std.proofs.lemmas.Iterator.{first_from_Range}
use borrow.Author.Tests.{tests}
use Rattle.reference.specs.Known.{forecast_reading}
use Rattle.reference.proofs.forecast.Forecast.change.Goals as goal

pub returns : goal.returns
returns c = first_from_Range _ _ _ c.find.result (λ k. forecast_reading c.args.self.now c.args.line k ≢ forecast_reading c.args.self.now c.args.line c.args.t) (λ k. forecast_reading c.args.self.now c.args.line k ≡ forecast_reading c.args.self.now c.args.line c.args.t) c.find.ensures.ran (λ x q k. search (rules, tests)) (λ x q k. search (rules, tests))
