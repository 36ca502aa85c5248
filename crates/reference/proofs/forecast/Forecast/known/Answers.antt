use Rattle.std.proofs.Common.{rules, ◌≡◌, ◌≢◌, ℕ}
use Rattle.std.proofs.lemmas.Iterator.{first_from_Range}
use borrow.Author.Tests.{tests}
use Rattle.reference.specs.Known.{forecast_reading, widest_ends}
use Rattle.reference.proofs.Firsts.{first_widest}
use Rattle.reference.proofs.forecast.Forecast.known.Goals as goal

pub returns : goal.returns
returns c =
    let read : ℕ → _ = forecast_reading c.args.self.now c.args.line in
    first_widest c.args.self.now c.args.line c.find.result c.unwrap_or.result c.unwrap_or.ensures (first_from_Range _ _ _ c.find.result (λ k. read k ≡ widest_ends) (λ k. read k ≢ widest_ends) c.find.ensures.ran (λ x q k. search (rules, tests)) (λ x q k. search (rules, tests)))
