use Rattle.std.proofs.Common.{rules, min, ℕ, refl}
use Rattle.std.proofs.lemmas.Iterator.{cases_from_all, YieldsList-from_range}
use borrow.Author.Tests.{tests}
use Rattle.reference.specs.Known.{forecast_reading, EndsWithin, ends_of}
use Rattle.reference.proofs.Ranges.{each_tested}
use Rattle.reference.proofs.forecast.Forecast.narrowed_by.Goals as goal

pub returns : goal.returns
returns c =
    let P : ℕ → Type 0 = λ t. EndsWithin (ends_of c.args.entry) (forecast_reading c.args.self.now c.args.entry.line t) in
    each_tested P c.args.entry.from c.args.entry.to 49 _ _ c.all.result refl refl (cases_from_all _ _ c.all.result P (λ t. P t → ⊥) c.all.ensures.ran (YieldsList-from_range (min c.args.entry.from (min c.args.entry.to 49)) (min c.args.entry.to 49) _ c.kept_ticks.ensures refl) (λ x q k. search (rules, tests)) (λ x q k. search (rules, tests)))
