-- The first tick with the widest reading, by a search up to the horizon.
use Rattle.std.proofs.Common.{◌≡◌, ◌≢◌, ℕ, ◌<◌, ◌≤◌, Some, None, Option, subst, sym, arith}
use Rattle.std.specs.Option.{MatchOption, unwrap_or}
use Rattle.reference.specs.declared.forecast.Forecast.{Forecast}
use Rattle.reference.specs.Known.{forecast_reading, widest_ends, FirstWidest}

pub first_widest : (f : Forecast) (line : ℕ) (o : Option ℕ) (t : ℕ) → t ≡ unwrap_or o 48 → MatchOption o ((k : ℕ) → 0 ≤ k → k < 48 → forecast_reading f line k ≢ widest_ends) (λ i. (0 ≤ i) × (i < 48) × (forecast_reading f line i ≡ widest_ends) × ((k : ℕ) → 0 ≤ k → k < i → forecast_reading f line k ≢ widest_ends)) → FirstWidest f line t
first_widest f line (Some i) t e h = subst (λ n. FirstWidest f line n) (sym e) (record { within = omega (arith, h.1); here = λ less. h.2; before = λ k less. h.3 k (omega arith) less })
first_widest f line None t e h = subst (λ n. FirstWidest f line n) (sym e) (record { within = omega arith; here = λ less. absurd (omega (arith, less)); before = λ k less. h k (omega arith) less })
