-- Which value a row has at a tick: a test by what its line reads, a row of rows by the values of its children.
use Rattle.std.specs.Prelude.{◌≡◌, ℕ, ◌<◌, ◌≤◌, List, ℤ}
use Rattle.std.specs.Int.{w32, int_min, int_max, int_wrapping_sub}
use Rattle.rules.specs.declared.row.Row.{Row}
use Rattle.rules.specs.declared.row.Row.TheVariants.{Test, Not, And, Or, Eventually, Always, Until}
use Rattle.rules.specs.declared.row.Side.{Side}
use Rattle.rules.specs.declared.row.Side.TheVariants.{AtLeast, AtMost}
use Rattle.rules.specs.Rows.{row_at, Child}
use Rattle.reference.specs.declared.ends.Ends.{Ends}
use Rattle.reference.specs.declared.forecast.Forecast.{Forecast}
use Rattle.reference.specs.declared.values.Values.{Values}
use Rattle.reference.specs.Gradings.{Grading}
use Rattle.reference.specs.Known.{forecast_reading}
use Rattle.reference.specs.Tables.{nothing, value_at}

-- one number less the other in 32 bits, which is their difference where they are a reading and a limit in bounds
abbrev pub less : ℤ → ℤ → ℤ
less x y = int_wrapping_sub w32 x y

-- the grades of the gaps between the ends of a reading and a limit, the smaller gap's first
abbrev pub graded_gaps : Grading → Ends → Side → ℤ → Ends
graded_gaps S p AtLeast limit = record { lower = S.of_gap (less p.lower limit); upper = S.of_gap (less p.upper limit) }
graded_gaps S p AtMost limit = record { lower = S.of_gap (less limit p.upper); upper = S.of_gap (less limit p.lower) }

-- the ends of q are the opposites of those of p, exchanged
pub record Turned (S : Grading) (p q : Ends) : Type 0 where
  pub lower : S.Grade p.upper → q.lower ≡ S.opposite p.upper
  pub upper : S.Grade p.lower → q.upper ≡ S.opposite p.lower

abbrev pub lower_ends : Ends → Ends → Ends
lower_ends p q = record { lower = int_min p.lower q.lower; upper = int_min p.upper q.upper }

abbrev pub upper_ends : Ends → Ends → Ends
upper_ends p q = record { lower = int_max p.lower q.lower; upper = int_max p.upper q.upper }

-- the value that the row has at the tick, with these values for its children; of a row with a window nothing is said
abbrev pub Graded : Grading → Forecast → Values → Row → ℕ → Ends → Type 0
Graded S f v (Test line side limit) t e = e ≡ graded_gaps S (forecast_reading f line t) side limit
Graded S f v (Not c) t e = Turned S (value_at v c t) e
Graded S f v (And l r) t e = e ≡ lower_ends (value_at v l t) (value_at v r t)
Graded S f v (Or l r) t e = e ≡ upper_ends (value_at v l t) (value_at v r t)
Graded S f v (Eventually a b c) t e = Unit {0}
Graded S f v (Always a b c) t e = Unit {0}
Graded S f v (Until a b l r) t e = Unit {0}

-- each of the first n rows that has its children before it has its value at each tick, up to 64 rows; there is nothing behind them
pub record Valued (S : Grading) (rows : List Row) (f : Forecast) (n : ℕ) (v : Values) : Type 0 where
  pub each : (k t : ℕ) → k < n → k < 64 → ((c : ℕ) → Child (row_at rows k) c → c < k) → Graded S f v (row_at rows k) t (value_at v k t)
  pub behind : (k t : ℕ) → n ≤ k → value_at v k t ≡ nothing
