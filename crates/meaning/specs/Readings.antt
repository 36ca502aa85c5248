-- Readings, one inside another, and what all lines read at all ticks.
use Rattle.std.specs.Prelude.{◌≡◌, ℕ, cond, ◌&&◌, ℤ, pos, negsuc, ◌≤ℤ◌, Some, None, Option, ◌==◌, nat_le, nat_lt}
use Rattle.std.specs.Int.Signed.{le_z_yes}
use Rattle.rules.specs.Rows.{NumberFits}
use Rattle.meaning.specs.declared.reading.Reading.{Reading}

-- the numbers are the ends of a reading
abbrev pub ReadingEnds : ℤ → ℤ → Type 0
ReadingEnds lower upper = NumberFits lower × NumberFits upper × (lower ≤ℤ upper)

-- the reading with these ends, or none, where they are not the ends of one
abbrev pub ReadingWith : ℤ → ℤ → Option Reading → Type 0
ReadingWith lower upper None = ReadingEnds lower upper → ⊥
ReadingWith lower upper (Some p) = (p.lower ≡ lower) × (p.upper ≡ upper)

abbrev pub widest : Reading
widest = record { lower = negsuc 499999; upper = pos 500000; bottom = (le_z_yes tt, le_z_yes tt); top = (le_z_yes tt, le_z_yes tt); ordered = le_z_yes tt }

-- p is inside q
pub record Within (p q : Reading) : Type 0 where
  pub lower : q.lower ≤ℤ p.lower
  pub upper : p.upper ≤ℤ q.upper

-- the two ends are equal
abbrev pub Exact : Reading → Type 0
Exact p = p.lower ≡ p.upper

-- what each line reads at each tick
abbrev pub Readings : Type 0
Readings = ℕ → ℕ → Reading

-- each reading of y is inside that of x
abbrev pub AllWithin : Readings → Readings → Type 0
AllWithin y x = (line t : ℕ) → Within (y line t) (x line t)

-- an exact job: each of its readings is one number
abbrev pub AllExact : Readings → Type 0
AllExact y = (line t : ℕ) → Exact (y line t)

-- the readings x, with p set for the line from one tick to the tick before another
abbrev pub entered : Readings → ℕ → ℕ → ℕ → Reading → Readings
entered x line from to p = λ k t. cond (k == line && nat_le from t && nat_lt t to) p (x k t)
