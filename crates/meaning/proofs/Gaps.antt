-- The gaps at a reading's two ends.
use Rattle.std.proofs.Common.{◌≡◌, ℤ, ◌-ℤ◌, ◌≤ℤ◌, ap, arith}
use Rattle.std.specs.Int.{int_min, int_max}
use Rattle.std.proofs.lemmas.Int.{ints, clamps}
use Rattle.grades.specs.Gaps.{GapFits}
use Rattle.rules.specs.Rows.{NumberFits}
use Rattle.rules.specs.declared.row.Side.{Side}
use Rattle.rules.specs.declared.row.Side.TheVariants.{AtLeast, AtMost}
use Rattle.meaning.specs.declared.reading.Reading.{Reading}
use Rattle.meaning.specs.Readings.{Within, Exact}
use Rattle.meaning.specs.Limits.{gap, low_gap, high_gap}

pub gap_fits : (s : Side) (m n : ℤ) → NumberFits m → NumberFits n → GapFits (gap s m n)
gap_fits AtLeast m n h k = omega (arith, ints)
gap_fits AtMost m n h k = omega (arith, ints)

min_fits : (a b : ℤ) → GapFits a → GapFits b → GapFits (int_min a b)
min_fits a b h k = omega (arith, ints, clamps)

max_fits : (a b : ℤ) → GapFits a → GapFits b → GapFits (int_max a b)
max_fits a b h k = omega (arith, ints, clamps)

min_max : (a b : ℤ) → int_min a b ≤ℤ int_max a b
min_max a b = omega (arith, ints, clamps)

min_same : (a b : ℤ) → a ≡ b → (int_min a b ≡ a) × (int_max a b ≡ a)
min_same a b e = (omega (arith, ints, clamps), omega (arith, ints, clamps))

module _ (s : Side) (m : ℤ) where
  pub low_fits : (p : Reading) → NumberFits m → GapFits (low_gap s m p)
  low_fits p h = min_fits _ _ (gap_fits s m p.lower h p.bottom) (gap_fits s m p.upper h p.top)

  pub high_fits : (p : Reading) → NumberFits m → GapFits (high_gap s m p)
  high_fits p h = max_fits _ _ (gap_fits s m p.lower h p.bottom) (gap_fits s m p.upper h p.top)

  pub low_high : (p : Reading) → low_gap s m p ≤ℤ high_gap s m p
  low_high p = min_max (gap s m p.lower) (gap s m p.upper)

  -- the gaps of a reading with equal ends
  pub one_gap : (p : Reading) → Exact p → (low_gap s m p ≡ gap s m p.lower) × (high_gap s m p ≡ gap s m p.lower)
  one_gap p e = min_same (gap s m p.lower) (gap s m p.upper) (ap (gap s m) e)

-- by side, the smaller gap is at the one end or at the other
pub gaps_at_least : (m : ℤ) (p : Reading) → (low_gap AtLeast m p ≡ p.lower -ℤ m) × (high_gap AtLeast m p ≡ p.upper -ℤ m)
gaps_at_least m p = (omega (arith, ints, clamps), omega (arith, ints, clamps))

pub gaps_at_most : (m : ℤ) (p : Reading) → (low_gap AtMost m p ≡ m -ℤ p.upper) × (high_gap AtMost m p ≡ m -ℤ p.lower)
gaps_at_most m p = (omega (arith, ints, clamps), omega (arith, ints, clamps))

-- a reading inside another has its gaps between the other's
pub low_within : (s : Side) (m : ℤ) (q p : Reading) → Within q p → low_gap s m p ≤ℤ low_gap s m q
low_within AtLeast m q p h = omega (arith, ints, clamps)
low_within AtMost m q p h = omega (arith, ints, clamps)

pub high_within : (s : Side) (m : ℤ) (q p : Reading) → Within q p → high_gap s m q ≤ℤ high_gap s m p
high_within AtLeast m q p h = omega (arith, ints, clamps)
high_within AtMost m q p h = omega (arith, ints, clamps)

-- and so has its lower end
pub low_holds : (s : Side) (m : ℤ) (q p : Reading) → Within q p → low_gap s m p ≤ℤ gap s m q.lower
low_holds AtLeast m q p h = omega (arith, ints, clamps)
low_holds AtMost m q p h = omega (arith, ints, clamps)

pub high_holds : (s : Side) (m : ℤ) (q p : Reading) → Within q p → gap s m q.lower ≤ℤ high_gap s m p
high_holds AtLeast m q p h = omega (arith, ints, clamps)
high_holds AtMost m q p h = omega (arith, ints, clamps)
