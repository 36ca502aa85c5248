-- The kind whose values are the whole numbers from -1,000,000 to 1,000,000.
use Rattle.std.specs.Prelude.{◌≡◌, cond, ℤ, pos, negsuc, neg_ℤ, ◌≤ℤ◌, int_le, int_lt}
use Rattle.std.proofs.Common.{ap}
use Rattle.std.proofs.Math.Path.{PathP}
use mathlib.Core.HLevel.{Discrete, is_prop→PathP, ×_prop}
use Rattle.std.proofs.Math.IntN.{ℤ_discrete}
use Rattle.std.proofs.Math.Dec.{T_prop}
use Rattle.std.specs.Int.Signed.{le_z_yes, ≤ℤ_refl}
use Rattle.std.specs.Int.{int_min, int_max}
use Rattle.grades.specs.Gaps.{GapFits}
use Rattle.grades.specs.Kinds.{Kind}
use Rattle.grades.specs.Wholes.{at_most_trans, at_most_both, turned_below, lower_left, lower_right, lower_most, upper_left, upper_right, upper_least}

pub record Level : Type 0 where
  pub number : ℤ
  pub ok : GapFits number

abbrev pub level_number : Level → ℤ
level_number p = p.number

le_prop : (x y : ℤ) → IsProp (x ≤ℤ y)
le_prop x y h k = λ i. record { le = T_prop (int_le x y) h.le k.le i }

-- levels of one number are one level
pub level_path : (p q : Level) → p.number ≡ q.number → p ≡ q
level_path p q e =
    let ok : PathP (λ i. GapFits (e i)) p.ok q.ok = is_prop→PathP (λ i. GapFits (e i)) (λ i. ×_prop (le_prop _ _) (le_prop _ _)) p.ok q.ok in
    λ i. record { number = e i; ok = ok i }

pub level_discrete : Discrete Level
level_discrete p q = elim (ℤ_discrete p.number q.number) [ yes e ↦ yes (level_path p q e) | no n ↦ no (λ e. n (ap (λ (g : Level). g.number) e)) ]

pub turned_fits : (z : ℤ) → GapFits z → GapFits (neg_ℤ z)
turned_fits z h = (turned_below z (pos 1000000) h.1, turned_below (negsuc 999999) z h.0)

-- a number goes by itself
abbrev itself : ℤ → ℤ
itself z = z

-- the number of those nearest to z
abbrev pub clamped : ℤ → ℤ
clamped z = int_max (negsuc 999999) (int_min z (pos 1000000))

pub clamped_fits : (z : ℤ) → GapFits (clamped z)
clamped_fits z = (upper_left itself (negsuc 999999) (int_min z (pos 1000000)), upper_least itself (negsuc 999999) (int_min z (pos 1000000)) (pos 1000000) (le_z_yes tt) (lower_right itself z (pos 1000000)))

pub clamped_rises : (y z : ℤ) → y ≤ℤ z → clamped y ≤ℤ clamped z
clamped_rises y z h =
    let low = int_min y (pos 1000000) in
    let high = int_min z (pos 1000000) in
    let rises : low ≤ℤ high = lower_most itself z (pos 1000000) low (at_most_trans low y z (lower_left itself y (pos 1000000)) h) (lower_right itself y (pos 1000000)) in
    upper_least itself (negsuc 999999) low (clamped z) (upper_left itself (negsuc 999999) high) (at_most_trans low high (clamped z) rises (upper_right itself (negsuc 999999) high))

-- what is in bounds is its own
pub clamped_is : (z : ℤ) → GapFits z → clamped z ≡ z
clamped_is z h =
    let low = int_min z (pos 1000000) in
    at_most_both (clamped z) z (upper_least itself (negsuc 999999) low z h.0 (lower_left itself z (pos 1000000))) (at_most_trans z low (clamped z) (lower_most itself z (pos 1000000) z (≤ℤ_refl z) h.1) (upper_right itself (negsuc 999999) low))

-- each gap is a grade, itself, and opposites are numbers of the other sign
abbrev pub margins : Kind
margins = record {
  Value = Level;
  below = λ p q. p.number ≤ℤ q.number;
  meet = λ p q. cond (int_lt q.number p.number) q p;
  join = λ p q. cond (int_lt q.number p.number) p q;
  opposite = λ p. record { number = neg_ℤ p.number; ok = turned_fits p.number p.ok };
  lowest = record { number = negsuc 999999; ok = (le_z_yes tt, le_z_yes tt) };
  highest = record { number = pos 1000000; ok = (le_z_yes tt, le_z_yes tt) };
  of_gap = λ z. record { number = clamped z; ok = clamped_fits z };
  same = level_discrete;
}
