-- The ends of the reading that two numbers name: numbers that are not the ends of one are moved to the nearest.
use Rattle.std.specs.Prelude.{Bool, true, false, cond, [], ◌∷◌, ℤ, pos, negsuc, ◌≤ℤ◌, refl}
use Rattle.std.specs.Int.{int_min, int_max}
use Rattle.std.specs.Int.Signed.{le_z_yes}
use Rattle.std.proofs.lemmas.Int.{fold-int_max_bounds, fold-int_min_bounds}
use Rattle.rules.specs.Rows.{NumberFits}

abbrev pub low_end : ℤ → ℤ
low_end lower = int_max (negsuc 499999) (int_min (pos 500000) lower)

abbrev pub high_end : ℤ → ℤ → ℤ
high_end lower upper = int_max (low_end lower) (int_min (pos 500000) upper)

-- what both of two numbers are, either is
either_fits : (P : ℤ → Type 0) (b : Bool) (x y : ℤ) → P x → P y → P (cond b x y)
either_fits P true x y h k = h
either_fits P false x y h k = k

least_fits : (z : ℤ) → int_min (pos 500000) z ≤ℤ pos 500000
least_fits z = (fold-int_min_bounds (pos 500000) (z ∷ []) (int_min (pos 500000) z) refl).0

pub low_fits : (lower : ℤ) → NumberFits (low_end lower)
low_fits lower =
    let least = int_min (pos 500000) lower in
    ((fold-int_max_bounds (negsuc 499999) (least ∷ []) (low_end lower) refl).0, either_fits (λ z. z ≤ℤ pos 500000) _ (negsuc 499999) least (le_z_yes tt) (least_fits lower))

pub high_fits : (lower upper : ℤ) → NumberFits (high_end lower upper)
high_fits lower upper =
    let least = int_min (pos 500000) upper in
    ((fold-int_max_bounds (negsuc 499999) (int_min (pos 500000) lower ∷ (least ∷ [])) (high_end lower upper) refl).0, either_fits (λ z. z ≤ℤ pos 500000) _ (low_end lower) least (low_fits lower).1 (least_fits upper))

pub ends_ordered : (lower upper : ℤ) → low_end lower ≤ℤ high_end lower upper
ends_ordered lower upper = (fold-int_max_bounds (low_end lower) (int_min (pos 500000) upper ∷ []) (high_end lower upper) refl).0
