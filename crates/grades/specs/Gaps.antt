-- The gaps that have a grade.
use Rattle.std.specs.Prelude.{ℤ, pos, negsuc, ◌≤ℤ◌}

abbrev pub GapFits : ℤ → Type 0
GapFits z = (negsuc 999999 ≤ℤ z) × (z ≤ℤ pos 1000000)
