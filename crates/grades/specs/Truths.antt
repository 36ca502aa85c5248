-- The kind whose values are false and true.
use Rattle.std.specs.Prelude.{Bool, true, false, not, ◌&&◌, ◌||◌, T, pos, int_le}
use Rattle.std.proofs.Math.Bool.{Bool-discrete}
use Rattle.grades.specs.Kinds.{Kind}

-- false is at most true
abbrev pub Implied : Bool → Bool → Type 0
Implied true b = T b
Implied false b = Unit {0}

-- a gap is true from 0 up
abbrev pub truths : Kind
truths = record { Value = Bool; below = Implied; meet = ◌&&◌; join = ◌||◌; opposite = not; lowest = false; highest = true; of_gap = int_le (pos 0); same = Bool-discrete }
