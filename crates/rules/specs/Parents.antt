-- Which row has another as its child.
use Rattle.std.specs.Prelude.{ℕ, suc, ◌<◌, ◌≤◌, Bool, false, ◌||◌, List, length, Some, None, Option, ◌==◌}
use Rattle.rules.specs.declared.row.Row.{Row}
use Rattle.rules.specs.declared.row.Row.TheVariants.{Test, Not, And, Or, Eventually, Always, Until}
use Rattle.rules.specs.Rows.{row_at, Child}

-- the first of the rows that has the child c, if one has
abbrev pub FirstParent : List Row → ℕ → Option ℕ → Type 0
FirstParent rows c None = (k : ℕ) → k < length rows → Child (row_at rows k) c → ⊥
FirstParent rows c (Some p) = (p < length rows) × (Child (row_at rows p) c × ((k : ℕ) → k < p → Child (row_at rows k) c → ⊥))

-- in a rule: the row whose child c is; the last row, and a number that is no row's, have none
abbrev pub Parent : List Row → ℕ → Option ℕ → Type 0
Parent rows c None = length rows ≤ suc c
Parent rows c (Some p) = (p < length rows) × Child (row_at rows p) c

-- the test whether the row c is a child of the row
abbrev pub has_child : Row → ℕ → Bool
has_child (Test l s m) c = false
has_child (Not a) c = c == a
has_child (And a b) c = c == a || c == b
has_child (Or a b) c = c == a || c == b
has_child (Eventually a b d) c = c == d
has_child (Always a b d) c = c == d
has_child (Until a b l r) c = c == l || c == r
