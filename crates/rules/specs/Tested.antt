-- Which lines rows test.
use Rattle.std.specs.Prelude.{◌≡◌, ℕ, ◌<◌, Bool, true, false, List, length, ◌==◌, nat_lt}
use Rattle.rules.specs.declared.row.Row.{Row}
use Rattle.rules.specs.declared.row.Row.TheVariants.{Test, Not, And, Or, Eventually, Always, Until}
use Rattle.rules.specs.Rows.{row_at}

-- the row is a test of the line
abbrev pub Tests : Row → ℕ → Type 0
Tests (Test l s m) line = line ≡ l
Tests (Not a) line = ⊥
Tests (And a b) line = ⊥
Tests (Or a b) line = ⊥
Tests (Eventually a b d) line = ⊥
Tests (Always a b d) line = ⊥
Tests (Until a b l r) line = ⊥

-- some row tests the line
abbrev pub SomeTests : List Row → ℕ → Type 0
SomeTests rows line = (k : ℕ) × ((k < length rows) × Tests (row_at rows k) line)

-- each line that a row tests is one of the first ones
abbrev pub TestsOnlyBelow : List Row → ℕ → Type 0
TestsOnlyBelow rows lines = (k line : ℕ) → k < length rows → Tests (row_at rows k) line → line < lines

-- the test whether the row tests the line
abbrev pub row_tests : Row → ℕ → Bool
row_tests (Test l s m) line = line == l
row_tests (Not a) line = false
row_tests (And a b) line = false
row_tests (Or a b) line = false
row_tests (Eventually a b d) line = false
row_tests (Always a b d) line = false
row_tests (Until a b l r) line = false

-- the test whether the row tests none but the first lines
abbrev pub row_below : Row → ℕ → Bool
row_below (Test l s m) lines = nat_lt l lines
row_below (Not a) lines = true
row_below (And a b) lines = true
row_below (Or a b) lines = true
row_below (Eventually a b d) lines = true
row_below (Always a b d) lines = true
row_below (Until a b l r) lines = true
