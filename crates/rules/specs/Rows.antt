-- The rows of a rule, and what every rule's table of rows keeps.
use Rattle.std.specs.Prelude.{◌≡◌, ℕ, suc, pred, ◌+◌, ◌<◌, ◌≤◌, max, Bool, true, false, ◌&&◌, ◌⊎◌, List, [], ◌∷◌, ◌++◌, length, ℤ, pos, negsuc, ◌≤ℤ◌, ◌==◌, int_le, nat_le, nat_lt, slice_index, slice_index_or}
use Rattle.rules.specs.declared.row.Row.{Row}
use Rattle.rules.specs.declared.row.Row.TheVariants.{Test, Not, And, Or, Eventually, Always, Until}

abbrev pub row_at : List Row → ℕ → Row
row_at rows k = slice_index_or rows k (Not 0)

-- the last row, whose value is the rule's
abbrev pub root : List Row → ℕ
root rows = pred (length rows)

-- the row c is a child of the row
abbrev pub Child : Row → ℕ → Type 0
Child (Test l s m) c = ⊥
Child (Not a) c = c ≡ a
Child (And a b) c = (c ≡ a) ⊎ (c ≡ b)
Child (Or a b) c = (c ≡ a) ⊎ (c ≡ b)
Child (Eventually a b d) c = c ≡ d
Child (Always a b d) c = c ≡ d
Child (Until a b l r) c = (c ≡ l) ⊎ (c ≡ r)

-- a row with two children has two different ones
abbrev pub TwinsApart : Row → Type 0
TwinsApart (Test l s m) = Unit {0}
TwinsApart (Not a) = Unit {0}
TwinsApart (And a b) = a ≡ b → ⊥
TwinsApart (Or a b) = a ≡ b → ⊥
TwinsApart (Eventually a b d) = Unit {0}
TwinsApart (Always a b d) = Unit {0}
TwinsApart (Until a b l r) = l ≡ r → ⊥

-- the numbers that a reading and a limit may be
abbrev pub NumberFits : ℤ → Type 0
NumberFits z = (negsuc 499999 ≤ℤ z) × (z ≤ℤ pos 500000)

-- limits and windows are in bounds
abbrev pub RowFits : Row → Type 0
RowFits (Test l s m) = NumberFits m
RowFits (Not a) = Unit {0}
RowFits (And a b) = Unit {0}
RowFits (Or a b) = Unit {0}
RowFits (Eventually a b d) = a ≤ b
RowFits (Always a b d) = a ≤ b
RowFits (Until a b l r) = a ≤ b

-- the same as a test
abbrev pub row_fits : Row → Bool
row_fits (Test l s m) = int_le (negsuc 499999) m && int_le m (pos 500000)
row_fits (Not a) = true
row_fits (And a b) = true
row_fits (Or a b) = true
row_fits (Eventually a b d) = nat_le a b
row_fits (Always a b d) = nat_le a b
row_fits (Until a b l r) = nat_le a b

-- the children stand in rows before row k
abbrev pub row_earlier : Row → ℕ → Bool
row_earlier (Test l s m) k = true
row_earlier (Not a) k = nat_lt a k
row_earlier (And a b) k = nat_lt a k && nat_lt b k
row_earlier (Or a b) k = nat_lt a k && nat_lt b k
row_earlier (Eventually a b d) k = nat_lt d k
row_earlier (Always a b d) k = nat_lt d k
row_earlier (Until a b l r) k = nat_lt l k && nat_lt r k

-- how often row c is a child of the row, and of all rows
abbrev pub one_if : Bool → ℕ
one_if true = 1
one_if false = 0

abbrev pub kids : Row → ℕ → ℕ
kids (Test l s m) c = 0
kids (Not a) c = one_if (c == a)
kids (And a b) c = one_if (c == a) + one_if (c == b)
kids (Or a b) c = one_if (c == a) + one_if (c == b)
kids (Eventually a b d) c = one_if (c == d)
kids (Always a b d) c = one_if (c == d)
kids (Until a b l r) c = one_if (c == l) + one_if (c == r)

abbrev pub uses : List Row → ℕ → ℕ
uses [] c = 0
uses (r ∷ rows) c = kids r c + uses rows c

-- how many ticks ahead a row looks, by how far the earlier rows look
abbrev pub row_reach_by : List ℕ → Row → ℕ
row_reach_by rs (Test l s m) = 0
row_reach_by rs (Not a) = slice_index rs a
row_reach_by rs (And a b) = max (slice_index rs a) (slice_index rs b)
row_reach_by rs (Or a b) = max (slice_index rs a) (slice_index rs b)
row_reach_by rs (Eventually a b d) = slice_index rs d + b
row_reach_by rs (Always a b d) = slice_index rs d + b
row_reach_by rs (Until a b l r) = max (slice_index rs l) (slice_index rs r) + b

-- rs with the reaches of the rows behind
abbrev pub reaches_from : List ℕ → List Row → List ℕ
reaches_from rs [] = rs
reaches_from rs (r ∷ rows) = reaches_from (rs ++ (row_reach_by rs r ∷ [])) rows

abbrev pub reach : List Row → ℕ
reach rows = slice_index (reaches_from [] rows) (root rows)

pub record Sound (rows : List Row) : Type 0 where
  pub some_row : 0 < length rows
  pub few : length rows ≤ 64
  pub fits : (k : ℕ) → k < length rows → RowFits (row_at rows k)
  pub earlier : (k c : ℕ) → k < length rows → Child (row_at rows k) c → c < k
  -- each row but the last is a child of one row, and of one only
  pub used : (c : ℕ) → suc c < length rows → (k : ℕ) × (k < length rows) × Child (row_at rows k) c
  pub once : (j k c : ℕ) → j < length rows → k < length rows → Child (row_at rows j) c → Child (row_at rows k) c → j ≡ k
  pub apart : (k : ℕ) → k < length rows → TwinsApart (row_at rows k)
  pub near : reach rows ≤ 500000000
