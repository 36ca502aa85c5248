-- What is kept of rows, tick by tick: their values, and where they are wanted.
use Rattle.std.specs.Prelude.{◌≡◌, ℕ, min, Bool, true, false, ◌&&◌, nat_lt, List, pos, Some, None, Option, ◌≢◌, slice_get, slice_index_or}
use Rattle.rules.specs.declared.row.Row.{Row}
use Rattle.rules.specs.declared.row.Row.TheVariants.{Test, Not, And, Or, Eventually, Always, Until}
use Rattle.reference.specs.declared.ends.Ends.{Ends}
use Rattle.reference.specs.declared.values.Values.{Values}
use Rattle.reference.specs.declared.wants.Wants.{Wants}

-- what there is where no row is
abbrev pub nothing : Ends
nothing = record { lower = pos 0; upper = pos 0 }

abbrev pub in_row : Option (List Ends) → ℕ → Ends
in_row (Some values) t = slice_index_or values t nothing
in_row None t = nothing

-- the value of a row at a tick: from tick 48 on always the same
abbrev pub value_at : Values → ℕ → ℕ → Ends
value_at values row t = in_row (slice_get values.rows row) (min t 48)

abbrev pub said_of : Option (List Bool) → ℕ → Bool
said_of (Some wants) t = nat_lt t 128 && slice_index_or wants t false
said_of None t = false

-- whether a row is wanted at a tick, one of the 128 that are kept
abbrev pub wanted_at : Wants → ℕ → ℕ → Bool
wanted_at wants row t = said_of (slice_get wants.rows row) t

-- there is such a row, and it is a test
abbrev pub is_some_test : Option Row → Bool
is_some_test (Some (Test line side limit)) = true
is_some_test (Some (Not c)) = false
is_some_test (Some (And l r)) = false
is_some_test (Some (Or l r)) = false
is_some_test (Some (Eventually a b c)) = false
is_some_test (Some (Always a b c)) = false
is_some_test (Some (Until a b l r)) = false
is_some_test None = false

-- the row is a test that is wanted at the tick and not settled there
pub record Waits (rows : List Row) (values : Values) (wants : Wants) (row t : ℕ) : Type 0 where
  pub tests : is_some_test (slice_get rows row) ≡ true
  pub wanted : wanted_at wants row t ≡ true
  pub unsettled : (value_at values row t).lower ≢ (value_at values row t).upper
