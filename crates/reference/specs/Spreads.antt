-- How wants grow: what is wanted stays so, and what comes is at a tick or later.
use Rattle.std.specs.Prelude.{◌≡◌, ℕ, ◌≤◌, ◌⊎◌, true}
use Rattle.reference.specs.declared.wants.Wants.{Wants}
use Rattle.reference.specs.Tables.{wanted_at}

pub record SpreadFrom (t : ℕ) (old new : Wants) : Type 0 where
  pub stays : (row u : ℕ) → wanted_at old row u ≡ true → wanted_at new row u ≡ true
  pub comes : (row u : ℕ) → wanted_at new row u ≡ true → (wanted_at old row u ≡ true) ⊎ (t ≤ u)
