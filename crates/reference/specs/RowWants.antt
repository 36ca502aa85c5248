-- Where rows are wanted for a verdict at a tick: the last one at the tick, and none before it.
use Rattle.std.specs.Prelude.{◌≡◌, ℕ, ◌<◌, ◌≤◌, true, List, length}
use Rattle.rules.specs.declared.row.Row.{Row}
use Rattle.rules.specs.Rows.{root}
use Rattle.reference.specs.declared.wants.Wants.{Wants}
use Rattle.reference.specs.Tables.{wanted_at}

-- the last of 1 to 64 rows is wanted at the tick, if that is one of the 128 that are kept; no row is wanted earlier
pub record AskedAt (rows : List Row) (tick : ℕ) (w : Wants) : Type 0 where
  pub last : 0 < length rows → length rows ≤ 64 → tick < 128 → wanted_at w (root rows) tick ≡ true
  pub later : (row t : ℕ) → wanted_at w row t ≡ true → tick ≤ t
