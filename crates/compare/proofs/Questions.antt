-- A job that lacks a line that a rule tests.
use Rattle.std.proofs.Common.{◌≡◌, ℕ, ◌<◌, ◌≤◌, List, length, arith}
use Rattle.std.specs.List.{HoldsAt}
use Rattle.rules.specs.declared.row.Row.{Row}
use Rattle.rules.specs.declared.row.Row.TheVariants.{Not}
use Rattle.rules.specs.Tested.{Tests}
use Rattle.runs.specs.States.{State}
use Rattle.runs.specs.Calls.{HasLines}

-- the row tests a line from the n-th on
abbrev pub TestsFrom : ℕ → Row → Type 0
TestsFrom n row = (line : ℕ) × Tests row line × (n ≤ line)

pub lacks_lines : (rows : List Row) (n : ℕ) → (k : ℕ) × (k < length rows) × HoldsAt (TestsFrom n) rows k → (s : State) → length s.lines ≡ n → HasLines s rows → ⊥
lacks_lines rows n (k, less, found) s e has =
    let f : _ = found (Not 0) in
    let there : f.0 < length s.lines = has k f.0 less f.1 in
    omega arith
