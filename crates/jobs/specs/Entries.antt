-- Which cells an entry may change.
use Rattle.std.specs.Prelude.{◌≡◌, ℕ, ◌+◌, ◌*◌, List, take, drop, Ok, Err, Result}
use Rattle.runs.specs.Bounds.{line_cells}
use Rattle.jobs.specs.declared.fault.EnterFault.{EnterFault}

-- an accepted entry changes none but its line's cells, and one that is turned down changes none
abbrev pub Changes : {X : Type 0} → ℕ → List X → List X → Result (Unit {0}) EnterFault → Type 0
Changes line before after (Ok u) = (take (line_cells * line) after ≡ take (line_cells * line) before) × (drop (line_cells * line + line_cells) after ≡ drop (line_cells * line + line_cells) before)
Changes line before after (Err e) = after ≡ before
