-- A job's state, and what a look-up in it tells.
use Rattle.std.specs.Prelude.{◌≡◌, ℕ, ◌<◌, ◌≤◌, List, length, Some, None, Option}
use Rattle.pieces.specs.declared.piece.Piece.{Piece}
use Rattle.pieces.specs.Ticks.{Steady, Changed}
use Rattle.meaning.specs.declared.reading.Reading.{Reading}
use Rattle.runs.specs.States.{State, readings_of}
use Rattle.jobs.specs.declared.job.Job.{Job}
use Rattle.jobs.specs.Lines.{held_state}

abbrev pub cells_of : Job → List (Piece Reading)
cells_of j = j.cells.now

-- a job over the same lent cells: what the one leaves in them when it ends, the other does
abbrev pub SameLoan : Job → Job → Type 0
SameLoan before after = after.cells.ghost_name ≡ before.cells.ghost_name

abbrev pub state_of : Job → State
state_of j = held_state j.cells.now j.held

-- what the line reads at t, and the tick where that next changes, if it does; none where there is no such line
abbrev pub Looked : State → ℕ → ℕ → Option (Reading × Option ℕ) → Type 0
Looked s line t None = length s.lines ≤ line
Looked s line t (Some r) = (line < length s.lines) × Steady (readings_of s line) t r.0 r.1 × Changed (readings_of s line) r.0 r.1
