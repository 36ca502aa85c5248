-- What always holds of what a job holds.
use Rattle.std.specs.Prelude.{◌≡◌, ℕ, ◌*◌, ◌<◌, ◌≤◌, List, length}
use Rattle.pieces.specs.declared.piece.Piece.{Piece}
use Rattle.pieces.specs.Pieces.{Canonical}
use Rattle.meaning.specs.declared.reading.Reading.{Reading}
use Rattle.meaning.specs.Readings.{widest}
use Rattle.runs.specs.Bounds.{most_lines, line_cells, last_end}
use Rattle.runs.specs.States.{reading_at}
use Rattle.jobs.specs.declared.held.Held.{Held}
use Rattle.jobs.specs.Lines.{noted_count, held_pieces}

-- the pieces are a list that is kept of some readings, and from the last tick at which an entry may end nothing is known
abbrev pub Kept : List (Piece Reading) → Type 0
Kept ps = Canonical ps × ((t : ℕ) → last_end ≤ t → reading_at ps t ≡ widest)

abbrev pub Short : Held → Type 0
Short h = (k : ℕ) → k < h.lines → noted_count h k ≤ line_cells

abbrev pub AllKept : List (Piece Reading) → Held → Type 0
AllKept cells h = (k : ℕ) → k < h.lines → Kept (held_pieces cells h k)

pub record HeldSound (cells : List (Piece Reading)) (h : Held) : Type 0 where
  pub few : h.lines ≤ most_lines
  pub room : line_cells * h.lines ≤ length cells
  pub short : Short h
  pub kept : ∥ AllKept cells h ∥₁
