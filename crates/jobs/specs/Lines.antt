-- The lines of a job as they lie in lent cells, and the state that they make.
use Rattle.std.specs.Prelude.{ℕ, ◌*◌, List, map, take, drop, slice_index_or}
use Rattle.std.specs.List.{range_with_len}
use Rattle.pieces.specs.declared.piece.Piece.{Piece}
use Rattle.meaning.specs.declared.reading.Reading.{Reading}
use Rattle.runs.specs.Bounds.{line_cells}
use Rattle.runs.specs.States.{State}
use Rattle.jobs.specs.declared.held.Held.{Held}
use Rattle.jobs.specs.declared.held.LineNote.{LineNote}

-- the n cells from base on
abbrev pub cells_from : {X : Type 0} → List X → ℕ → ℕ → List X
cells_from cells base n = take n (drop base cells)

-- what is noted of a line that there is no note of
abbrev pub no_note : LineNote
no_note = record { count = 0 }

-- how many pieces line k has
abbrev pub noted_count : Held → ℕ → ℕ
noted_count h k = (slice_index_or h.notes k no_note).count

-- the pieces of line k
abbrev pub held_pieces : List (Piece Reading) → Held → ℕ → List (Piece Reading)
held_pieces cells h k = cells_from cells (line_cells * k) (noted_count h k)

abbrev pub held_state : List (Piece Reading) → Held → State
held_state cells h = record { lines = map (held_pieces cells h) (range_with_len 0 h.lines); tally = h.tally; sealed = h.sealed }
