-- A job's state: each line's pieces, how many entries were accepted, and whether entering has ended.
use Rattle.std.specs.Prelude.{ℕ, ◌/◌, min, Bool, false, List, [], ◌∷◌, replicate, ℤ, slice_index_or}
use Rattle.pieces.specs.declared.piece.Piece.{Piece}
use Rattle.pieces.specs.Pieces.{at_from}
use Rattle.runs.specs.Bounds.{most_lines, line_cells}
use Rattle.meaning.specs.declared.reading.Reading.{Reading}
use Rattle.meaning.specs.Readings.{Readings, widest}
use Rattle.runs.specs.Nearest.{low_end, high_end, low_fits, high_fits, ends_ordered}

pub record State : Type 0 where
  pub lines : List (List (Piece Reading))
  pub tally : ℕ
  pub sealed : Bool

-- what a piece list reads at a tick; nothing is known where there is no list
abbrev pub reading_at : List (Piece Reading) → ℕ → Reading
reading_at [] t = widest
reading_at (p ∷ ps) t = at_from p.value ps t

abbrev pub readings_of : State → Readings
readings_of s line t = reading_at (slice_index_or s.lines line []) t

-- the reading with these ends; numbers that are not the ends of one, which no accepted entry has, are moved to the nearest
abbrev pub made : ℤ → ℤ → Reading
made lower upper = record { lower = low_end lower; upper = high_end lower upper; bottom = low_fits lower; top = high_fits lower upper; ordered = ends_ordered lower upper }

-- a line of which nothing is known
abbrev pub blank : List (Piece Reading)
blank = record { start = 0; value = widest } ∷ []

-- a job just opened with so many lines
abbrev pub opened : ℕ → State
opened n = record { lines = replicate n blank; tally = 0; sealed = false }

-- how many lines a job has: those asked for, 16, or those that the cells have room for, whichever is least
abbrev pub line_count : ℕ → ℕ → ℕ
line_count asked cells = min asked (min most_lines (cells / line_cells))
