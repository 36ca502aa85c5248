-- The numbers that bound a job.
use Rattle.std.specs.Prelude.{ℕ}

abbrev pub most_lines : ℕ
most_lines = 16

-- how many cells each line has of its own, and so the most pieces that it may have
abbrev pub line_cells : ℕ
line_cells = 64

-- the last tick at which an entry may end: from there on nothing is ever known
abbrev pub last_end : ℕ
last_end = 1000000001
