-- All that a call may find and change: the job's state, the cells that the job lies in, and the cells that are lent to the judge.
use Rattle.std.specs.Prelude.{◌≡◌, ℕ, ◌*◌, List, length, drop}
use Rattle.pieces.specs.declared.piece.Piece.{Piece}
use Rattle.meaning.specs.declared.reading.Reading.{Reading}
use Rattle.runs.specs.States.{State, opened, line_count}
use Rattle.jobs.specs.declared.job.Job.{Job}
use Rattle.jobs.specs.Jobs.{state_of, cells_of}
use Rattle.lent.specs.declared.cells.Cells.{Cells}
use Rattle.lent.specs.Holding.{Contents, contents}

pub record Moment : Type 0 where
  pub state : State
  pub pieces : List (Piece Reading)
  pub lent : Contents

abbrev pub moment : Job → Cells → Moment
moment j c = record { state = state_of j; pieces = cells_of j; lent = contents c }

-- a job was just opened for so many lines over these pieces: the cells behind its lines are as they were, and so are those lent to the judge
pub record JustOpened (lines : ℕ) (pieces : List (Piece Reading)) (lent : Contents) (m : Moment) : Type 0 where
  pub state : m.state ≡ opened (line_count lines (length pieces))
  pub behind : drop (64 * line_count lines (length pieces)) m.pieces ≡ drop (64 * line_count lines (length pieces)) pieces
  pub lent_same : m.lent ≡ lent
