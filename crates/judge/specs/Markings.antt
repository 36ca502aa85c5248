-- What stands in the cells before and after the want lists and the marks are written.
use Rattle.std.specs.Prelude.{◌≡◌, ℕ, ◌+◌, ◌-◌, ◌<◌, ◌≤◌, Bool, List, length, take, Ok, Err, Result, ◌==◌}
use Rattle.grades.specs.Kinds.{Kind}
use Rattle.grades.specs.Ranges.{Span}
use Rattle.grades.specs.Worth.{worth}
use Rattle.grades.specs.declared.range.Range.{Range}
use Rattle.pieces.specs.declared.piece.Piece.{Piece}
use Rattle.pieces.specs.Cells.{shown, Written}
use Rattle.rules.specs.declared.row.Row.{Row}
use Rattle.rules.specs.Rows.{root, reach, Sound}
use Rattle.meaning.specs.declared.mark.Mark.{Mark}
use Rattle.meaning.specs.Readings.{Readings}
use Rattle.runs.specs.Calls.{all, RowLists, TellsWanted, WantLists}
use Rattle.judge.specs.Places.{list_at, ListStands}
use Rattle.judge.specs.Children.{said}
use Rattle.judge.specs.declared.fault.MarkFault.{MarkFault}
use Rattle.judge.specs.declared.fault.MarkFault.TheVariants.{Judging, WantCells, MarkCells}
use Rattle.judge.specs.Cells.{BeginsWith, WantsComplete, WantsCut, MarksComplete, MarksCut}
use Rattle.judge.specs.Judges.{BeginAt}

-- yes at the tick alone
abbrev pub only_at : ℕ → ℕ → Bool
only_at tick u = u == tick

module _ (K : Kind) (rows : List Row) (x : Readings) where
  -- the lists of all rows stand in the cells, in row order
  pub record RangesStand {G : Type 0} (value : G → K.Value) (begins : List ℕ) (ranges : List (Piece (Range G))) : Type 0 where
    pub lists : List (List (Piece (Span K.Value)))
    pub listed : RowLists K rows x lists
    pub written : shown (worth K value) (take (length (all lists)) ranges) ≡ all lists
    pub fits : length (all lists) ≤ length ranges
    pub begin : BeginAt begins lists

  -- a sound table was judged at a tick, and no row is wanted from the limit on
  pub record Standing {G : Type 0} (value : G → K.Value) (tick limit : ℕ) (begins : List ℕ) (ranges : List (Piece (Range G))) : Type 0 where
    pub sound : Sound rows
    pub near : tick ≤ 500000000
    pub end : limit ≡ tick + reach rows + 1
    pub stand : RangesStand value begins ranges

  module _ (tick : ℕ) where
    -- the want lists of all rows stand in the cells, from the last row to row 0
    pub record WantsStand (starts : List ℕ) (wants : List (Piece Bool)) : Type 0 where
      pub lists : List (List (Piece Bool))
      pub listed : WantLists K rows x tick lists
      pub written : take (length (all lists)) wants ≡ all lists
      pub begin : BeginAt starts lists

    -- the want lists of the last n rows are there, each as it should be
    pub record WantsKnown (n : ℕ) (starts : List ℕ) (wants : List (Piece Bool)) : Type 0 where
      pub stands : (i : ℕ) → i < n → ListStands starts wants i
      pub right : (i : ℕ) → i < n → TellsWanted K rows x tick (root rows - i) (said (list_at starts wants i))

    -- a writing of the want list of the row that has i rows behind it
    abbrev pub WantWritten : {E : Type 0} → ℕ → List (Piece Bool) → ℕ → List (Piece Bool) → Result ℕ E → Type 0
    WantWritten i before used after r = (w : ℕ → Bool) × (TellsWanted K rows x tick (root rows - i) w × Written (λ b. b) w before used after r)

    -- a writing of all want lists: done, it tells where each begins
    abbrev pub WantsWritten : {E : Type 0} → List (Piece Bool) → List (Piece Bool) → Result (List ℕ) E → Type 0
    WantsWritten before after (Ok starts) = (wss : List (List (Piece Bool))) × (WantLists K rows x tick wss × BeginsWith (all wss) before after × BeginAt starts wss)
    WantsWritten before after (Err e) = WantsCut K rows x tick before after

    -- a writing of all marks: done, it tells how many there are
    abbrev pub MarksWritten : {E : Type 0} → List Mark → List Mark → Result ℕ E → Type 0
    MarksWritten before after (Ok n) = MarksComplete K rows x tick before after n
    MarksWritten before after (Err e) = MarksCut K rows x tick before after

    -- the want cells and the mark cells of a judged table: marks come once all want lists are written
    abbrev pub MarkedTable : List (Piece Bool) → List (Piece Bool) → List Mark → List Mark → Result ℕ MarkFault → Type 0
    MarkedTable wants wants' marks marks' (Ok n) = WantsComplete K rows x tick wants wants' × MarksComplete K rows x tick marks marks' n
    MarkedTable wants wants' marks marks' (Err (Judging f)) = ⊥
    MarkedTable wants wants' marks marks' (Err WantCells) = WantsCut K rows x tick wants wants' × (marks' ≡ marks)
    MarkedTable wants wants' marks marks' (Err MarkCells) = WantsComplete K rows x tick wants wants' × MarksCut K rows x tick marks marks'
