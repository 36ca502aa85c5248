-- What judging and marking write into cells: they begin with a list, or are full of the beginning of one that needs more.
use Rattle.std.specs.Prelude.{◌≡◌, ℕ, ◌<◌, ◌≤◌, Bool, List, length, take, drop}
use Rattle.grades.specs.Kinds.{Kind}
use Rattle.grades.specs.Ranges.{Span}
use Rattle.grades.specs.Worth.{worth}
use Rattle.grades.specs.declared.range.Range.{Range}
use Rattle.pieces.specs.declared.piece.Piece.{Piece}
use Rattle.pieces.specs.Cells.{shown}
use Rattle.rules.specs.declared.row.Row.{Row}
use Rattle.meaning.specs.declared.mark.Mark.{Mark}
use Rattle.meaning.specs.Readings.{Readings}
use Rattle.meaning.specs.Marks.{Marks}
use Rattle.runs.specs.Calls.{all, RowLists, WantLists}

-- the cells begin with xs, and behind them are as they were
pub record BeginsWith {X : Type 0} (xs before after : List X) : Type 0 where
  pub fits : length xs ≤ length before
  pub written : take (length xs) after ≡ xs
  pub behind : drop (length xs) after ≡ drop (length xs) before

-- xs needs more cells than there are: all are full of its beginning
pub record RunsOut {X : Type 0} (xs before after : List X) : Type 0 where
  pub longer : length before < length xs
  pub beginning : after ≡ take (length before) xs

module _ (K : Kind) {G : Type 0} (value : G → K.Value) (rows : List Row) (x : Readings) (before after : List (Piece (Range G))) where
  -- the cells suffice: they begin with the lists of all rows, in row order, and behind them are as they were
  pub record Complete (pss : List (List (Piece (Span K.Value)))) : Type 0 where
    pub listed : RowLists K rows x pss
    pub fits : length (all pss) ≤ length before
    pub written : shown (worth K value) (take (length (all pss)) after) ≡ all pss
    pub behind : drop (length (all pss)) after ≡ drop (length (all pss)) before

  -- the lists of all rows, in row order, need more cells than there are: all cells are full of their beginning
  pub record RowsRunOut (pss : List (List (Piece (Span K.Value)))) : Type 0 where
    pub listed : RowLists K rows x pss
    pub longer : length before < length (all pss)
    pub beginning : shown (worth K value) after ≡ take (length before) (all pss)

  abbrev pub RowsComplete : Type 0
  RowsComplete = (pss : List (List (Piece (Span K.Value)))) × Complete pss

  abbrev pub RowsCut : Type 0
  RowsCut = (pss : List (List (Piece (Span K.Value)))) × RowsRunOut pss

module _ (K : Kind) (rows : List Row) (x : Readings) (tick : ℕ) where
  -- the want lists of all rows, from the last row to row 0
  abbrev pub WantsComplete : List (Piece Bool) → List (Piece Bool) → Type 0
  WantsComplete before after = (wss : List (List (Piece Bool))) × (WantLists K rows x tick wss × BeginsWith (all wss) before after)

  abbrev pub WantsCut : List (Piece Bool) → List (Piece Bool) → Type 0
  WantsCut before after = (wss : List (List (Piece Bool))) × (WantLists K rows x tick wss × RunsOut (all wss) before after)

  -- the marks, which are n
  abbrev pub MarksComplete : List Mark → List Mark → ℕ → Type 0
  MarksComplete before after n = (ms : List Mark) × (Marks K rows x tick ms × (n ≡ length ms) × BeginsWith ms before after)

  abbrev pub MarksCut : List Mark → List Mark → Type 0
  MarksCut before after = (ms : List Mark) × (Marks K rows x tick ms × RunsOut ms before after)
