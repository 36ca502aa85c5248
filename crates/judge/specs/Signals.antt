-- Lists of ranges as functions of ticks, and what is made of them at a tick.
use Rattle.std.specs.Prelude.{ℕ, List, Option}
use Rattle.grades.specs.Kinds.{Kind}
use Rattle.grades.specs.Ranges.{Span, spans}
use Rattle.grades.specs.Worth.{worth}
use Rattle.grades.specs.declared.range.Range.{Range}
use Rattle.pieces.specs.declared.piece.Piece.{Piece}
use Rattle.pieces.specs.Pieces.{at_from}
use Rattle.pieces.specs.Ticks.{Steady}
use Rattle.pieces.specs.Cells.{shown}
use Rattle.meaning.specs.Values.{until_at}
use Rattle.meaning.specs.Verdicts.{ranges}
use Rattle.judge.specs.declared.steps.Way.{Way}
use Rattle.judge.specs.declared.steps.Way.TheVariants.{Upper, Lower}

-- f stays as it is at t up to the tick o, which is not counted
abbrev pub Stays : {C : Type 0} → (ℕ → C) → ℕ → Option ℕ → Type 0
Stays f t o = Steady f t (f t) o

module _ (K : Kind) where
  -- the upper or the lower of two ranges
  abbrev pub op : Way → Span K.Value → Span K.Value → Span K.Value
  op Upper = (spans K).join
  op Lower = (spans K).meet

  module _ {G : Type 0} (value : G → K.Value) where
    -- what a list that begins at tick 0 says at each tick
    abbrev pub heard : List (Piece (Range G)) → ℕ → Span K.Value
    heard ps = at_from (spans K).lowest (shown (worth K value) ps)

    -- right there, and left all the way from t up to it
    abbrev pub goal : (left right : List (Piece (Range G))) → ℕ → ℕ → Span K.Value
    goal left right t u = until_at (ranges K) (heard left) (heard right) t u
