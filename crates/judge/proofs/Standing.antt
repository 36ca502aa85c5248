-- The lists of all rows stand in the cells, so each is there to be read and says what its row is worth.
use Rattle.std.proofs.Common.{◌≡◌, ℕ, ◌<◌, List, length, refl, arith}
use Rattle.grades.specs.Kinds.{Kind}
use Rattle.grades.specs.Ranges.{spans}
use Rattle.grades.specs.Worth.{worth}
use Rattle.grades.specs.declared.range.Range.{Range}
use Rattle.pieces.specs.declared.piece.Piece.{Piece}
use Rattle.rules.specs.declared.row.Row.{Row}
use Rattle.meaning.specs.Readings.{Readings}
use Rattle.meaning.specs.Values.{value}
use Rattle.meaning.specs.Verdicts.{ranges}
use Rattle.runs.specs.Calls.{all}
use Rattle.judge.specs.Places.{list_says, ListStands}
use Rattle.judge.specs.Markings.{RangesStand}
use Rattle.judge.proofs.Stacks.{Stacked, lies, heard_at}

module _ (K : Kind) {G : Type 0} (val : G → K.Value) (rows : List Row) (x : Readings) (begins : List ℕ) (cells : List (Piece (Range G))) (R : RangesStand K rows x val begins cells) where
  stacked : Stacked (worth K val) (value (ranges K) rows x) R.lists begins cells (length (all R.lists))
  stacked = record { listed = λ c h. R.listed.each c (omega (arith, R.listed.many)); marks = R.begin.at; top = refl; within = R.fits; holds = R.written }

  pub row_stands : (c : ℕ) → c < length rows → ListStands begins cells c
  row_stands c h = record {
    known = omega (arith, R.begin.known, R.listed.many);
    lies = lies (worth K val) (value (ranges K) rows x) R.lists begins cells (length (all R.lists)) stacked c (omega (arith, R.listed.many));
  }

  pub row_told : (c : ℕ) → c < length rows → (t : ℕ) → list_says K val begins cells c t ≡ value (ranges K) rows x c t
  row_told c h t = heard_at (worth K val) (value (ranges K) rows x) R.lists begins cells (length (all R.lists)) stacked (spans K).lowest c (omega (arith, R.listed.many)) t
