-- What the steps of judging a table of rows leave in the cells, with where each list begins in them.
use Rattle.std.specs.Prelude.{◌≡◌, ℕ, ◌<◌, ◌≤◌, List, length, take, Ok, Err, Result, slice_index}
use Rattle.grades.specs.Kinds.{Kind}
use Rattle.grades.specs.Ranges.{Span}
use Rattle.grades.specs.Worth.{worth}
use Rattle.grades.specs.declared.range.Range.{Range}
use Rattle.pieces.specs.declared.piece.Piece.{Piece}
use Rattle.rules.specs.declared.row.Row.{Row}
use Rattle.meaning.specs.Readings.{Readings}
use Rattle.meaning.specs.Verdicts.{verdict}
use Rattle.runs.specs.States.{State, readings_of}
use Rattle.runs.specs.Calls.{all, HasLines}
use Rattle.judge.specs.declared.fault.JudgeFault.{JudgeFault}
use Rattle.judge.specs.declared.fault.JudgeFault.TheVariants.{NoSuchLine, LateTick, RowCells}
use Rattle.judge.specs.declared.judgement.Judgement.{Judgement}
use Rattle.judge.specs.Cells.{Complete, RowsCut}

-- begins has where each of the lists begins in the cells, and behind them where the last ends
pub record BeginAt {X : Type 0} (begins : List ℕ) (pss : List (List X)) : Type 0 where
  pub known : length pss < length begins
  pub at : (c : ℕ) → c ≤ length pss → slice_index begins c ≡ length (all (take c pss))

module _ (K : Kind) {G : Type 0} (value : G → K.Value) (rows : List Row) (x : Readings) (before after : List (Piece (Range G))) where
  -- a writing of all lists: done, it tells where each begins
  abbrev pub RowsWritten : {E : Type 0} → Result (List ℕ) E → Type 0
  RowsWritten (Ok begins) = (pss : List (List (Piece (Span K.Value)))) × (Complete K value rows x before after pss × BeginAt begins pss)
  RowsWritten (Err e) = RowsCut K value rows x before after

  -- a judgement: done, it answers the last row's range at the tick, and tells where each list begins
  abbrev pub JudgedRows : {E : Type 0} → ℕ → Result (Judgement G) E → Type 0
  JudgedRows tick (Ok j) = (pss : List (List (Piece (Span K.Value)))) × (Complete K value rows x before after pss × BeginAt j.begins pss × (worth K value j.verdict ≡ verdict K rows x tick))
  JudgedRows tick (Err e) = RowsCut K value rows x before after

-- a judged table, with where its lists begin; or the first thing that stands against it
module _ (K : Kind) {G : Type 0} (value : G → K.Value) where
  abbrev pub JudgedTable : State → List Row → ℕ → List (Piece (Range G)) → List (Piece (Range G)) → Result (Judgement G) JudgeFault → Type 0
  JudgedTable s rows tick before after (Ok j) =
      HasLines s rows × (tick ≤ 500000000) × JudgedRows K value rows (readings_of s) before after {E = ⊥} tick (Ok j)
  JudgedTable s rows tick before after (Err NoSuchLine) = (HasLines s rows → ⊥) × (after ≡ before)
  JudgedTable s rows tick before after (Err LateTick) = HasLines s rows × (tick ≤ 500000000 → ⊥) × (after ≡ before)
  JudgedTable s rows tick before after (Err RowCells) = HasLines s rows × (tick ≤ 500000000) × RowsCut K value rows (readings_of s) before after
