-- The verdict of a rule on readings, and the grade that it gives an exact job.
use Rattle.std.specs.Prelude.{ℕ, ◌<◌, List, length, ℤ}
use Rattle.grades.specs.Kinds.{Kind}
use Rattle.grades.specs.Ranges.{Span, spans}
use Rattle.rules.specs.Rows.{row_at, root}
use Rattle.rules.specs.declared.row.Side.{Side}
use Rattle.rules.specs.declared.row.Row.{Row}
use Rattle.meaning.specs.declared.reading.Reading.{Reading}
use Rattle.meaning.specs.Readings.{Readings}
use Rattle.meaning.specs.Values.{Algebra, value}
use Rattle.meaning.specs.Meanings.{Means}
use Rattle.meaning.specs.Limits.{grade_of, range_of}

-- a kind's operations, with a step from what a line gives to the value of a test
abbrev pub algebra_of : (K : Kind) {X : Type 0} → (Side → ℤ → X → K.Value) → Algebra X K.Value
algebra_of K test = record { test = test; opposite = K.opposite; meet = K.meet; join = K.join; lowest = K.lowest }

module _ (K : Kind) where
  abbrev pub grades : Algebra Reading K.Value
  grades = algebra_of K (grade_of K)

  abbrev pub ranges : Algebra Reading (Span K.Value)
  ranges = algebra_of (spans K) (range_of K)

  -- v gives each row, at each tick, the range that the row means
  abbrev pub Meant : List Row → Readings → (ℕ → ℕ → Span K.Value) → Type 0
  Meant rows x v = (k t : ℕ) → k < length rows → Means (spans K) (range_of K) x v (row_at rows k) t (v k t)

  -- the last row's range at the tick
  abbrev pub verdict : List Row → Readings → ℕ → Span K.Value
  verdict rows x t = value ranges rows x (root rows) t

  -- an exact job's grade at the tick
  abbrev pub exact_grade : List Row → Readings → ℕ → K.Value
  exact_grade rows y t = value grades rows y (root rows) t
