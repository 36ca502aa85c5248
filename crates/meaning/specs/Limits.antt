-- How a test grades a reading against its limit.
use Rattle.std.specs.Prelude.{ℤ, ◌-ℤ◌}
use Rattle.std.specs.Int.{int_min, int_max}
use Rattle.grades.specs.Kinds.{Kind}
use Rattle.grades.specs.Ranges.{Span, span}
use Rattle.rules.specs.declared.row.Side.{Side}
use Rattle.rules.specs.declared.row.Side.TheVariants.{AtLeast, AtMost}
use Rattle.meaning.specs.declared.reading.Reading.{Reading}

-- how far the number n is on the wanted side of the limit
abbrev pub gap : Side → ℤ → ℤ → ℤ
gap AtLeast limit n = n -ℤ limit
gap AtMost limit n = limit -ℤ n

-- of the gaps at a reading's two ends, the smaller and the larger
abbrev pub low_gap : Side → ℤ → Reading → ℤ
low_gap s limit p = int_min (gap s limit p.lower) (gap s limit p.upper)

abbrev pub high_gap : Side → ℤ → Reading → ℤ
high_gap s limit p = int_max (gap s limit p.lower) (gap s limit p.upper)

module _ (K : Kind) where
  -- a test's grade at a reading with equal ends
  abbrev pub grade_of : Side → ℤ → Reading → K.Value
  grade_of s limit p = K.of_gap (gap s limit p.lower)

  -- a test's range at a reading
  abbrev pub range_of : Side → ℤ → Reading → Span K.Value
  range_of s limit p = span (K.of_gap (low_gap s limit p)) (K.of_gap (high_gap s limit p))
