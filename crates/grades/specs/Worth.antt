-- What grades are worth: the values that they stand for, and the range of the values that the ends of a range stand for.
use Rattle.std.specs.Prelude.{Bool}
use Rattle.grades.specs.Kinds.{Kind}
use Rattle.grades.specs.Margins.{Level}
use Rattle.grades.specs.Ranges.{Span, span}
use Rattle.grades.specs.declared.range.Range.{Range}
use Rattle.grades.specs.declared.truth.Truth.{Truth}
use Rattle.grades.specs.declared.margin.Margin.{Margin}

-- a truth stands for its answer, and a margin for its number
abbrev pub truth_value : Truth → Bool
truth_value t = t.holds

abbrev pub margin_level : Margin → Level
margin_level m = record { number = m.number; ok = m.ok }

abbrev pub worth : (K : Kind) {G : Type 0} → (G → K.Value) → Range G → Span K.Value
worth K value r = span (value r.lower) (value r.upper)
