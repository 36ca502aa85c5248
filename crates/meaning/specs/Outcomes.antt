-- What a verdict in truth comes to.
use Rattle.std.specs.Prelude.{Bool, true, false}
use Rattle.grades.specs.Ranges.{Span}
use Rattle.meaning.specs.declared.outcome.Outcome.{Outcome}
use Rattle.meaning.specs.declared.outcome.Outcome.TheVariants.{Pass, Fail, Unsure}

abbrev pub by_ends : Bool → Bool → Outcome
by_ends true true = Pass
by_ends true false = Unsure
by_ends false true = Unsure
by_ends false false = Fail

-- pass if settled true, fail if settled false, and else unsure
abbrev pub outcome_at : Span Bool → Outcome
outcome_at p = by_ends p.low p.high
