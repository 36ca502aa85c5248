-- The family of truth and margin: truth is named true, and margin false.
use Rattle.std.specs.Prelude.{Bool, true, false}
use Rattle.grades.specs.Kinds.{Kind}
use Rattle.grades.specs.Truths.{truths}
use Rattle.grades.specs.Margins.{margins}

abbrev pub truth_and_margin : Bool → Kind
truth_and_margin true = truths
truth_and_margin false = margins
