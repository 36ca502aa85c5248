-- What is told of an answer, and how cases are counted.
use Rattle.std.specs.Prelude.{◌≡◌, ℕ, ◌+◌, ◌-◌, ◌^◌, min, Bool, cond, length, Ok, Err}
use Rattle.rules.specs.Rows.{reach}
use Rattle.rules.specs.Texts.{Answer}
use Rattle.rule_tests.specs.declared.outcome.Outcome.{Outcome}
use Rattle.rule_tests.specs.declared.outcome.Outcome.TheVariants.{Read, Refused}
use Rattle.rule_tests.specs.declared.tally.Tally.{Tally}

abbrev pub case_outcome : Answer → Outcome
case_outcome (Ok rows) = Read (length rows) (reach rows)
case_outcome (Err f) = Refused f

-- one more, as far as 64 bits go
abbrev pub one_more : ℕ → ℕ
one_more n = min (n + 1) (2 ^ 64 - 1)

pub record Counted (right : Bool) (earlier later : Tally) : Type 0 where
  pub case : later.cases ≡ one_more earlier.cases
  pub mistake : later.wrong ≡ cond right earlier.wrong (one_more earlier.wrong)
