-- The words behind a line's first: numbers up to a limit, lines of the job, and kinds of grade.
use Rattle.std.specs.Prelude.{ℕ, ◌≤◌, List, codes}
use Rattle.case_text.specs.Words.{WholeNumber, FirstNamed}
use Rattle.script_lines.specs.declared.step.GradeKind.{GradeKind}
use Rattle.script_lines.specs.declared.step.GradeKind.TheVariants.{Truth, Margin}

-- w writes the whole number n, which is no more than most
pub record UpTo (most : ℕ) (w : List ℕ) (n : ℕ) : Type 0 where
  pub whole : WholeNumber w n
  pub few : n ≤ most

-- w is the name of line k, or no line's name, and the number k, which fits a byte
pub data NamesLine (names : List (List ℕ)) (w : List ℕ) (k : ℕ) : Type 0 where
  named_so : FirstNamed names w k → NamesLine names w k
  numbered : ((j : ℕ) → FirstNamed names w j → ⊥) → WholeNumber w k → k ≤ 255 → NamesLine names w k

abbrev pub kind_word : GradeKind → List ℕ
kind_word Truth = codes "truth"
kind_word Margin = codes "margin"
