-- What single calls do and print.
use Rattle.std.specs.Prelude.{◌≡◌, ℕ, List, ◌++◌, take, Ok, Err, Result}
use Rattle.grades.specs.Truths.{truths}
use Rattle.grades.specs.Worth.{worth, truth_value}
use Rattle.meaning.specs.declared.mark.Mark.{Mark}
use Rattle.meaning.specs.Outcomes.{outcome_at}
use Rattle.runs.specs.States.{State}
use Rattle.runs.specs.Jobs.{JobAnswer, JobTurn, enter}
use Rattle.cases.specs.declared.field.Entry.{Entry}
use Rattle.judge.specs.declared.fault.MarkFault.{MarkFault}
use Rattle.judge.specs.Faults.{mark_number}
use Rattle.case_lines.specs.declared.ticking.Told.{Told}
use Rattle.case_lines.specs.Lines.{entry_text, refused_line, verdict_line, mark_lines}

-- field k is an entry, which is entered
pub record CarriesEntry (k : ℕ) (e : Entry) (s after : State) (text : List ℕ) : Type 0 where
  pub reply : Result JobAnswer ℕ
  pub turn : JobTurn s (enter e.line e.from e.to e.lower e.upper) reply after
  pub prints : text ≡ entry_text k reply

-- what is printed of a tick that is field k: its verdict with the margin and the marks, which are the first so many of the mark cells, or the refusal
abbrev pub told_text : ℕ → ℕ → List Mark → Result Told MarkFault → List ℕ
told_text k t cells (Ok x) = verdict_line t (outcome_at (worth truths truth_value x.verdict)) x.margin.lower.number x.margin.upper.number x.marks ++ mark_lines (take x.marks cells)
told_text k t cells (Err f) = refused_line (mark_number f) k
