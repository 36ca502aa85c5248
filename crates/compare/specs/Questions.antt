-- What stands against a question whatever the cells.
use Rattle.std.specs.Prelude.{◌≡◌, ℕ, ◌≤◌, List, [], ◌∷◌, length, Option, option_map}
use Rattle.rules.specs.declared.row.Row.{Row}
use Rattle.runs.specs.States.{State}
use Rattle.runs.specs.Calls.{HasLines}
use Rattle.runs.specs.Conditions.{asks, FirstFailing}
use Rattle.judge.specs.declared.fault.JudgeFault.{JudgeFault}
use Rattle.judge.specs.Faults.{judge_number}

-- the first of the conditions 7 and 8 that fails on a job of so many lines, or none
abbrev pub QuestionBarred : List Row → ℕ → ℕ → Option JudgeFault → Type 0
QuestionBarred rows tick lines o =
    (s : State) → length s.lines ≡ lines → FirstFailing (asks 7 (HasLines s rows) ∷ (asks 8 (tick ≤ 500000000) ∷ [])) (option_map judge_number o)
