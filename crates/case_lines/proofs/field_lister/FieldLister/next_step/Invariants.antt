use Rattle.std.proofs.Common.{◌≡◌, ℕ, ◌≤◌, List}
use Rattle.runs.specs.States.{State}
use Rattle.jobs.specs.Jobs.{SameLoan}
use Rattle.lent.specs.Holding.{Contents, counts, SameLoans}
use Rattle.case_lines.specs.Leaves.{CarriedOn}
use Rattle.case_lines.specs.Rests.{FieldsLeft, RestLeaves, steps_left}
use Rattle.case_lines.proofs.field_lister.FieldLister.next_step.Given as goal

abbrev pub invariant-loop-self : goal.invariant-loop-self
invariant-loop-self l =
    ((more : List ℕ) → FieldsLeft l.self more → FieldsLeft l.initial.self more)
    × (l.self.first ≡ 0)
    × (l.self.after ≡ 0)
    × (counts l.self.cells.now ≡ counts l.initial.self.cells.now)
    × (l.self.rule ≡ l.initial.self.rule)
    × (steps_left l.self ≤ steps_left l.initial.self)
    × ((z : State) (after : Contents) → RestLeaves l.self z after → RestLeaves l.initial.self z after)
    × CarriedOn l.initial.self.job.now l.self.job.now
    × SameLoan l.initial.self.job.now l.self.job.now
    × SameLoans l.initial.self.cells.now l.self.cells.now
    × ((l.self.job.ghost_name ≡ l.initial.self.job.ghost_name) × (l.self.cells.ghost_name ≡ l.initial.self.cells.ghost_name))
    × ((text : List ℕ) → FieldsLeft l.initial.self text → FieldsLeft l.self text)

abbrev pub decreases-loop-self : goal.decreases-loop-self
decreases-loop-self l = steps_left l.self
