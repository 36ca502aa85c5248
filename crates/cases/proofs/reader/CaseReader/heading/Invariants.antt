use Rattle.std.proofs.Common.{ℕ, ◌+◌, ◌-◌, ◌≤◌, [], length, Result}
use Rattle.tokens.specs.Answers.{texts}
use Rattle.cases.specs.declared.fault.CaseRefusal.{CaseRefusal}
use Rattle.cases.specs.declared.reader.CaseReader.{CaseReader}
use Rattle.cases.specs.Readers.{left_of, AskedTo}
use Rattle.cases.specs.Headings.{OpenedCase, Opens}
use Rattle.cases.proofs.reader.CaseReader.heading.Given as goal

-- what the names so far and the rest answer, the whole answers; and where reading from here on stands, reading the whole stands
abbrev pub invariant-loop-field : goal.invariant-loop-field
invariant-loop-field l =
    (length l.names.items ≤ 16)
    × ((r : Result OpenedCase CaseRefusal) → Opens (l.self.number + 1) (texts l.names.items) (left_of l.self) r → Opens (l.initial.self.number + 1) [] (left_of l.initial.self) r)
    × ((k : ℕ) (after : CaseReader) → AskedTo k l.self after → AskedTo k l.initial.self after)

abbrev pub decreases-loop-field : goal.decreases-loop-field
decreases-loop-field l = 17 - length l.names.items
