use Rattle.std.proofs.Common.{◌+◌, ◌-◌, ◌*◌, length}
use Rattle.rules.specs.Grammar.{part, meet, expr}
use Rattle.rules.proofs.Growth.{Grown}
use Rattle.rules.proofs.readers.Source.+expression_meet_part.Given as goal

abbrev pub decreases-expression : goal.decreases-expression
decreases-expression l = 3 * (length l.self.now.tokens.now - l.at) + 2

abbrev pub decreases-meet : goal.decreases-meet
decreases-meet l = 3 * (length l.self.now.tokens.now - l.at) + 1

abbrev pub decreases-part : goal.decreases-part
decreases-part l = 3 * (length l.self.now.tokens.now - l.at)

abbrev pub decreases-modal : goal.decreases-modal
decreases-modal l = 3 * (length l.self.now.tokens.now - l.at) - 1

abbrev pub invariant-expression-loop-table : goal.invariant-expression-loop-table
invariant-expression-loop-table l = Grown meet expr l.self.tokens.now l.at l.depth l.initial.left.next l.initial.table l.left.next l.left.root l.table

abbrev pub decreases-expression-loop-table : goal.decreases-expression-loop-table
decreases-expression-loop-table l = length l.self.tokens.now - l.left.next

abbrev pub invariant-meet-loop-table : goal.invariant-meet-loop-table
invariant-meet-loop-table l = Grown part meet l.self.tokens.now l.at l.depth l.initial.left.next l.initial.table l.left.next l.left.root l.table

abbrev pub decreases-meet-loop-table : goal.decreases-meet-loop-table
decreases-meet-loop-table l = length l.self.tokens.now - l.left.next
