use Rattle.std.proofs.Common.{[], refl, ap}
use Rattle.cases.specs.Steps.{call_item}
use Rattle.case_lines.specs.Listings.{enters, ticks}
use Rattle.case_lines.specs.Leaves.{enters as left_enters, ticks as left_ticks}
use Rattle.case_lines.proofs.carrying.carry_step.Goals as goal

pub returns-in-Enter-clause-does : goal.returns-in-Enter-clause-does
returns-in-Enter-clause-does c = enters c.in-Enter.entry (ap call_item c.in-Enter.is) (c.carry_entry.ensures.prints c.args.cells.now.marks.now)

pub returns-in-Enter-clause-leaves : goal.returns-in-Enter-clause-leaves
returns-in-Enter-clause-leaves c =
    let h = c.carry_entry.ensures.prints [] in
    left_enters c.in-Enter.entry h.reply (ap call_item c.in-Enter.is) h.turn refl

pub returns-in-Judge-clause-does : goal.returns-in-Judge-clause-does
returns-in-Judge-clause-does c = ticks c.in-Judge.tick (ap call_item c.in-Judge.is) c.carry_tick.ensures.prints refl

pub returns-in-Judge-clause-leaves : goal.returns-in-Judge-clause-leaves
returns-in-Judge-clause-leaves c = left_ticks c.in-Judge.tick (ap call_item c.in-Judge.is) refl c.carry_tick.ensures.leaves
