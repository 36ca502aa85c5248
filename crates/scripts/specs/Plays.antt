-- One call carried out.
use Rattle.runs.specs.Runs.{Event, Turn}
use Rattle.lent.specs.Holding.{cell_counts}
use Rattle.runs.specs.Families.{truth_and_margin}
use Rattle.scripts.specs.Events.{IsEvent}
use Rattle.scripts.specs.Moments.{Moment}
use Rattle.scripts.specs.Leavings.{CallLeaves}
use Rattle.scripts.specs.declared.call.Call.{Call}
use Rattle.scripts.specs.declared.reply.Reply.{Reply}

-- the call c is answered r: the two are the event e, which leads from the state before to the state after, and the cells hold what such a call leaves
pub record Plays (c : Call) (before : Moment) (r : Reply) (e : Event truth_and_margin) (after : Moment) : Type 0 where
  pub is : IsEvent (cell_counts before.lent) c r after.lent.marks e
  pub turn : Turn truth_and_margin before.state e after.state
  pub leaves : CallLeaves c r before after
