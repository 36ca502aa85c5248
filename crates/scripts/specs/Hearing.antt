-- What a listener makes of what it is told.
use Rattle.std.specs.Prelude.{Result}
use Rattle.lent.specs.Holding.{Contents}
use Rattle.scripts.specs.declared.call.Call.{Call}
use Rattle.scripts.specs.declared.reply.Reply.{Reply}

-- whether a listener may turn from one state into another, with such an outcome, as it is told of a call with its reply and what the lent cells hold then
abbrev pub Hearing : Type 0 → Type 0 → Type 1
Hearing S E = S → Call → Reply → Contents → S → Result (Unit {0}) E → Type 0
