use Rattle.std.proofs.Common.{take}
use Rattle.script_lines.specs.Makes.{AreCalls}
use Rattle.script_lines.proofs.script.Script.calls.Given as goal

abbrev pub invariant-loop-step : goal.invariant-loop-step
invariant-loop-step l = AreCalls l.self.rules.items (take l.step-index l.step-items) l.calls.items
