-- The numbers of bad lines.
use Rattle.std.specs.Prelude.{◌<◌}
use Rattle.script_lines.specs.declared.fault.ScriptFault.{ScriptFault}
use Rattle.script_lines.specs.declared.fault.ScriptFault.TheVariants.{BadLine, NoMemory}

-- lines are counted from 1
abbrev pub CountsFromOne : ScriptFault → Type 0
CountsFromOne (BadLine n) = 0 < n
CountsFromOne NoMemory = Unit {0}
