use Rattle.std.proofs.Common.{ℕ, List, ◌++◌, take}
use Rattle.rule_lines.specs.Kept.{Heard}
use Rattle.rule_lines.proofs.input.Input.hear_all.Given as goal

abbrev pub invariant-loop-byte : goal.invariant-loop-byte
invariant-loop-byte l = (bytes : List ℕ) → Heard bytes l.initial.self → Heard (bytes ++ take l.byte-index l.more) l.self
