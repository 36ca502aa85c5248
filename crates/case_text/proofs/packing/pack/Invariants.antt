use Rattle.std.proofs.Common.{length, take}
use Rattle.case_text.specs.Pieces.{lines_of}
use Rattle.case_text.specs.Parts.{foregone}
use Rattle.case_text.proofs.Growing.{Held}
use Rattle.case_text.proofs.packing.pack.Given as goal

-- the lines so far are said by the fields so far
abbrev pub invariant-loop-index : goal.invariant-loop-index
invariant-loop-index l = Held (take (length l.yielded) (lines_of l.text)) (foregone l.before) l.before.case.items
