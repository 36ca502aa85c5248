use Rattle.std.proofs.Common.{◌≤◌, length, take}
use Rattle.std.specs.Io.KnownBytes.{Consumes}
use Rattle.streams.proofs.source.fill.Given as goal

abbrev pub invariant-loop : goal.invariant-loop
invariant-loop g l = (l.size ≤ length l.buffer) × Consumes (g.R.Read.remaining l.fn.source) (g.R.Read.remaining l.source) (take l.size l.buffer)
