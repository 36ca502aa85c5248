use Rattle.std.proofs.Common.{ℕ, ◌≤◌, length, take, sym, subst, rules}
use Rattle.std.specs.Io.KnownBytes.{Appends}
use Rattle.std.proofs.KnownBytes.{Appends-kept}
use Rattle.streams.proofs.Sunk.{cut, more}
use Rattle.streams.proofs.sink.write_front.Goals as goal
use Rattle.streams.proofs.sink.write_front.Goals.{in-Ok, in-Err}

pub returns-in-Ok-eq0 : goal.returns-in-Ok-eq0
returns-in-Ok-eq0 g c =
    let w = rw c.in-Ok-eq0.is at c.write.ensures.bytes in
    cut (g.W.Write.contents c.args.sink.now) (g.W.Write.contents c.write.new.self) c.args.bytes.now _ (more _ _ _ _ c.loop.done _ c.loop.invariant.1 w)

pub returns-in-Err-2 : goal.returns-in-Err-2
returns-in-Err-2 g c =
    cut (g.W.Write.contents c.args.sink.now) (g.W.Write.contents c.write.new.self) c.args.bytes.now _ (Appends-kept _ _ _ _ c.loop.invariant.1 c.in-Err.ensures.bytes)

pub loop-preserved : goal.loop-preserved
loop-preserved g c =
    let P : ℕ → Type 0 = λ d. (d ≤ length c.args.bytes.now) × Appends (g.W.Write.contents c.args.sink.now) (g.W.Write.contents c.write.new.self) (take d c.args.bytes.now) in
    elim c.match-write.branch [
      | in-Ok w ↦ subst P (sym w.done-is) (search rules, more _ _ _ _ c.loop.done _ c.loop.invariant.1 w.in-Ok.ensures.bytes)
      | in-Err w ↦ subst P (sym w.done-is) (c.loop.invariant.0, Appends-kept _ _ _ _ c.loop.invariant.1 w.in-Err.ensures.bytes)
    ]

pub returns : goal.returns
returns g c = cut (g.W.Write.contents c.args.sink.now) (g.W.Write.contents c.loop.sink) c.args.bytes.now _ c.loop.invariant.1
