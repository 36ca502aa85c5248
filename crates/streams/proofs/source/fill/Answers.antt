use Rattle.std.proofs.Common.{ℕ, ◌-◌, ◌≤◌, length, take, sym, subst, rules}
use Rattle.std.specs.Io.KnownBytes.{Consumes}
use borrow.Rule.Slice.PartMut.{put_mid}
use Rattle.streams.proofs.Filled.{read_on, read_none}
use Rattle.streams.proofs.source.fill.Goals as goal
use Rattle.streams.proofs.source.fill.Goals.{in-Ok, in-Err}

pub loop-preserved : goal.loop-preserved
loop-preserved g c =
    let room = length c.loop.buffer - c.loop.size in
    let P : ℕ → Type 0 = λ d. (d ≤ length (put_mid c.loop.size room c.loop.buffer c.read.new.buf)) × Consumes (g.R.Read.remaining c.args.source.now) (g.R.Read.remaining c.read.new.self) (take d (put_mid c.loop.size room c.loop.buffer c.read.new.buf)) in
    elim c.match-read.branch [
      | in-Ok w ↦ subst P (sym w.size-is) (search rules, read_on _ _ _ c.loop.buffer c.read.new.buf c.loop.size room _ c.loop.invariant.0 w.in-Ok.ensures.bound.0 c.loop.invariant.1 w.in-Ok.ensures.bytes.0)
      | in-Err w ↦ subst P (sym w.size-is) (search rules, read_none _ _ _ c.loop.buffer c.read.new.buf c.loop.size room c.loop.invariant.0 c.loop.invariant.1 w.in-Err.ensures.bytes)
    ]
