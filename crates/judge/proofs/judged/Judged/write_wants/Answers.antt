use Rattle.std.proofs.Common.{sym, refl, subst, arith}
use Rattle.std.proofs.lemmas.Result.{err_from_is_err_and}
use Rattle.pieces.specs.declared.sweep.Full.{Full}
use Rattle.judge.specs.Markings.{WantsWritten}
use Rattle.judge.proofs.WantFilling.{wants_none, wants_known, wants_more, wants_short, wants_whole}
use Rattle.judge.proofs.judged.Judged.write_wants.Goals as goal

pub loop-i-init : goal.loop-i-init
loop-i-init g c sound = wants_none g.met.G.Grade.lawful c.args.self.now.rows.now sound (g.L.Lines.x c.args.self.now.lines.now) c.args.self.now.tick c.args.wants.now _ refl refl

pub add_want-requires : goal.add_want-requires
add_want-requires g c =
    record {
      stands = c.requires;
      there = c.loop-i-test.true;
      within = (c.loop-i.invariant c.requires.sound).stacked.within;
      known = wants_known g.met.G.Grade.lawful c.args.self.now.rows.now c.requires.sound (g.L.Lines.x c.args.self.now.lines.now) c.args.self.now.tick c.args.wants.now c.loop-i.i c.loop-i.starts c.loop-i.wants c.loop-i.used (c.loop-i.invariant c.requires.sound) c.loop-i-test.true;
    }

pub returns-in_err-used : goal.returns-in_err-used
returns-in_err-used g c =
    let p = err_from_is_err_and c.from_residual.result c.from_residual.ensures.1 in
    subst (λ r. WantsWritten g.G.Grade.kind c.args.self.now.rows.now (g.L.Lines.x c.args.self.now.lines.now) c.args.self.now.tick c.args.wants.now c.add_want.new.wants r) (sym p.1)
    (wants_short g.met.G.Grade.lawful c.args.self.now.rows.now c.requires.sound (g.L.Lines.x c.args.self.now.lines.now) c.args.self.now.tick c.args.wants.now c.loop-i.i c.loop-i.starts c.loop-i.wants c.loop-i.used (c.loop-i.invariant c.requires.sound)
    p.0 c.loop-i-test.true c.add_want.new.wants c.add_want.auto.wants c.loop-i.auto.wants c.in_err-used.ensures)

pub loop-i-preserved : goal.loop-i-preserved
loop-i-preserved g c sound =
    wants_more g.met.G.Grade.lawful c.args.self.now.rows.now sound (g.L.Lines.x c.args.self.now.lines.now) c.args.self.now.tick c.args.wants.now c.loop-i.i c.loop-i.starts c.loop-i.wants c.loop-i.used (c.loop-i.invariant sound)
    Full c.loop-i-test.true c.add_want.new.wants c.add_want.auto.wants c.in_ok-used.used c.in_ok-used.ensures

pub returns : goal.returns
returns g c =
    wants_whole g.met.G.Grade.lawful c.args.self.now.rows.now c.requires.sound (g.L.Lines.x c.args.self.now.lines.now) c.args.self.now.tick c.args.wants.now c.loop-i.i c.loop-i.starts c.loop-i.wants c.loop-i.used (c.loop-i.invariant c.requires.sound)
    Full (omega arith) c.loop-i.auto.wants

pub slice_bounds-add_want-end : goal.slice_bounds-add_want-end
slice_bounds-add_want-end g c = omega (arith, (c.loop-i.invariant c.requires.sound).room)
