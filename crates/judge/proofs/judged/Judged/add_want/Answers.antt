use Rattle.std.proofs.Common.{Bool, ◌++◌, sym, subst}
use Rattle.std.proofs.lemmas.Result.{err_from_is_err_and}
use Rattle.pieces.proofs.Behind.{whole_behind, short_behind}
use Rattle.judge.specs.Markings.{WantsKnown, WantWritten}
use Rattle.judge.proofs.judged.Judged.add_want.Goals as goal

pub write_want-requires : goal.write_want-requires
write_want-requires g c =
    let j = c.args.self.now in
    record {
      stands = c.requires.stands;
      there = c.requires.there;
      known = subst (WantsKnown g.G.Grade.kind j.rows.now (g.L.Lines.x j.lines.now) j.tick c.args.i c.args.starts.now) (sym c.split_at_mut-cells.ensures.front) c.requires.known;
    }

pub returns-in_err-written : goal.returns-in_err-written
returns-in_err-written g c =
    let j = c.args.self.now in
    let s = c.split_at_mut-cells in
    let before = c.args.wants.now in
    let after = c.write_want.new.rest in
    let w = c.in_err-written.ensures in
    let p = err_from_is_err_and c.from_residual.result c.from_residual.ensures.1 in
    subst (λ r. WantWritten g.G.Grade.kind j.rows.now (g.L.Lines.x j.lines.now) j.tick c.args.i before c.args.used (s.result.0.now ++ after) r) (sym p.1)
    (w.0, (w.1.0, short_behind (λ (b : Bool). b) w.0 before s.result.0.now s.result.1.now after c.args.used c.requires.within s.ensures.front s.ensures.back w.1.1))

pub returns : goal.returns
returns g c =
    let s = c.split_at_mut-cells in
    let w = c.in_ok-written.ensures in
    (w.0, (w.1.0, whole_behind (λ (b : Bool). b) w.0 c.args.wants.now s.result.0.now s.result.1.now c.write_want.new.rest c.args.used c.requires.within s.ensures.front s.ensures.back c.in_ok-written.written w.1.1))
