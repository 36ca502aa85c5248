use Rattle.std.proofs.Common.{◌≡◌, subst}
use Rattle.std.specs.List.{AllByRecursion}
use Rattle.std.proofs.lemmas.List.{take_all}
use Rattle.pieces.proofs.Tellings.{told_yes, told_no}
use Rattle.pieces.proofs.Firsts.{Other, first_never, first_here, other_more}
use Rattle.pieces.proofs.list.PieceList.first_tick.Goals as goal

pub loop-piece-init : goal.loop-piece-init
loop-piece-init g c = tt

pub returns-then-same : goal.returns-then-same
returns-then-same g c =
    let v = g.V.Same.value in
    let w = v c.args.value in
    let x = c.piece-item.result in
    first_here v w c.args.self.now.pieces.now c.args.self.now.ok c.loop-piece.piece-index x c.loop-piece-test.true c.loop-piece.invariant c.piece-item.is
    (told_yes c.same.result (v x.value ≡ w) c.same.ensures c.if-same.true)

pub loop-piece-preserved : goal.loop-piece-preserved
loop-piece-preserved g c =
    let v = g.V.Same.value in
    let w = v c.args.value in
    let x = c.piece-item.result in
    other_more v w c.args.self.now.pieces.now c.loop-piece.piece-index x c.loop-piece-test.true c.loop-piece.invariant c.piece-item.is
    (told_no c.same.result (v x.value ≡ w) c.same.ensures c.if-same.false)

pub returns : goal.returns
returns g c =
    first_never g.V.Same.value (g.V.Same.value c.args.value) c.args.self.now.pieces.now c.args.self.now.ok
    (subst (AllByRecursion (Other g.V.Same.value (g.V.Same.value c.args.value))) (take_all c.loop-piece.piece-index c.args.self.now.pieces.now c.loop-piece-test.false) c.loop-piece.invariant)
