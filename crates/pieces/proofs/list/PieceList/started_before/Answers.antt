use Rattle.std.proofs.Common.{◌≡◌, ◌+◌, ◌-◌, sym, ap, ◌∙◌, arith}
use Rattle.pieces.specs.Pieces.{count_before}
use Rattle.pieces.proofs.Holders.{count_none}
use Rattle.pieces.proofs.list.PieceList.started_before.Goals as goal

pub returns-then-t-eq0 : goal.returns-then-t-eq0
returns-then-t-eq0 g c =
    let xs = c.args.self.now.pieces.now in
    sym (ap (λ m. count_before m xs) c.if-t-eq0.true ∙ count_none xs)

pub returns : goal.returns
returns g c =
    let e : c.args.t - 1 + 1 ≡ c.args.t = omega arith in
    c.started.ensures.count ∙ ap (λ m. count_before m c.args.self.now.pieces.now) e
