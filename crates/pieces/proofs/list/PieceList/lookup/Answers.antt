use Rattle.std.proofs.Common.{rules, ◌≡◌, ◌+◌, ◌-◌, sym, subst, arith}
use Rattle.pieces.proofs.Orders.{StartIs, found}
use Rattle.pieces.proofs.list.PieceList.lookup.Goals as goal

pub returns : goal.returns
returns g c =
    let xs = c.args.self.now.pieces.now in
    let n = c.started-count.result in
    let d = c.index-pieces-count.result in
    let o = c.map-next.result in
    let z : n - 1 + 1 ≡ n = omega (arith, c.started-count.ensures.some) in
    found xs c.args.t (n - 1) d o c.args.self.now.ok c.started-count.ensures.last (subst (λ k. StartIs xs k d o) (sym z) (λ h. search rules, λ h. search rules))
