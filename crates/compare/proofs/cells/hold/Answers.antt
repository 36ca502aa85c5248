use Rattle.std.proofs.Common.{rules, ◌≡◌, ◌&&◌, nat_eq, true, ap, sym, length, Bool, ◌∙◌, arith}
use Rattle.std.specs.List.{list_all, zip}
use Rattle.std.proofs.lemmas.Grind.{common_steps}
use Rattle.std.proofs.lemmas.Iterator.{YieldsList-from_slice, YieldsList-from_zip}
use Rattle.std.proofs.lemmas.Iterator.Search.{all_from_yields_List}
use borrow.Author.Tests.{tests}
use Rattle.compare.proofs.cells.hold.Goals as goal

pub returns-then-cells-list : goal.returns-then-cells-list
returns-then-cells-list g c =
    let test : g.row.C.Denot × g.row.C-Held.Denot → Bool = λ p. g.C.Held.PartialEq.eq (g.C.Cell.held p.0) p.1 in
    let found : c.all.result ≡ list_all test (zip c.args.cells.now c.args.list.now) =
    all_from_yields_List test c.all.new.self _ c.all.result c.all.ensures.ran
    (YieldsList-from_zip (YieldsList-from_slice c.args.cells.now (ap (λ it. it.rest.now) c.zip.ensures.first ∙ c.iter.ensures.rest)) (YieldsList-from_slice c.args.list.now c.zip.ensures.second.0))
    (λ x b q k. search (rules, tests)) in
    let many : nat_eq (length c.args.cells.now) (length c.args.list.now) ≡ true = grind (arith, common_steps) in
    found ∙ ap (λ b. b && list_all test (zip c.args.cells.now c.args.list.now)) (sym many)
