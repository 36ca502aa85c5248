use Rattle.std.proofs.Common.{rules, ◌≡◌, ◌&&◌, nat_le, true, take, ap, ap₂, sym, length, Bool, ◌∙◌, arith}
use Rattle.std.specs.List.{list_all, zip}
use Rattle.std.proofs.lemmas.Grind.{common_steps}
use Rattle.std.proofs.lemmas.Iterator.{YieldsList-from_slice, YieldsList-from_zip}
use Rattle.std.proofs.lemmas.Iterator.Search.{all_from_yields_List}
use borrow.Author.Tests.{tests}
use Rattle.compare.proofs.cells.begin_alike.Goals as goal

pub returns-in-Some-Some : goal.returns-in-Some-Some
returns-in-Some-Some g c =
    let n = c.args.used in
    let test : g.row.C.Denot × g.row.C.Denot → Bool = λ p. g.C.Held.PartialEq.eq (g.C.Cell.held p.0) (g.C.Cell.held p.1) in
    let found : c.all.result ≡ list_all test (zip c.in-Some-Some.one.now c.in-Some-Some.other.now) =
    all_from_yields_List test c.all.new.self _ c.all.result c.all.ensures.ran
    (YieldsList-from_zip (YieldsList-from_slice c.in-Some-Some.one.now (ap (λ it. it.rest.now) c.zip.ensures.first ∙ c.iter.ensures.rest)) (YieldsList-from_slice c.in-Some-Some.other.now c.zip.ensures.second.0))
    (λ x b q k. search (rules, tests)) in
    let one : c.in-Some-Some.one.now ≡ take n c.args.one.now = grind (arith, common_steps) in
    let other : c.in-Some-Some.other.now ≡ take n c.args.other.now = grind (arith, common_steps) in
    let one_has : nat_le n (length c.args.one.now) ≡ true = grind (arith, common_steps) in
    let other_has : nat_le n (length c.args.other.now) ≡ true = grind (arith, common_steps) in
    found ∙ ap₂ (λ xs ys. list_all test (zip xs ys)) one other ∙ ap₂ (λ a b. a && (b && list_all test (zip (take n c.args.one.now) (take n c.args.other.now)))) (sym one_has) (sym other_has)
