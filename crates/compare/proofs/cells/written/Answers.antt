use Rattle.std.proofs.Common.{rules, not, ap, ◌∙◌, refl, Bool, take}
use Rattle.std.proofs.lemmas.Iterator.{YieldsList-from_slice}
use Rattle.std.proofs.lemmas.Iterator.Consumers.{count_from_yields_List}
use Rattle.std.proofs.lemmas.Iterator.Search.{YieldsList-from_take_while}
use Rattle.std.proofs.lemmas.List.Folds.{length-prefix_len}
use borrow.Author.Tests.{tests}
use Rattle.compare.proofs.cells.written.Goals as goal

pub returns : goal.returns
returns g c =
    let used : g.row.C.Denot → Bool = λ cell. not (g.C.Held.PartialEq.eq (g.C.Cell.held cell) g.C.Cell.unwritten) in
    let counted : _ = count_from_yields_List c.take_while.result c.count-used.result c.count-used.ensures.ran (YieldsList-from_take_while _ used (YieldsList-from_slice c.args.cells.now (ap (λ it. it.rest.now) c.take_while.ensures.source ∙ c.iter.ensures.rest)) refl c.take_while.ensures.done (λ x b q k. search (rules, tests))) in
    ap (λ n. take n c.args.cells.now) (counted ∙ length-prefix_len used c.args.cells.now)
