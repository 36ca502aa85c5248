use Rattle.std.proofs.Common.{rules, ◌≡◌, ◌-◌, length, take, drop, length-drop, arith, ap, ◌∙◌}
use Rattle.std.specs.List.{prefix_len}
use Rattle.std.proofs.lemmas.List.{take_all}
use Rattle.std.proofs.lemmas.Iterator.{YieldsList-from_slice}
use Rattle.std.proofs.lemmas.Iterator.Consumers.{YieldsList-at, count_from_yields_List}
use Rattle.std.proofs.lemmas.Iterator.Search.{YieldsList-from_take_while}
use Rattle.std.proofs.lemmas.List.Folds.{length-prefix_len}
use Rattle.tokens.proofs.Runs.{front_is_run}
use Rattle.tokens.proofs.lexer.run_end.Goals as goal

pub returns-clause-run : goal.returns-clause-run
returns-clause-run g c p says =
    let text = c.args.text.now in
    let at = c.args.at in
    let whole : take (length text - at) (drop at text) ≡ drop at text = take_all _ _ (omega (arith, length-drop at text)) in
    let counted = count_from_yields_List c.take_while.result _ c.count.ensures.ran (YieldsList-from_take_while _ p (YieldsList-at c.take_while.ensures.source (YieldsList-from_slice _ c.iter.ensures.rest)) c.take_while.ensures.closure c.take_while.ensures.done (λ x b q k. (search rules, says _ _ (search rules)))) in
    front_is_run p _ _ _ c.requires.within (counted ∙ length-prefix_len p _ ∙ ap (prefix_len p) whole)
