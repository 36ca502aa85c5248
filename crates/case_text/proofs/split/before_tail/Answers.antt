use Rattle.std.proofs.Common.{rules, tests, ◌-◌, length, take, reverse, ap, ◌∙◌}
use Rattle.std.proofs.lemmas.Iterator.Adapters.{YieldsList-from_rev_slice}
use Rattle.std.proofs.lemmas.Iterator.Consumers.{count_from_yields_List}
use Rattle.std.proofs.lemmas.Iterator.Search.{YieldsList-from_take_while}
use Rattle.std.proofs.lemmas.List.Folds.{length-prefix_len}
use Rattle.case_text.specs.Pieces.{gap_byte}
use Rattle.case_text.proofs.split.before_tail.Goals as goal

pub returns : goal.returns
returns c =
    let line = c.args.line.now in
    let tail = count_from_yields_List c.take_while.result _ c.count-tail.ensures.ran (YieldsList-from_take_while _ gap_byte (YieldsList-from_rev_slice line (cc)) c.take_while.ensures.closure c.take_while.ensures.done (λ x b q k. search (rules, tests))) ∙ length-prefix_len gap_byte (reverse line) in
    ap (λ n. take (length line - n) line) tail
