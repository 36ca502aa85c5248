use Rattle.std.proofs.Common.{map, ap, ◌∙◌, arith, rules}
use Rattle.rule_lines.specs.Kept.{held}
use Rattle.rule_lines.proofs.Keeping.{listed}
use Rattle.rule_lines.proofs.names.Names.list.Goals as goal

pub returns : goal.returns
returns c =
    let made = c.map.ensures.items in
    listed c.each_ref.result c.map.result (omega (arith, made.long)) (λ i d e h. let call = made.at i d e (omega arith) in search rules) ∙ ap (map held) c.each_ref.ensures.items
