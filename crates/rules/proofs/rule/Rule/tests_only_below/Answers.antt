use Rattle.std.proofs.Common.{sym, ap, ◌∙◌}
use Rattle.std.specs.List.{list_all}
use Rattle.rules.specs.Tested.{row_below}
use Rattle.rules.specs.Texts.{table_of}
use Rattle.rules.proofs.Looking.{only_below, is_below_all}
use Rattle.rules.proofs.rule.Rule.tests_only_below.Goals as goal

pub returns : goal.returns
returns c =
    let rows = table_of c.args.self.now in
    let b = c.all_below.ensures ∙ ap (λ rs. list_all (λ r. row_below r c.args.lines) rs) c.rows.ensures.is in
    (λ e. only_below rows c.args.lines (sym b ∙ e), λ h. b ∙ is_below_all rows c.args.lines h)
