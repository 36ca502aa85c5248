use Rattle.std.proofs.Common.{List, subst}
use Rattle.rules.specs.declared.row.Row.{Row}
use Rattle.rules.specs.Parents.{FirstParent}
use Rattle.rules.specs.Texts.{table_of}
use Rattle.rules.specs.Rows.{Sound}
use Rattle.rules.proofs.Looking.{parent_found}
use Rattle.rules.proofs.rule.Rule.parent.Goals as goal

pub returns : goal.returns
returns c =
    let is = c.rows.ensures.is in
    parent_found (table_of c.args.self.now) c.args.row c.parent_in.result (subst (λ (v : List Row). Sound v) is c.rows.ensures.sound) (subst (λ (v : List Row). FirstParent v c.args.row c.parent_in.result) is c.parent_in.ensures)
