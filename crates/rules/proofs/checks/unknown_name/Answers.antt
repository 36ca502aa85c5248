use Rattle.std.proofs.Common.{rules, tests, ◌∙◌}
use Rattle.std.proofs.lemmas.Iterator.{YieldsList-from_slice}
use Rattle.std.proofs.lemmas.Iterator.Adapters.{position_from-zero}
use Rattle.std.proofs.lemmas.Iterator.Search.{position_from_yields_List}
use Rattle.rules.specs.Scans.{nameless}
use Rattle.rules.proofs.Scanning.{first_nameless}
use Rattle.rules.proofs.checks.unknown_name.Goals as goal

pub returns : goal.returns
returns c =
    position_from_yields_List nameless _ _ c.position.result c.position.ensures.ran (YieldsList-from_slice c.args.tokens.now c.iter.ensures.rest) (λ x b q k. search (rules, tests)) ∙ position_from-zero nameless c.args.tokens.now ∙ first_nameless 0 c.args.tokens.now
