use Rattle.std.proofs.Common.{◌∙◌}
use Rattle.compare.proofs.Found.{always, same_ends}
use Rattle.compare.proofs.question.Question.compare_marking.Goals as goal

pub returns-clause-verdict : goal.returns-clause-verdict
returns-clause-verdict g c = always c.compare_wants.result _ (same_ends c.args.whole.now.verdict c.verdict.result c.eq.result c.eq.ensures c.in_ok-ensure.ensures ∙ c.verdict.ensures)
