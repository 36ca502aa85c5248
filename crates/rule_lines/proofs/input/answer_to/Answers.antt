use Rattle.std.proofs.Common.{[]}
use Rattle.rule_lines.proofs.input.answer_to.Goals as goal

pub returns : goal.returns
returns c = c.answer.ensures.whole c.args.input.now (c.hear_all.ensures [] c.new-heard.ensures)
