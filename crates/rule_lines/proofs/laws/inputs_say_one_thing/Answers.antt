use Rattle.rule_lines.proofs.Saying.{says, one_names, one_text}
use Rattle.rule_lines.proofs.laws.inputs_say_one_thing.Goals as goal

pub returns : goal.returns
returns c = record { says = says; names = one_names; text = one_text }
