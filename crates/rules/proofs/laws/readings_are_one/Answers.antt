use Rattle.rules.proofs.Machine.{one_reading}
use Rattle.rules.proofs.OneAnswer.{one_fault, one_answer}
use Rattle.rules.proofs.laws.readings_are_one.Goals as goal

pub returns : goal.returns
returns c = record { reading = one_reading; place = one_fault; answer = one_answer }
