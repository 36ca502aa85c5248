use Rattle.case_text.proofs.OneWay.{one_back}
use Rattle.case_text.proofs.laws.bytes_say_one_thing.Goals as goal

pub returns : goal.returns
returns c = one_back
