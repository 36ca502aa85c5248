use Rattle.cases.proofs.OneReading.{one_field, one_item}
use Rattle.cases.proofs.laws.fields_are_one.Goals as goal

pub returns : goal.returns
returns c = record { field = one_field; item = one_item }
