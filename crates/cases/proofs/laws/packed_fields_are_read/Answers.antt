use Rattle.cases.proofs.Packing.{fields, names, rules, entries, ticks}
use Rattle.cases.proofs.laws.packed_fields_are_read.Goals as goal

pub returns : goal.returns
returns c = record { field = fields; name = names; rule = rules; entry = entries; tick = ticks }
