use Rattle.rules.proofs.Filling.{risen}
use Rattle.rules.proofs.table.Table.rise.Goals as goal

pub returns : goal.returns
returns c = risen _ _ _ _ _ _ c.first_deep-self.ensures
