use Rattle.std.proofs.Common.{◌≡◌, Decides, rules}
use Rattle.std.proofs.lemmas.Slice.Eq.{slice_eq-Decides}
use Rattle.rules.specs.declared.row.Row.{Row}
use Rattle.rules.specs.contracts.row.RowPartialEq.TheImpl as row
use Rattle.rules.specs.Texts.{table_of}
use Rattle.rules.proofs.same.RulePartialEq.eq.Goals as goal
use borrow.Author.Tests.{tests}

row_decides : (x y : Row) → Decides (row.ghosts.eq x y) (x ≡ y)
row_decides x y = search (tests, rules)

pub returns-clause-same : goal.returns-clause-same
returns-clause-same c = slice_eq-Decides row_decides (table_of c.args.self.now) (table_of c.args.other.now) c.eq.result (search rules)
