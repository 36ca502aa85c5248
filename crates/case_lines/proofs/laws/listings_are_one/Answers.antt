use Rattle.case_lines.proofs.OneListing.{one_listing}
use Rattle.case_lines.proofs.SomeListing.{some_listing}
use Rattle.case_lines.proofs.laws.listings_are_one.Goals as goal

pub returns : goal.returns
returns c = record { one = one_listing; some = some_listing }
