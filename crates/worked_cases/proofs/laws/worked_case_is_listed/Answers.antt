use Rattle.worked_cases.proofs.WorkedListing.{worked_listed}
use Rattle.worked_cases.proofs.laws.worked_case_is_listed.Goals as goal

pub returns : goal.returns
returns c = worked_listed
