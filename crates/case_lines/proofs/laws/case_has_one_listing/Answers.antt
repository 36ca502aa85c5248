use Rattle.cases.specs.Headings.{heading_reply}
use Rattle.cases.specs.Readers.{left_of}
use Rattle.case_lines.proofs.Whole.{whole}
use Rattle.case_lines.proofs.EachListing.{too_long_listed, read_listed}
use Rattle.case_lines.proofs.laws.case_has_one_listing.Goals as goal

pub returns-in-Err : goal.returns-in-Err
returns-in-Err c = too_long_listed c.args.case.now c.in-Err._refusal c.in-Err.ensures

pub returns-in-Ok : goal.returns-in-Ok
returns-in-Ok c =
    let first = c.in-Ok.ensures in
    read_listed c.args.case.now (heading_reply c.heading-heading.result c.heading-heading.new.self) (whole c.args.case.now c.in-Ok.reader.number (left_of c.in-Ok.reader) first.number first.left (heading_reply c.heading-heading.result c.heading-heading.new.self) c.heading-heading.ensures.answer)
