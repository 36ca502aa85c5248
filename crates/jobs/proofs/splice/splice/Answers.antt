use Rattle.jobs.specs.Edits.{optional}
use Rattle.jobs.proofs.Writes.{spliced}
use Rattle.jobs.proofs.splice.splice.Goals as goal

pub returns : goal.returns
returns c =
    let e = c.args.edit in
    spliced c.args.cells.now c.args.base c.args.count e.keep e.skip (optional e.first) (optional e.second) c.copy_within.new.self c.put-next.new.cells c.put.new.cells
    c.size.result c.size-2.result c.put-next.result c.requires.order.0 c.requires.order.1 c.requires.before c.requires.after
    c.size.ensures.is c.size-2.ensures.is c.copy_within.ensures.after c.put-next.ensures.cells c.put-next.ensures.next c.put.ensures.cells
