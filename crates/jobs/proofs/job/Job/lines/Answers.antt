use Rattle.std.proofs.Common.{sym}
use Rattle.jobs.proofs.Parts.{length_lines}
use Rattle.jobs.proofs.job.Job.lines.Goals as goal

pub returns : goal.returns
returns c = let cells = c.args.self.now.cells.now in
    let h = c.args.self.now.held in sym (length_lines cells h)
