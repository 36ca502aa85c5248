use Rattle.std.proofs.Common.{sym, subst}
use Rattle.jobs.specs.Jobs.{state_of}
use Rattle.judge.proofs.TestedLines.{ReadsOn, reads_on}
use Rattle.judge.proofs.job_lines.JobLines.read.Goals as goal

pub returns : goal.returns
returns c =
    let s = state_of c.args.self.now in
    let r = subst (ReadsOn s c.args.line c.args.t) (sym c.unwrap_or.ensures)
    (reads_on s c.args.line c.args.t c.reading.result c.widest.result c.widest.ensures c.reading.ensures) in
    record { steady = r.0; changed = r.1 }
