use Rattle.std.proofs.Common.{[], get_or, sym, ◌∙◌, arith}
use Rattle.jobs.specs.Jobs.{state_of}
use Rattle.jobs.proofs.Parts.{length_lines, line_at}
use Rattle.jobs.proofs.Looks.{told}
use Rattle.jobs.proofs.job.Job.reading.Goals as goal

pub returns-then-line-self : goal.returns-then-line-self
returns-then-line-self c = let cells = c.args.self.now.cells.now in
    let h = c.args.self.now.held in omega (arith, length_lines cells h)

pub returns : goal.returns
returns c =
    let cells = c.args.self.now.cells.now in
    let h = c.args.self.now.held in
    let k = c.args.line in
    let ps = c.line.result.pieces.now in
    let v = c.lookup.result.0 in
    let o = c.lookup.result.1 in
    let e = line_at cells h k c.if-line-self.false ∙ sym c.line.ensures.are in
    let r = told ps (get_or (state_of c.args.self.now).lines k []) c.args.t v o e c.line.ensures.kept.0 c.lookup.ensures in
    (omega (arith, length_lines cells h), r.0, r.1)
