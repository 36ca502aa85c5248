use Rattle.std.proofs.Common.{sym, refl, ◌∙◌, inl, inr, arith}
use Rattle.jobs.specs.Jobs.{state_of}
use Rattle.jobs.proofs.Parts.{length_lines, line_at}
use Rattle.jobs.proofs.Looks.{first_unknown_at}
use Rattle.jobs.proofs.job.Job.known.Goals as goal

pub returns-then-line-self : goal.returns-then-line-self
returns-then-line-self c =
    let cells = c.args.self.now.cells.now in
    let h = c.args.self.now.held in
    (inl (λ l. omega (arith, length_lines cells h), refl), refl)

pub first_wide-requires : goal.first_wide-requires
first_wide-requires c = c.line.ensures.kept

pub returns : goal.returns
returns c =
    let cells = c.args.self.now.cells.now in
    let h = c.args.self.now.held in
    let k = c.args.line in
    let e = line_at cells h k c.if-line-self.false ∙ sym c.line.ensures.are in (
      inr (omega (arith, length_lines cells h), refl),
      (c.first_wide.result, (first_unknown_at (state_of c.args.self.now) k c.first_wide.result c.line.result.pieces.now e c.first_wide.ensures, refl, refl)),
    )
