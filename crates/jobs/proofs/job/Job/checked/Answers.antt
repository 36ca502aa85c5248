use Rattle.std.proofs.Common.{Some, None, sym, ◌∙◌, to_z-of_z, w32, to_z, of_z}
use Rattle.std.proofs.lemmas.Result.{err_from_is_err_and}
use Rattle.jobs.proofs.Parts.{line_at}
use Rattle.jobs.proofs.Refusals.{reads_as, barred_fails, fails_4, fails_5, is_ready}
use Rattle.jobs.proofs.job.Job.checked.Goals as goal

pub returns-in_err-barred : goal.returns-in_err-barred
returns-in_err-barred c =
    let j = c.args.self.now in
    let h = j.held in
    let p = err_from_is_err_and c.from_residual.result c.from_residual.ensures.1 in
    rw (p.1, p.2)
    (barred_fails j.cells.now h c.args.stretch.line c.args.stretch.from c.args.stretch.to c.args.lower c.args.upper c.in_err-barred.field-0.0 c.in_err-barred.ensures)

pub returns-in_default : goal.returns-in_default
returns-in_default c =
    let j = c.args.self.now in
    let h = j.held in
    let l = c.args.lower in
    let u = c.args.upper in
    fails_4 j.cells.now h c.args.stretch.line c.args.stretch.from c.args.stretch.to l u c.in_ok-barred.ensures
    (reads_as (to_z w32 (of_z w32 l)) (to_z w32 (of_z w32 u)) l u None (to_z-of_z c.ranges.lower) (to_z-of_z c.ranges.upper) c.in_default.ensures)

pub returns-then-not-narrows : goal.returns-then-not-narrows
returns-then-not-narrows c =
    let j = c.args.self.now in
    let h = j.held in
    let l = c.args.lower in
    let u = c.args.upper in
    let p = c.in-Some.reading in
    let b = c.in_ok-barred.ensures in
    fails_5 j.cells.now h c.args.stretch.line c.args.stretch.from c.args.stretch.to l u b
    p (reads_as (to_z w32 (of_z w32 l)) (to_z w32 (of_z w32 u)) l u (Some p) (to_z-of_z c.ranges.lower) (to_z-of_z c.ranges.upper) c.in-Some.ensures)
    c.line-line.result.pieces.now (line_at j.cells.now h c.args.stretch.line b.1 ∙ sym c.line-line.ensures.are) c.if-not-narrows.ensures

pub returns : goal.returns
returns c =
    let j = c.args.self.now in
    let h = j.held in
    let l = c.args.lower in
    let u = c.args.upper in
    let p = c.in-Some.reading in
    let b = c.in_ok-barred.ensures in
    let r = reads_as (to_z w32 (of_z w32 l)) (to_z w32 (of_z w32 u)) l u (Some p) (to_z-of_z c.ranges.lower) (to_z-of_z c.ranges.upper) c.in-Some.ensures in (
      r,
      is_ready j.cells.now h c.args.stretch.line c.args.stretch.from c.args.stretch.to l u b p r
          c.line-line.result.pieces.now (line_at j.cells.now h c.args.stretch.line b.1 ∙ sym c.line-line.ensures.are) c.if-not-narrows.ensures,
    )
