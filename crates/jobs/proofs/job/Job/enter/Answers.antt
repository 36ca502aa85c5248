use Rattle.std.proofs.Common.{Some, refl, arith, to_z-of_z, w32, to_z, of_z}
use Rattle.std.proofs.lemmas.Result.{err_from_is_err_and}
use Rattle.jobs.specs.Faults.{enter_fault_number}
use Rattle.jobs.specs.Jobs.{state_of}
use Rattle.jobs.proofs.Parts.{length_lines}
use Rattle.jobs.proofs.Refusals.{fails_as}
use Rattle.jobs.proofs.job.Job.enter.Goals as goal

pub returns-in_err-reading : goal.returns-in_err-reading
returns-in_err-reading c =
    let p = err_from_is_err_and c.from_residual.result c.from_residual.ensures.1 in
    let l = c.args.lower in
    let u = c.args.upper in
    let fails = fails_as (state_of c.args.self.now) c.args.line c.args.from c.args.to (to_z w32 (of_z w32 l)) (to_z w32 (of_z w32 u)) l u (Some (enter_fault_number c.in_err-reading.field-0.0))
    (to_z-of_z c.ranges.lower) (to_z-of_z c.ranges.upper) c.in_err-reading.ensures in
    rw (p.1, p.2) (record { turn = (fails, refl); cells = refl; loan = refl })

pub write-requires : goal.write-requires
write-requires c =
    let j = c.args.self.now in
    let ready = c.in_ok-reading.ensures.1 in
    record { sound = j.sound; there = omega (arith, ready.there, length_lines j.cells.now j.held); ready = ready }
