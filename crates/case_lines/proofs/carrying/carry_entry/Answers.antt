use Rattle.std.proofs.Common.{ℕ, [], ◌++◌, Ok, Err, refl, ap, ◌∙◌, append-nil, to_z-of_z, w32, SFits, to_z, of_z, rules}
use Rattle.jobs.specs.Faults.{enter_reply}
use Rattle.jobs.specs.Jobs.{state_of}
use Rattle.case_lines.specs.Lines.{refused_line}
use Rattle.case_lines.proofs.Entered.{entered}
use Rattle.case_lines.proofs.Left.{entry_carries}
use Rattle.case_lines.proofs.carrying.carry_entry.Goals as goal

pub returns-in-Ok-clause-prints : goal.returns-in-Ok-clause-prints
returns-in-Ok-clause-prints c =
    let e = c.args.entry in
    let low : SFits w32 e.lower = search rules in
    let high : SFits w32 e.upper = search rules in
    λ cells. entered c.args.field e (state_of c.args.job.now) (state_of c.enter.new.self) (to_z w32 (of_z w32 e.lower)) (to_z w32 (of_z w32 e.upper)) (enter_reply (Ok c.in-Ok.field-0)) [] (to_z-of_z low) (to_z-of_z high) c.in-Ok.ensures.turn refl

pub returns-in-Err-clause-prints : goal.returns-in-Err-clause-prints
returns-in-Err-clause-prints c =
    let e = c.args.entry in
    let low : SFits w32 e.lower = search rules in
    let high : SFits w32 e.upper = search rules in
    λ cells. entered c.args.field e (state_of c.args.job.now) (state_of c.enter.new.self) (to_z w32 (of_z w32 e.lower)) (to_z w32 (of_z w32 e.upper)) (enter_reply (Err c.in-Err.fault)) (refused_line c.number.result c.args.field ++ []) (to_z-of_z low) (to_z-of_z high) c.in-Err.ensures.turn
    (append-nil (refused_line c.number.result c.args.field) ∙ ap (λ (n : ℕ). refused_line n c.args.field) c.number.ensures)

pub returns-in-Ok-clause-pieces : goal.returns-in-Ok-clause-pieces
returns-in-Ok-clause-pieces c =
    let e = c.args.entry in
    entry_carries e.line e.from e.to (to_z w32 (of_z w32 e.lower)) (to_z w32 (of_z w32 e.upper)) c.args.job.now c.enter.new.self (Ok c.in-Ok.field-0) c.in-Ok.ensures.turn c.in-Ok.ensures.cells

pub returns-in-Err-clause-pieces : goal.returns-in-Err-clause-pieces
returns-in-Err-clause-pieces c =
    let e = c.args.entry in
    entry_carries e.line e.from e.to (to_z w32 (of_z w32 e.lower)) (to_z w32 (of_z w32 e.upper)) c.args.job.now c.enter.new.self (Err c.in-Err.fault) c.in-Err.ensures.turn c.in-Err.ensures.cells
