use Rattle.std.proofs.Common.{ℕ, length, take, Ok, Err, sym, refl, arith}
use Rattle.std.proofs.lemmas.Result.{err_from_is_err_and}
use Rattle.grades.specs.Truths.{truths}
use Rattle.grades.specs.Worth.{worth, truth_value}
use Rattle.rules.specs.Texts.{table_of}
use Rattle.meaning.specs.Outcomes.{outcome_at}
use Rattle.runs.specs.Calls.{MarkedVerdict}
use Rattle.judge.specs.Faults.{mark_number}
use Rattle.jobs.specs.Jobs.{state_of}
use Rattle.case_lines.specs.Lines.{verdict_line}
use Rattle.case_lines.specs.Listings.{no_truth, no_margin, no_marks, verdict}
use Rattle.case_lines.specs.Leaves.{no_truth as left_no_truth, no_margin as left_no_margin, marked as left_marked}
use Rattle.case_lines.proofs.Ticked.{recounted, counted}
use Rattle.case_lines.proofs.ticking.tell.Goals as goal

pub returns-in_err-verdict-clause-told : goal.returns-in_err-verdict-clause-told
returns-in_err-verdict-clause-told c =
    let p = err_from_is_err_and c.from_residual.result c.from_residual.ensures.1 in
    rw (p.1, p.2) (λ k. no_truth _ c.in_err-verdict.ensures.turn refl)

pub returns-in_err-margin-clause-told : goal.returns-in_err-margin-clause-told
returns-in_err-margin-clause-told c =
    let p = err_from_is_err_and c.from_residual-in_err-margin.result c.from_residual-in_err-margin.ensures.1 in
    rw (p.1, p.2) (λ k. no_margin _ _ c.in_ok-verdict.ensures.turn c.in_err-margin.ensures.turn refl)

pub returns-in_err-marking-clause-told : goal.returns-in_err-marking-clause-told
returns-in_err-marking-clause-told c =
    let p = err_from_is_err_and c.from_residual-in_err-marking.result c.from_residual-in_err-marking.ensures.1 in
    let turn = recounted truths (state_of c.args.job.now) (table_of c.args.rule.now) c.args.tick (length c.args.cells.now.wants.now) (length c.args.cells.now.marks.now) (Err (mark_number c.in_err-marking.field-0.0)) c.judge.auto.cells c.in_err-marking.ensures.turn in
    rw (p.1, p.2) (λ k. no_marks _ _ _ c.in_ok-verdict.ensures.turn c.in_ok-margin.ensures.turn turn refl)

pub returns-clause-told : goal.returns-clause-told
returns-clause-told c =
    let marked : MarkedVerdict truths = record { verdict = worth truths truth_value c.in_ok-marking.marking.verdict; marks = take c.in_ok-marking.marking.marks c.mark.new.marks } in
    let turn = recounted truths (state_of c.args.job.now) (table_of c.args.rule.now) c.args.tick (length c.args.cells.now.wants.now) (length c.args.cells.now.marks.now) (Ok marked) c.judge.auto.cells c.in_ok-marking.ensures.turn in
    let written = c.in_ok-marking.ensures.cells.2.1 in
    let line = λ (n : ℕ). verdict_line c.args.tick (outcome_at (worth truths truth_value c.in_ok-verdict.verdict)) c.in_ok-margin.margin.lower.number c.in_ok-margin.margin.upper.number n in
    λ k. verdict _ _ marked c.in_ok-verdict.ensures.turn c.in_ok-margin.ensures.turn turn (sym (counted line c.in_ok-marking.marking.marks c.mark.new.marks (omega (arith, written.1, written.2.fits, c.mark.auto.marks))))

pub returns-in_err-verdict-clause-leaves : goal.returns-in_err-verdict-clause-leaves
returns-in_err-verdict-clause-leaves c = left_no_truth c.in_err-verdict.field-0.0 (record { turn = c.in_err-verdict.ensures.turn; cells = c.in_err-verdict.ensures.cells }) refl

pub returns-in_err-margin-clause-leaves : goal.returns-in_err-margin-clause-leaves
returns-in_err-margin-clause-leaves c =
    left_no_margin c.in_ok-verdict.verdict c.in_err-margin.field-0.0 (record { turn = c.in_ok-verdict.ensures.turn; cells = c.in_ok-verdict.ensures.cells })
    (record { turn = c.in_err-margin.ensures.turn; cells = c.in_err-margin.ensures.cells }) refl

pub returns-in_err-marking-clause-leaves : goal.returns-in_err-marking-clause-leaves
returns-in_err-marking-clause-leaves c =
    left_marked c.in_ok-verdict.verdict c.in_ok-margin.margin c.judge.new.cells (Err c.in_err-marking.field-0.0) (record { turn = c.in_ok-verdict.ensures.turn; cells = c.in_ok-verdict.ensures.cells })
    (record { turn = c.in_ok-margin.ensures.turn; cells = c.in_ok-margin.ensures.cells }) (record { turn = c.in_err-marking.ensures.turn; cells = c.in_err-marking.ensures.cells })

pub returns-clause-leaves : goal.returns-clause-leaves
returns-clause-leaves c =
    left_marked c.in_ok-verdict.verdict c.in_ok-margin.margin c.judge.new.cells (Ok c.in_ok-marking.marking) (record { turn = c.in_ok-verdict.ensures.turn; cells = c.in_ok-verdict.ensures.cells })
    (record { turn = c.in_ok-margin.ensures.turn; cells = c.in_ok-margin.ensures.cells }) (record { turn = c.in_ok-marking.ensures.turn; cells = c.in_ok-marking.ensures.cells })
