use Rattle.std.proofs.Common.{[], length, Err, sym, ap, ◌∙◌, subst}
use Rattle.std.proofs.lemmas.Result.{err_from_is_err_and}
use Rattle.rules.specs.Texts.{table_of}
use Rattle.runs.specs.States.{readings_of}
use Rattle.runs.specs.Calls.{JudgeTurn}
use Rattle.jobs.specs.Jobs.{state_of}
use Rattle.judge.specs.Answers.{judge_reply, JudgeCells}
use Rattle.judge.proofs.JudgedTables.{refused_first, refused_cells, judged_turn}
use Rattle.judge.proofs.judging.judge.Goals as goal

pub returns-in_err-judgement : goal.returns-in_err-judgement
returns-in_err-judgement g c =
    let K = g.G.Grade.kind in
    let val = g.G.Grade.value in
    let s = state_of c.args.job.now in
    let rows = table_of c.args.rule.now in
    let before = c.args.cells.now in
    let after = c.judge_table.new.cells in
    let f = c.in_err-judgement.field-0.0 in
    let h = c.in_err-judgement.ensures in
    let p = err_from_is_err_and c.from_residual.result c.from_residual.ensures.1 in
    let e = p.1 ∙ ap Err p.2 in
    record {
      turn = subst (λ r. JudgeTurn K s rows c.args.tick (length before) (judge_reply K val r)) (sym e) (refused_first K val s rows c.args.tick before after [] f h);
      cells = subst (λ r. JudgeCells K val rows (readings_of s) before after r) (sym e) (refused_cells K val s rows c.args.tick before after f h);
    }

pub returns : goal.returns
returns g c =
    let K = g.G.Grade.kind in
    let val = g.G.Grade.value in
    let s = state_of c.args.job.now in
    let rows = table_of c.args.rule.now in
    let before = c.args.cells.now in
    let after = c.judge_table.new.cells in
    let j = c.in_ok-judgement.judgement in
    let h = c.in_ok-judgement.ensures in
    record { turn = judged_turn K val s rows c.args.tick before after j h; cells = (h.2.0, h.2.1.0) }
