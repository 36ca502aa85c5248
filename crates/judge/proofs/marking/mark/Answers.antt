use Rattle.std.proofs.Common.{◌+◌, length, Ok, Err, sym, refl, ap, ◌∙◌, subst}
use Rattle.std.proofs.lemmas.Result.{err_from_is_err_and}
use Rattle.rules.specs.Texts.{table_of}
use Rattle.rules.specs.Rows.{Sound, reach}
use Rattle.runs.specs.States.{readings_of}
use Rattle.runs.specs.Calls.{MarkTurn}
use Rattle.jobs.specs.Jobs.{state_of}
use Rattle.judge.specs.Markings.{RangesStand, MarkedTable}
use Rattle.judge.specs.Answers.{mark_reply, MarkedCells}
use Rattle.judge.proofs.JudgedTables.{refused_cells}
use Rattle.judge.proofs.MarkedTables.{refused_turn, short_turn, short_cells, marked_turn, judged_stand}
use Rattle.judge.proofs.marking.mark.Goals as goal

pub returns-in_err-judgement : goal.returns-in_err-judgement
returns-in_err-judgement g c =
    let K = g.G.Grade.kind in
    let val = g.G.Grade.value in
    let s = state_of c.args.job.now in
    let rows = table_of c.args.rule.now in
    let cells = c.args.cells.now in
    let wants = c.args.wants.now in
    let marks = c.args.marks.now in
    let after = c.judge_table.new.cells in
    let f = c.in_err-judgement.field-0.0 in
    let sound = subst Sound c.rows-rows.ensures.is c.rows-rows.ensures.sound in
    let h = c.in_err-judgement.ensures in
    let p = err_from_is_err_and c.from_residual.result c.from_residual.ensures.1 in
    let e = p.1 ∙ ap Err p.2 in
    record {
      turn = subst (λ r. MarkTurn K s rows c.args.tick (length cells) (length wants) (length marks) (mark_reply K val marks r)) (sym e) (refused_turn g.met.G.Grade.lawful val s rows sound c.args.tick cells after wants wants marks marks f h);
      cells = subst (λ r. MarkedCells K val rows (readings_of s) c.args.tick cells after wants wants marks marks r) (sym e) (refused_cells K val s rows c.args.tick cells after f h, refl, refl);
      law = c.runs_keep_the_law.ensures;
    }

pub mark-requires : goal.mark-requires
mark-requires g c =
    let s = state_of c.args.job.now in
    let rows = table_of c.args.rule.now in
    let is = c.rows-rows.ensures.is in
    let sound = c.rows-rows.ensures.sound in
    let h = c.in_ok-judgement.ensures in
    let j = c.in_ok-judgement.judgement in
    record {
      sound = sound;
      near = h.1;
      end = ap (λ n. c.args.tick + n + 1) (c.reach.ensures ∙ ap reach (sym is));
      stand = subst (λ rs. RangesStand g.G.Grade.kind rs (readings_of s) g.G.Grade.value j.begins c.judge_table.new.cells) (sym is)
          (judged_stand g.met.G.Grade.lawful g.G.Grade.value s rows (subst Sound is sound) c.args.tick c.args.cells.now c.judge_table.new.cells c.args.wants.now c.args.wants.now c.args.marks.now c.args.marks.now j h c.judge_table.auto.cells);
    }

pub returns-in_err-count : goal.returns-in_err-count
returns-in_err-count g c =
    let K = g.G.Grade.kind in
    let val = g.G.Grade.value in
    let s = state_of c.args.job.now in
    let rows = table_of c.args.rule.now in
    let cells = c.args.cells.now in
    let after = c.judge_table.new.cells in
    let wants = c.args.wants.now in
    let wants' = c.mark.new.wants in
    let marks = c.args.marks.now in
    let marks' = c.mark.new.marks in
    let f = c.in_err-count.field-0.0 in
    let is = c.rows-rows.ensures.is in
    let sound = subst Sound is c.rows-rows.ensures.sound in
    let j = c.in_ok-judgement.judgement in
    let h = c.in_ok-judgement.ensures in
    let m = subst (λ rs. MarkedTable K rs (readings_of s) c.args.tick wants wants' marks marks' (Err f)) is c.in_err-count.ensures in
    let p = err_from_is_err_and c.from_residual-in_err-count.result c.from_residual-in_err-count.ensures.1 in
    let e = p.1 ∙ ap Err p.2 in
    record {
      turn = subst (λ r. MarkTurn K s rows c.args.tick (length cells) (length wants) (length marks) (mark_reply K val marks' r)) (sym e) (short_turn g.met.G.Grade.lawful val s rows sound c.args.tick cells after wants wants' marks marks' j h f m);
      cells = subst (λ r. MarkedCells K val rows (readings_of s) c.args.tick cells after wants wants' marks marks' r) (sym e) (short_cells g.met.G.Grade.lawful val s rows sound c.args.tick cells after wants wants' marks marks' j h f m);
      law = c.runs_keep_the_law.ensures;
    }

pub returns : goal.returns
returns g c =
    let K = g.G.Grade.kind in
    let val = g.G.Grade.value in
    let s = state_of c.args.job.now in
    let rows = table_of c.args.rule.now in
    let cells = c.args.cells.now in
    let after = c.judge_table.new.cells in
    let wants = c.args.wants.now in
    let wants' = c.mark.new.wants in
    let marks = c.args.marks.now in
    let marks' = c.mark.new.marks in
    let n = c.in_ok-count.count in
    let is = c.rows-rows.ensures.is in
    let sound = subst Sound is c.rows-rows.ensures.sound in
    let j = c.in_ok-judgement.judgement in
    let h = c.in_ok-judgement.ensures in
    let m = subst (λ rs. MarkedTable K rs (readings_of s) c.args.tick wants wants' marks marks' (Ok n)) is c.in_ok-count.ensures in
    record {
      turn = marked_turn g.met.G.Grade.lawful val s rows sound c.args.tick cells after wants wants' marks marks' j h n m;
      cells = ((h.2.0, h.2.1.0), m.0, m.1);
      law = c.runs_keep_the_law.ensures;
    }
