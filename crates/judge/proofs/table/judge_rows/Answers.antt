use Rattle.std.proofs.Common.{◌-◌, length, Ok, subst, arith}
use Rattle.pieces.specs.declared.sweep.Full.{Full}
use Rattle.judge.specs.declared.judgement.Judgement.{Judgement}
use Rattle.judge.specs.Judges.{JudgedRows}
use Rattle.grades.specs.Worth.{worth}
use Rattle.judge.proofs.Filling.{complete_stands, complete_verdict}
use Rattle.judge.proofs.table.judge_rows.Goals as goal

pub list-requires : goal.list-requires
list-requires g c =
    let w = c.in_ok-begins.ensures in
    complete_stands g.G.Grade.kind g.G.Grade.value c.rows-rows.result.now (g.L.Lines.x c.args.lines.now) c.args.cells.now c.write_rows.new.cells w.0 c.in_ok-begins.begins c.write_rows.auto.cells w.1.0 w.1.1
    (length c.rows-rows.result.now - 1) (omega (arith, c.rows-rows.ensures.sound.some_row))

pub returns : goal.returns
returns g c =
    let K = g.G.Grade.kind in
    let val = g.G.Grade.value in
    let x = g.L.Lines.x c.args.lines.now in
    let before = c.args.cells.now in
    let after = c.write_rows.new.cells in
    let rows = c.rows-rows.result.now in
    let begins = c.in_ok-begins.begins in
    let w = c.in_ok-begins.ensures in
    let v = c.look-verdict.result.0 in
    let j : Judgement g.row.G.Denot = record { verdict = v; begins = begins } in
    subst (λ rs. JudgedRows K val rs x before after {E = Full} c.args.tick (Ok j)) c.rows-rows.ensures.is (
      w.0,
      (
        w.1.0,
        w.1.1,
        complete_verdict K val rows x before after w.0 begins c.write_rows.auto.cells w.1.0 w.1.1
            c.rows-rows.ensures.sound.some_row c.list.result.pieces.now c.list.ensures c.args.tick (worth K val v) c.look-verdict.result.1 c.look-verdict.ensures.steady,
      ),
    )
