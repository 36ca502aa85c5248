use Rattle.std.proofs.Common.{get_or, pos, sym, refl, subst, arith}
use Rattle.std.proofs.lemmas.List.{get_or_default}
use Rattle.std.proofs.lemmas.Result.{err_from_is_err_and}
use Rattle.rules.specs.declared.row.Side.TheVariants.{AtLeast}
use Rattle.rules.specs.declared.row.Row.TheVariants.{Test, Not}
use Rattle.judge.specs.Judges.{RowsWritten}
use Rattle.judge.proofs.Filling.{filled_none, filled_ready, filled_more, filled_short, filled_all}
use Rattle.judge.proofs.table.write_rows.Goals as goal

pub loop-k-init : goal.loop-k-init
loop-k-init g c = filled_none g.G.Grade.kind g.G.Grade.value c.args.rows.now (g.L.Lines.x c.args.lines.now) c.args.cells.now _ refl refl

pub write_row-requires : goal.write_row-requires
write_row-requires g c =
    let rows = c.args.rows.now in
    let k = c.loop-k.k in
    let none = Test 0 AtLeast (pos 0) in
    record {
      within = c.loop-k.invariant.stacked.within;
      ready = filled_ready g.G.Grade.kind g.G.Grade.value rows (g.L.Lines.x c.args.lines.now) c.args.cells.now k c.loop-k.begins c.loop-k.cells c.loop-k.used c.loop-k.invariant
          c.requires.sound c.loop-k-test.true (get_or rows k none) (get_or_default rows k none (Not 0) c.loop-k-test.true);
    }

pub returns-in_err-used : goal.returns-in_err-used
returns-in_err-used g c =
    let K = g.G.Grade.kind in
    let rows = c.args.rows.now in
    let x = g.L.Lines.x c.args.lines.now in
    let k = c.loop-k.k in
    let none = Test 0 AtLeast (pos 0) in
    let p = err_from_is_err_and c.from_residual.result c.from_residual.ensures.1 in
    subst (λ r. RowsWritten K g.G.Grade.value rows x c.args.cells.now c.write_row.new.cells r) (sym p.1)
    (filled_short K g.G.Grade.value rows x c.args.cells.now k c.loop-k.begins c.loop-k.cells c.loop-k.used c.loop-k.invariant
    c.requires.sound c.loop-k-test.true (get_or rows k none) (get_or_default rows k none (Not 0) c.loop-k-test.true)
    g.met.G.Grade.lawful c.requires.settles c.write_row.new.cells c.write_row.auto.cells c.loop-k.auto.cells c.in_err-used.ensures)

pub loop-k-preserved : goal.loop-k-preserved
loop-k-preserved g c =
    let rows = c.args.rows.now in
    let k = c.loop-k.k in
    let none = Test 0 AtLeast (pos 0) in
    filled_more g.G.Grade.kind g.G.Grade.value rows (g.L.Lines.x c.args.lines.now) c.args.cells.now k c.loop-k.begins c.loop-k.cells c.loop-k.used c.loop-k.invariant
    c.requires.sound c.loop-k-test.true (get_or rows k none) (get_or_default rows k none (Not 0) c.loop-k-test.true)
    c.write_row.new.cells c.write_row.auto.cells c.in_ok-used.used c.in_ok-used.ensures

pub returns : goal.returns
returns g c =
    filled_all g.G.Grade.kind g.G.Grade.value c.args.rows.now (g.L.Lines.x c.args.lines.now) c.args.cells.now c.loop-k.k c.loop-k.begins c.loop-k.cells c.loop-k.used c.loop-k.invariant
    (omega arith) c.requires.sound.few c.loop-k.auto.cells
