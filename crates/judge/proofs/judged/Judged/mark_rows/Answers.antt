use Rattle.std.proofs.Common.{ℕ, ◌-◌, Bool, [], length, get_or, pos, sym, refl, ap, subst, arith}
use Rattle.std.proofs.lemmas.List.{get_or_default}
use Rattle.std.proofs.lemmas.Result.{err_from_is_err_and}
use Rattle.rules.specs.declared.row.Side.TheVariants.{AtLeast}
use Rattle.rules.specs.declared.row.Row.TheVariants.{Test, Not}
use Rattle.rules.specs.Rows.{row_at}
use Rattle.pieces.specs.declared.sweep.Full.{Full}
use Rattle.judge.specs.Children.{is_test, asks_at}
use Rattle.judge.specs.Marks.{MarkedRows, OfRows}
use Rattle.judge.proofs.RowMarks.{next_row, short_row}
use Rattle.judge.proofs.judged.Judged.mark_rows.Goals as goal

pub loop-k-init : goal.loop-k-init
loop-k-init g c = ([], (refl, (refl, refl), refl))

pub returns-in_err-used : goal.returns-in_err-used
returns-in_err-used g c =
    let rows = c.args.self.now.rows.now in
    let n = length rows in
    let asks : ℕ → ℕ → Bool = λ k. asks_at g.G.Grade.kind g.G.Grade.value c.args.self.now.ranges.begins.now c.args.self.now.ranges.cells.now c.args.wants.begins.now c.args.wants.cells.now k (n - 1 - k) in
    let k = c.loop-k.k in
    let none = Test 0 AtLeast (pos 0) in
    let p = err_from_is_err_and c.from_residual.result c.from_residual.ensures.1 in
    subst (λ r. MarkedRows (λ j. is_test (row_at rows j)) asks (λ j. c.args.self.now.limit) n c.args.marks.now c.mark_test.new.marks r) (sym p.1)
    (short_row (λ j. is_test (row_at rows j)) asks (λ j. c.args.self.now.limit) c.args.marks.now k c.loop-k.used c.loop-k.marks c.mark_test.new.marks c.loop-k.invariant p.0
    (is_test (get_or rows k none)) (ap is_test (sym (get_or_default rows k none (Not 0) c.loop-k-test.true))) n c.loop-k-test.true c.loop-k.auto.marks c.in_err-used.ensures)

pub loop-k-preserved : goal.loop-k-preserved
loop-k-preserved g c =
    let rows = c.args.self.now.rows.now in
    let n = length rows in
    let asks : ℕ → ℕ → Bool = λ k. asks_at g.G.Grade.kind g.G.Grade.value c.args.self.now.ranges.begins.now c.args.self.now.ranges.cells.now c.args.wants.begins.now c.args.wants.cells.now k (n - 1 - k) in
    let k = c.loop-k.k in
    let none = Test 0 AtLeast (pos 0) in
    next_row (λ j. is_test (row_at rows j)) asks (λ j. c.args.self.now.limit) c.args.marks.now k c.loop-k.used c.loop-k.marks c.mark_test.new.marks c.loop-k.invariant Full
    (is_test (get_or rows k none)) (ap is_test (sym (get_or_default rows k none (Not 0) c.loop-k-test.true))) c.in_ok-used.used c.in_ok-used.ensures

pub returns : goal.returns
returns g c =
    let rows = c.args.self.now.rows.now in
    let n = length rows in
    let asks : ℕ → ℕ → Bool = λ k. asks_at g.G.Grade.kind g.G.Grade.value c.args.self.now.ranges.begins.now c.args.self.now.ranges.cells.now c.args.wants.begins.now c.args.wants.cells.now k (n - 1 - k) in
    let i = c.loop-k.invariant in
    (i.0, (i.1.0, i.1.1, subst (λ m. OfRows (λ j. is_test (row_at rows j)) asks (λ j. c.args.self.now.limit) m i.0) (omega arith) i.1.2))
