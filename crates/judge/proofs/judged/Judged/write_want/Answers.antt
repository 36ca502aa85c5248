use Rattle.std.proofs.Common.{◌≡◌, ℕ, ◌-◌, ◌<◌, Bool, length, get_or, pos, subst, sub-one, arith}
use Rattle.pieces.specs.Cells.{Written}
use Rattle.std.proofs.lemmas.List.{get_or_default}
use Rattle.rules.specs.declared.row.Side.TheVariants.{AtLeast}
use Rattle.rules.specs.declared.row.Row.TheVariants.{Test, Not}
use Rattle.rules.specs.Rows.{root}
use Rattle.runs.specs.Calls.{TellsWanted}
use Rattle.judge.specs.Places.{list_at}
use Rattle.judge.specs.Children.{said, passed_on}
use Rattle.judge.specs.Markings.{only_at}
use Rattle.judge.proofs.Parenthood.{has_parent, parent_is}
use Rattle.judge.proofs.RowWants.{asked_tells, askable, child_right}
use Rattle.judge.proofs.judged.Judged.write_want.Goals as goal

pub returns-then-i-eq0 : goal.returns-then-i-eq0
returns-then-i-eq0 g c =
    let j = c.args.self.now in (
      only_at j.tick,
      (asked_tells g.G.Grade.kind g.G.Grade.value j.rows.now c.requires.stands.sound (g.L.Lines.x j.lines.now) j.tick c.args.i c.if-i-eq0.true, c.sweep.ensures),
    )

pub unwrap-number-requires : goal.unwrap-number-requires
unwrap-number-requires g c =
    let rows = c.args.self.now.rows.now in
    has_parent rows (length rows - 1 - c.args.i) c.requires.stands.sound (omega arith) c.parent_in.result c.parent_in.ensures

pub list-requires : goal.list-requires
list-requires g c =
    let rows = c.args.self.now.rows.now in
    let k = c.unwrap-number.result in
    let p = parent_is rows (length rows - 1 - c.args.i) k c.parent_in.result c.unwrap-number.ensures c.parent_in.ensures in
    let below = c.requires.stands.sound.earlier k (length rows - 1 - c.args.i) p.is_row p.child in
    c.requires.known.stands (length rows - 1 - k) (omega arith)

pub invariant_of-signal : goal.invariant_of-signal
invariant_of-signal g c =
    let j = c.args.self.now in
    let s = c.requires.stands in
    let rows = j.rows.now in
    let k = c.unwrap-number.result in
    let p = parent_is rows (length rows - 1 - c.args.i) k c.parent_in.result c.unwrap-number.ensures c.parent_in.ensures in
    let lt = p.is_row in
    let none = Test 0 AtLeast (pos 0) in
    record { askable = askable g.G.Grade.kind g.G.Grade.value rows s.sound (g.L.Lines.x j.lines.now) j.tick j.ranges.begins.now j.ranges.cells.now s.stand j.limit s.end k lt (get_or rows k none) (get_or_default rows k none (Not 0) lt) s.near }

pub returns : goal.returns
returns g c =
    let K = g.G.Grade.kind in
    let j = c.args.self.now in
    let s = c.requires.stands in
    let rows = j.rows.now in
    let x = g.L.Lines.x j.lines.now in
    let begins = j.ranges.begins.now in
    let cells = j.ranges.cells.now in
    let k = c.unwrap-number.result in
    let p = parent_is rows (length rows - 1 - c.args.i) k c.parent_in.result c.unwrap-number.ensures c.parent_in.ensures in
    let lt = p.is_row in
    let none = Test 0 AtLeast (pos 0) in
    let child = length rows - 1 - c.args.i in
    let below = s.sound.earlier k child lt p.child in
    let own : length rows - 1 - k < c.args.i = omega arith in
    let want = said (list_at c.args.done.begins.now c.args.done.cells.now (length rows - 1 - k)) in
    let back : root rows - (length rows - 1 - k) ≡ k = omega (arith, sub-one (length rows)) in
    let here : child ≡ root rows - c.args.i = omega (arith, sub-one (length rows)) in
    let told = subst (λ i. TellsWanted K rows x j.tick i want) back (c.requires.known.right (length rows - 1 - k) own) in
    let f = λ (w : ℕ → Bool). passed_on K g.G.Grade.value begins cells (get_or rows k none) k child j.limit w in (
      f want,
      (
        subst (λ i. TellsWanted K rows x j.tick i (f want)) here
            (child_right K g.G.Grade.value rows s.sound x j.tick begins cells s.stand j.limit s.end k lt (get_or rows k none)
            (get_or_default rows k none (Not 0) lt) child p.child want told),
        subst (λ ps. Written (λ (b : Bool). b) (f (said ps)) c.args.rest.now 0 c.sweep-2.new.cells c.sweep-2.result) c.list.ensures c.sweep-2.ensures,
      ),
    )
