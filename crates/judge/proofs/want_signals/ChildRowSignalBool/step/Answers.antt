use Rattle.std.proofs.Common.{ℕ, refl, inl, inr, eq-eqb, ne_eqb}
use Rattle.rules.specs.declared.row.Row.TheVariants.{Until}
use Rattle.judge.specs.declared.trial.Trial.TheVariants.{Lowest, Higher}
use Rattle.judge.specs.Places.{list_at}
use Rattle.judge.proofs.WantCandidates.{test_asked, here_asked, window_asked, right_asked, left_asked}
use Rattle.judge.proofs.RowSteps.{stands}
use Rattle.judge.proofs.WantSteps.{asks_said, trial_said, passed_here, passed_window, passed_right, passed_left}
use Rattle.judge.proofs.want_signals.ChildRowSignalBool.step.Goals as goal

pub list-requires : goal.list-requires
list-requires g c = stands c.args.self.now.row (Until c.in-Until.from c.in-Until.to c.in-Until.left c.in-Until.right) c.args.self.now.ranges.begins.now c.args.self.now.ranges.cells.now c.args.self.now.askable.ready c.in-Until.is c.in-Until.left (inl refl)

pub list-requires-else-self-right : goal.list-requires-else-self-right
list-requires-else-self-right g c = stands c.args.self.now.row (Until c.in-Until.from c.in-Until.to c.in-Until.left c.in-Until.right) c.args.self.now.ranges.begins.now c.args.self.now.ranges.cells.now c.args.self.now.askable.ready c.in-Until.is c.in-Until.right (inr refl)

pub returns-in-Not-clause-steady : goal.returns-in-Not-clause-steady
returns-in-Not-clause-steady g c =
    let K = g.G.Grade.kind in
    let val = g.G.Grade.value in
    let s = c.args.self.now in
    let begins = s.ranges.begins.now in
    let ranges = s.ranges.cells.now in
    let range = c.list-range in
    let called = c.right_at in
    passed_here K val begins ranges s.row s.number s.child s.limit c.args.t s.want.pieces.now _
    (asks_said K val begins ranges s.want.pieces.now _ s.number range.result.pieces.now range.result.ok range.ensures) called.result.0 called.result.1 c.in-Not.is called.ensures.steady

pub returns-in-Eventually-clause-steady : goal.returns-in-Eventually-clause-steady
returns-in-Eventually-clause-steady g c =
    let K = g.G.Grade.kind in
    let val = g.G.Grade.value in
    let s = c.args.self.now in
    let begins = s.ranges.begins.now in
    let ranges = s.ranges.cells.now in
    let range = c.list-range in
    let called = c.right_at-in-Eventually in
    passed_window K val begins ranges s.row s.number s.child s.limit c.args.t s.want.pieces.now _
    (asks_said K val begins ranges s.want.pieces.now _ s.number range.result.pieces.now range.result.ok range.ensures) called.result.0 called.result.1 c.in-Eventually.from c.in-Eventually.to c.in-Eventually.is called.ensures.steady

pub returns-then-self-right-clause-steady : goal.returns-then-self-right-clause-steady
returns-then-self-right-clause-steady g c =
    let K = g.G.Grade.kind in
    let val = g.G.Grade.value in
    let begins = c.args.self.now.ranges.begins.now in
    let ranges = c.args.self.now.ranges.cells.now in
    let range = c.list-range in
    let left = c.list in
    let u = c.in-Until in
    let called = c.right_at-then-self-right in
    passed_right K val begins ranges c.args.self.now.row u.from u.to u.left u.right u.is c.args.self.now.number c.args.self.now.child c.args.self.now.limit c.args.t c.args.self.now.want.pieces.now _
    (asks_said K val begins ranges c.args.self.now.want.pieces.now _ c.args.self.now.number range.result.pieces.now range.result.ok range.ensures) _
    (trial_said K val begins ranges Lowest u.left left.result.pieces.now left.result.ok left.ensures) called.result.0 called.result.1 (eq-eqb c.args.self.now.child u.right c.if-self-right.true) called.ensures.steady

pub returns-else-self-right-clause-steady : goal.returns-else-self-right-clause-steady
returns-else-self-right-clause-steady g c =
    let K = g.G.Grade.kind in
    let val = g.G.Grade.value in
    let begins = c.args.self.now.ranges.begins.now in
    let ranges = c.args.self.now.ranges.cells.now in
    let range = c.list-range in
    let left = c.list in
    let right = c.list-else-self-right in
    let u = c.in-Until in
    let called = c.left_at in
    passed_left K val begins ranges c.args.self.now.row u.from u.to u.left u.right u.is c.args.self.now.number c.args.self.now.child c.args.self.now.limit c.args.t c.args.self.now.want.pieces.now _
    (asks_said K val begins ranges c.args.self.now.want.pieces.now _ c.args.self.now.number range.result.pieces.now range.result.ok range.ensures) _
    (trial_said K val begins ranges Lowest u.left left.result.pieces.now left.result.ok left.ensures) called.result.0 called.result.1 (ne_eqb c.args.self.now.child u.right c.if-self-right.false) _
    (trial_said K val begins ranges Higher u.right right.result.pieces.now right.result.ok right.ensures) called.ensures.steady

pub returns-in-Test-clause-named : goal.returns-in-Test-clause-named
returns-in-Test-clause-named g c =
    let s = c.args.self.now in
    let at = λ (k : ℕ). list_at s.ranges.begins.now s.ranges.cells.now k in
    test_asked at s.row s.child s.limit s.number s.want.pieces.now _ (c.in-Test.line, c.in-Test.side, c.in-Test.limit, c.in-Test.is) refl

pub returns-in-Not-clause-named : goal.returns-in-Not-clause-named
returns-in-Not-clause-named g c =
    let s = c.args.self.now in
    let at = λ (k : ℕ). list_at s.ranges.begins.now s.ranges.cells.now k in
    let range = c.list-range in
    let called = c.right_at in
    here_asked at s.row s.child s.limit s.number s.want.pieces.now called.result.1 range.result.pieces.now range.ensures c.in-Not.is called.ensures.named

pub returns-in-Eventually-clause-named : goal.returns-in-Eventually-clause-named
returns-in-Eventually-clause-named g c =
    let s = c.args.self.now in
    let at = λ (k : ℕ). list_at s.ranges.begins.now s.ranges.cells.now k in
    let range = c.list-range in
    let called = c.right_at-in-Eventually in
    window_asked at s.row s.child s.limit s.number s.want.pieces.now called.result.1 range.result.pieces.now range.ensures c.in-Eventually.from c.in-Eventually.to c.in-Eventually.is called.ensures.named

pub returns-then-self-right-clause-named : goal.returns-then-self-right-clause-named
returns-then-self-right-clause-named g c =
    let s = c.args.self.now in
    let at = λ (k : ℕ). list_at s.ranges.begins.now s.ranges.cells.now k in
    let range = c.list-range in
    let left = c.list in
    let u = c.in-Until in
    let called = c.right_at-then-self-right in
    right_asked at s.row s.child s.limit s.number s.want.pieces.now called.result.1 range.result.pieces.now range.ensures u.from u.to u.left u.right u.is left.result.pieces.now left.ensures
    c.if-self-right.true called.ensures.named

pub returns-else-self-right-clause-named : goal.returns-else-self-right-clause-named
returns-else-self-right-clause-named g c =
    let s = c.args.self.now in
    let at = λ (k : ℕ). list_at s.ranges.begins.now s.ranges.cells.now k in
    let range = c.list-range in
    let left = c.list in
    let right = c.list-else-self-right in
    let u = c.in-Until in
    let called = c.left_at in
    left_asked at s.row s.child s.limit s.number s.want.pieces.now called.result.1 range.result.pieces.now range.ensures u.from u.to u.left u.right u.is left.result.pieces.now left.ensures
    c.if-self-right.false right.result.pieces.now right.ensures called.ensures.named
