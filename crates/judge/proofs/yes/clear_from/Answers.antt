use Rattle.std.proofs.Common.{◌≡◌, ℕ, ◌≤◌, false, sym, refl, inl, subst, arith}
use Rattle.judge.specs.WantCandidates.{FromOr}
use Rattle.judge.proofs.WantCandidates.{walk_clear}
use Rattle.judge.specs.Yes.{Clear}
use Rattle.judge.proofs.Knowns.{clip_most}
use Rattle.judge.proofs.Walks.{clear_no, clear_yes}
use Rattle.judge.proofs.yes.clear_from.Goals as goal

pub loop-t-preserved : goal.loop-t-preserved
loop-t-preserved g c =
    let f = g.S.YesNo.f c.args.source.now in
    let o = c.step-here.result.1 in
    let e = c.args.u in
    let i = c.loop-t.invariant in
    let is = c.clipped-t.ensures in
    let M = g.S.YesNo.may_change c.args.source.now in
    let P : ℕ → Type 0 = λ n. (n ≤ e) × Clear f c.args.from n c.loop-t.s × (f e ≡ false → FromOr M c.args.from c.loop-t.s) in
    subst P (sym is) (clip_most o e, clear_no f c.args.from c.loop-t.t e c.loop-t.s c.step-here.result.0 o i.1 c.step-here.ensures.steady c.loop-t-test.true c.if-here.false, i.2)

pub loop-t-preserved-then-here : goal.loop-t-preserved-then-here
loop-t-preserved-then-here g c =
    let f = g.S.YesNo.f c.args.source.now in
    let o = c.step-here.result.1 in
    let e = c.args.u in
    let i = c.loop-t.invariant in
    let is = c.clipped-t.ensures in
    let M = g.S.YesNo.may_change c.args.source.now in
    let P : ℕ → Type 0 = λ n. (n ≤ e) × Clear f c.args.from n n × (f e ≡ false → FromOr M c.args.from n) in
    subst P (sym is) (clip_most o e, clear_yes f c.args.from c.loop-t.t e c.loop-t.s c.step-here.result.0 o i.1 c.step-here.ensures.steady c.loop-t-test.true c.if-here.true, λ no. walk_clear M f c.args.from c.loop-t.t e c.step-here.result.0 o c.step-here.ensures.steady c.loop-t-test.true c.step-here.ensures.named c.if-here.true no)

pub returns : goal.returns
returns g c =
    let e : c.loop-t.t ≡ c.args.u = omega (arith, c.loop-t.invariant.0, c.loop-t-test.false) in
    record { clear = subst (λ n. Clear (g.S.YesNo.f c.args.source.now) c.args.from n c.loop-t.s) e c.loop-t.invariant.1; stop = c.loop-t.invariant.2 }

pub loop-t-init : goal.loop-t-init
loop-t-init g c = (
  c.requires,
  record { from = omega arith; to = omega arith; none = λ k a b. absurd (omega arith); stop = λ l. absurd (omega arith) },
  λ no. inl refl,
)
