use Rattle.std.proofs.Common.{◌<◌, ◌≤◌, sym, ◌∙◌, refl, inl, subst, ⊎_elim, arith}
use Rattle.std.proofs.lemmas.Bool.{cases_lt}
use Rattle.judge.specs.Yes.{clip}
use Rattle.pieces.proofs.Steadies.{before_self}
use Rattle.judge.proofs.Knowns.{clip_before, clip_later, clip_most, same_if, apart_if}
use Rattle.judge.specs.WantCandidates.{FromOr}
use Rattle.judge.proofs.WantCandidates.{walk_on}
use Rattle.judge.proofs.yes.first.Goals as goal

pub returns-then-here-value : goal.returns-then-here-value
returns-then-here-value g c =
    let i = c.loop-t.invariant in
    let st = c.step-here.ensures.steady in
    let h = same_if c.step-here.result.0 c.args.value c.if-here-value.true in
    record {
      first = record { from = i.0; to = i.1; none = i.2; here = λ _. sym (st.1 c.loop-t.t (omega arith) (before_self c.loop-t.t c.step-here.result.1 st.0)) ∙ h };
      stop = i.3;
    }

pub loop-t-preserved : goal.loop-t-preserved
loop-t-preserved g c =
    let i = c.loop-t.invariant in
    let st = c.step-here.ensures.steady in
    let o = c.step-here.result.1 in
    let e = c.args.end in
    let lt : c.loop-t.t < clip o e = clip_later o e c.loop-t.t st.0 c.loop-t-test.true in
    let le : clip o e ≤ e = clip_most o e in
    let is = c.clipped-t.ensures in (
      omega arith,
      omega arith,
      λ k a b h. ⊎_elim (λ l. i.2 k a l h)
          (λ l. apart_if c.step-here.result.0 c.args.value c.if-here-value.false (st.1 k l (clip_before o e k (omega arith)) ∙ h))
          (cases_lt k c.loop-t.t),
      λ l.
          let P = g.S.YesNo.may_change c.args.source.now in
          let less : clip o e < e = omega arith in
          subst (FromOr P c.args.from) (sym is) (walk_on P (g.S.YesNo.f c.args.source.now) c.args.from c.loop-t.t e c.step-here.result.0 o st c.loop-t-test.true c.step-here.ensures.named less),
    )

pub loop-t-init : goal.loop-t-init
loop-t-init g c = (omega arith, c.requires, λ k a b h. omega arith, λ l. inl refl)

pub returns : goal.returns
returns g c =
    let i = c.loop-t.invariant in
    record {
      first = record { from = c.requires; to = omega arith; none = λ k a b h. i.2 k a (omega (arith, c.loop-t-test.false)) h; here = λ l. absurd (omega arith) };
      stop = λ l. absurd (omega arith);
    }
