use Rattle.std.proofs.Common.{ℕ, ◌⊎◌, inl, inr, ⊎_elim, refl, true, false, Some, sym, ap, ◌∙◌, subst, arith}
use Rattle.pieces.specs.Ticks.{sooner}
use Rattle.judge.specs.Yes.{clip}
use Rattle.judge.specs.Reaches.{Ahead}
use Rattle.pieces.proofs.Steadies.{before_self}
use Rattle.judge.proofs.Walks.{ahead_dead, ahead_far, ahead_near}
use Rattle.judge.specs.Candidates.{NeverOr}
use Rattle.judge.specs.WantCandidates.{AheadCandidate}
use Rattle.judge.proofs.Candidates.{never_or_sooner}
use Rattle.judge.proofs.WantCandidates.{clip_or}
use Rattle.judge.proofs.child.ahead.Goals as goal

pub returns-then-gone : goal.returns-then-gone
returns-then-gone g c =
    let dead = g.B.YesNo.f c.args.dead.now in
    let goal = g.C.YesNo.f c.args.need.now in
    let w = c.args.w in
    let st = c.step-gone.ensures.steady in
    let gone = sym (st.1 w (omega arith) (before_self w c.step-gone.result.1 st.0)) ∙ c.if-gone.true in
    record {
      ahead = ahead_dead dead goal c.args.to c.args.end w c.args.t c.requires.from c.requires.alive (sym (st.1 w (omega arith) (before_self w c.step-gone.result.1 st.0)) ∙ c.if-gone.true);
      named = inl (refl, gone);
    }

pub returns-then-t-soonest : goal.returns-then-t-soonest
returns-then-t-soonest g c =
    let dead = g.B.YesNo.f c.args.dead.now in
    let goal = g.C.YesNo.f c.args.need.now in
    let P : ℕ → Type 0 = λ n. Ahead dead goal c.args.to c.args.end c.args.w c.args.t false (Some n) in
    record {
      ahead = subst P (sym c.saturating_sub-soonest.ensures) (ahead_far dead goal c.args.to c.args.end c.args.w c.args.t c.requires.from (omega arith));
      named = inr (inl (omega arith));
    }

pub returns : goal.returns
returns g c =
    let dead = g.B.YesNo.f c.args.dead.now in
    let goal = g.C.YesNo.f c.args.need.now in
    let e = c.args.end in
    let P : ℕ → Type 0 = λ n. Ahead dead goal c.args.to e c.args.w c.args.t true (Some n) in
    let D = g.B.YesNo.may_change c.args.dead.now in
    let M = g.C.YesNo.may_change c.args.need.now in
    let N : ℕ → Type 0 = AheadCandidate dead D M c.args.to e c.args.w in
    record {
      ahead = subst P (sym (c.clipped-next.ensures ∙ ap (λ o. clip o e) c.first_of.ensures))
          (ahead_near dead goal c.args.to e c.args.w c.args.t c.requires.from c.step-gone.result.0 c.step-ends.result.0 c.step-gone.result.1 c.step-ends.result.1 (omega arith) c.requires.before c.requires.here c.step-gone.ensures.steady c.step-ends.ensures.steady c.if-gone.false);
      named = subst (λ (k : ℕ). NeverOr N (Some k)) (sym (c.clipped-next.ensures ∙ ap (λ o. clip o e) c.first_of.ensures)) (⊎_elim (λ k. inr (inr (inr k))) (λ k. inr (inr (inl k))) (clip_or (λ k. D k ⊎ M k) e (sooner c.step-gone.result.1 c.step-ends.result.1) (never_or_sooner D M c.step-gone.result.1 c.step-ends.result.1 c.step-gone.ensures.named c.step-ends.ensures.named)));
    }
