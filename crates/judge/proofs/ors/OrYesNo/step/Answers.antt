use Rattle.std.proofs.Common.{ℕ, Bool, ◌||◌, ◌⊎◌, sym, subst, refl}
use Rattle.pieces.proofs.Steadies.{steady_as, both_steady}
use Rattle.judge.specs.Candidates.{NeverOr}
use Rattle.judge.proofs.Candidates.{never_or_sooner}
use Rattle.judge.proofs.ors.OrYesNo.step.Goals as goal

pub returns : goal.returns
returns g c =
    let s = c.args.self.now in
    let t = c.args.t in
    let one : ℕ → Bool = g.S.YesNo.f s.one.now in
    let other : ℕ → Bool = g.T.YesNo.f s.other.now in
    let x = c.step-here.result in
    let y = c.step-also.result in
    let P : ℕ → Type 0 = g.S.YesNo.may_change s.one.now in
    let Q : ℕ → Type 0 = g.T.YesNo.may_change s.other.now in
    record {
      steady = steady_as (λ u. one u || other u) t _ _ _ _ refl c.first_of.ensures (both_steady one other t x.0 y.0 x.1 y.1 ◌||◌ c.step-here.ensures.steady c.step-also.ensures.steady);
      named = subst (NeverOr (λ n. P n ⊎ Q n)) (sym c.first_of.ensures) (never_or_sooner P Q x.1 y.1 c.step-here.ensures.named c.step-also.ensures.named);
    }
