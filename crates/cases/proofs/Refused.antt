-- A reply whose fault is given the number of its field.
use Rattle.std.proofs.Common.{◌≡◌, Ok, Err, Result}
use Rattle.std.specs.Result.{MatchResult}
use Rattle.cases.specs.declared.fault.CaseFault.{CaseFault}
use Rattle.cases.specs.declared.fault.CaseRefusal.{CaseRefusal}

module _ {A : Type 0} (r : Result A CaseFault) where
  pub kept : (x : A) → MatchResult r (λ y. ◌≡◌ {A = Result A CaseRefusal} (Ok x) (Ok y)) (λ f. ⊥) → r ≡ Ok x
  kept x h = elim r as (λ v. MatchResult v (λ y. ◌≡◌ {A = Result A CaseRefusal} (Ok x) (Ok y)) (λ f. ⊥) → v ≡ Ok x) [ Ok y ↦ λ e. cc | Err f ↦ λ e. absurd e ] h
