-- What follows from a comparison with an answer that was found the same.
use Rattle.std.proofs.Common.{rules, ◌≡◌, Bool, true, ◌&&◌, int_eq, Option, Some, None, Result, Ok, Err, IfOk, subst}
use Rattle.std.specs.Option.{option_eq}
use Rattle.std.specs.Result.{result_err}
use borrow.Author.Tests.{tests}
use Rattle.reference.specs.declared.ends.Ends.{Ends}

-- what holds holds after a call too
pub always : {A E : Type 0} (r : Result A E) (P : Type 0) → P → IfOk r (λ u. P)
always (Ok a) P h = h
always (Err e) P h = tt

pub same_ends : (p q : Ends) (b : Bool) → b ≡ int_eq p.lower q.lower && int_eq p.upper q.upper → b ≡ true → p ≡ q
same_ends p q b e h = search (rules, tests)

-- an answer whose fault is the one that is named, or that has none
module _ {A F : Type 0} (eq : F → F → Bool) (same : (x y : F) → eq x y ≡ true → x ≡ y) (P : Result A F → Type 0) where
  pub refused : (r : Result A F) (o : Option F) (f : F) → P r → option_eq eq (result_err r) o ≡ true → o ≡ Some f → P (Err f)
  refused (Ok a) o f h e is = let no : option_eq eq None (Some f) ≡ true = subst (λ o. option_eq eq None o ≡ true) is e in absurd (search rules)
  refused (Err g) o f h e is = let yes : eq g f ≡ true = subst (λ o. option_eq eq (Some g) o ≡ true) is e in subst (λ k. P (Err k)) (same g f yes) h

  pub given : (r : Result A F) (o : Option F) → P r → option_eq eq (result_err r) o ≡ true → o ≡ None → (a : A) × P (Ok a)
  given (Ok a) o h e is = (a, h)
  given (Err g) o h e is = let no : option_eq eq (Some g) None ≡ true = subst (λ o. option_eq eq (Some g) o ≡ true) is e in absurd (search rules)
