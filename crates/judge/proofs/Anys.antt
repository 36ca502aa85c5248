-- Some tick below a bound.
use Rattle.std.proofs.Common.{◌≡◌, ℕ, zero, suc, ◌<◌, Bool, true, false, sym, refl, ap, ◌∙◌, ⊎_elim, arith}
use borrow.Author.Tests.{clash}
use Rattle.std.proofs.lemmas.Bool.{or_cases, or_left, or_right, cases_order}
use Rattle.grades.specs.Kinds.{Tells}
use Rattle.judge.specs.Yes.{any}
use Rattle.runs.proofs.WantedLists.{told_same}

pub tells_yes : (P : Type 0) (b : Bool) → Tells b P → b ≡ true → P
tells_yes P true p e = p
tells_yes P false n e = absurd (clash e)

pub tells_no : (P : Type 0) (b : Bool) → Tells b P → P → b ≡ true
tells_no P true p q = refl
tells_no P false n q = absurd (n q)

pub tells_from : (P : Type 0) (b : Bool) → (b ≡ true → P) → (P → b ≡ true) → Tells b P
tells_from P true f h = f refl
tells_from P false f h = λ p. clash (h p)

pub any_from : (f : ℕ → Bool) (n t : ℕ) → t < n → f t ≡ true → any f n ≡ true
any_from f zero t h e = absurd (omega arith)
any_from f (suc n) t h e =
    ⊎_elim (λ (q : t ≡ n). or_left (f n) (any f n) (ap f (sym q) ∙ e))
    (⊎_elim (λ (l : t < n). or_right (f n) (any f n) (any_from f n t l e)) (λ (l : n < t). absurd (omega arith)))
    (cases_order t n)

pub any_some : (f : ℕ → Bool) (n : ℕ) → any f n ≡ true → (t : ℕ) × ((t < n) × (f t ≡ true))
any_some f zero e = absurd (clash e)
any_some f (suc n) e =
    ⊎_elim (λ h. (n, (omega arith, h))) (λ h. let r = any_some f n h in (r.0, (omega (arith, r.1.0), r.1.1))) (or_cases (f n) (any f n) e)

-- f says of each tick whether P holds there
pub tells_some : (P : ℕ → Type 0) (f : ℕ → Bool) (n : ℕ) (b : Bool) → ((t : ℕ) → f t ≡ true → P t) → ((t : ℕ) → P t → f t ≡ true) → Tells b ((t : ℕ) × ((t < n) × P t)) → b ≡ any f n
tells_some P f n b i o h =
    told_same ((t : ℕ) × ((t < n) × P t)) b (any f n) h
    (tells_from ((t : ℕ) × ((t < n) × P t)) (any f n)
    (λ e. let r = any_some f n e in (r.0, (r.1.0, i r.0 r.1.1)))
    (λ q. any_from f n q.0 q.1.0 (o q.0 q.1.1)))
