-- A reading with and without `-`.
use Rattle.std.proofs.Common.{◌≡◌, ℕ, List, ◌∷◌, ℤ, Some, None, Option, sym, ap, ◌∙◌, subst, arith}
use mathlib.Core.List.{head-eq_of_cons-eq, tail-eq_of_cons-eq}
use Rattle.std.specs.List.{AllByRecursion}
use Rattle.tokens.specs.Words.{Digit}
use Rattle.case_text.specs.Words.{PlainNumber, MinusNumber, WritesReading, plain, minus}
use Rattle.case_text.specs.Parts.{ValueRead}

no_minus : (w ds : List ℕ) (z : ℤ) → w ≡ 45 ∷ ds → ((y : ℤ) → MinusNumber ds y → ⊥) → WritesReading w z → ⊥
no_minus w ds z e none (plain p) = let d : AllByRecursion Digit (45 ∷ ds) = subst (AllByRecursion Digit) e p.digits.all in omega (arith, d.0.0)
no_minus w ds z e none (minus {ds = other} f m) = none z (subst (λ (v : List ℕ). MinusNumber v z) (tail-eq_of_cons-eq (sym f ∙ e)) m)

pub minus_reads : (w : List ℕ) (b : ℕ) (ds : List ℕ) (r : Option ℤ) → w ≡ b ∷ ds → b ≡ 45 → ValueRead (MinusNumber ds) r → ValueRead (WritesReading w) r
minus_reads w b ds None e f none = λ z. no_minus w ds z (e ∙ ap (λ (x : ℕ). x ∷ ds) f) none
minus_reads w b ds (Some z) e f m = minus (e ∙ ap (λ (x : ℕ). x ∷ ds) f) m

no_plain : (w : List ℕ) (b : ℕ) (ds : List ℕ) (z : ℤ) → w ≡ b ∷ ds → (b ≡ 45 → ⊥) → ((y : ℤ) → PlainNumber w y → ⊥) → WritesReading w z → ⊥
no_plain w b ds z e other none (plain p) = none z p
no_plain w b ds z e other none (minus f m) = other (head-eq_of_cons-eq (sym e ∙ f))
