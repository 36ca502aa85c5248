-- A relation that the operations of two algebras keep holds between the values of all rows.
use Rattle.std.proofs.Common.{ℕ, zero, suc, ◌+◌, ◌-◌, ◌<◌, ◌≤◌, List, length, ℤ, sym, refl, subst₂, inl, inr, arith}
use Rattle.rules.specs.Rows.{row_at, Child, NumberFits, RowFits, Sound}
use Rattle.rules.specs.declared.row.Side.{Side}
use Rattle.rules.specs.declared.row.Row.{Row}
use Rattle.rules.specs.declared.row.Row.TheVariants.{Test, Not, And, Or, Eventually, Always, Until}
use Rattle.meaning.specs.Values.{Algebra, over, until_at, step, value}
use Rattle.meaning.proofs.Rows.{value_is, by_rows}

pub record Keeps {X Y C D : Type 0} (A : Algebra X C) (B : Algebra Y D) (Q : X → Y → Type 0) (R : C → D → Type 0) : Type 0 where
  pub test : (s : Side) (m : ℤ) (x : X) (y : Y) → NumberFits m → Q x y → R (A.test s m x) (B.test s m y)
  pub opposite : (p : C) (q : D) → R p q → R (A.opposite p) (B.opposite q)
  pub meet : (p p' : C) (q q' : D) → R p q → R p' q' → R (A.meet p p') (B.meet q q')
  pub join : (p p' : C) (q q' : D) → R p q → R p' q' → R (A.join p p') (B.join q q')

pub over_related : {C D : Type 0} (R : C → D → Type 0) (f : C → C → C) (g : D → D → D) →
    ((p p' : C) (q q' : D) → R p q → R p' q' → R (f p p') (g q q')) →
    (s : ℕ → C) (z : ℕ → D) (from n : ℕ) → ((u : ℕ) → from ≤ u → u ≤ from + n → R (s u) (z u)) → R (over f s from n) (over g z from n)
unfolding over
over_related R f g k s z from zero h = h from (omega arith) (omega arith)
over_related R f g k s z from (suc n) h =
    k (s from) (over f s (suc from) n) (z from) (over g z (suc from) n) (h from (omega arith) (omega arith))
    (over_related R f g k s z (suc from) n (λ u a b. h u (omega arith) (omega arith)))

module _ {X Y C D : Type 0} {A : Algebra X C} {B : Algebra Y D} {Q : X → Y → Type 0} {R : C → D → Type 0} (keeps : Keeps A B Q R) where
  pub until_related : (l r : ℕ → C) (l' r' : ℕ → D) (t u : ℕ) → t ≤ u → ((w : ℕ) → t ≤ w → w ≤ u → R (l w) (l' w)) → R (r u) (r' u) →
      R (until_at A l r t u) (until_at B l' r' t u)
  unfolding until_at
  until_related l r l' r' t u o hl hr =
      keeps.meet (r u) (over A.meet l t (u - t)) (r' u) (over B.meet l' t (u - t)) hr
      (over_related R A.meet B.meet keeps.meet l l' t (u - t) (λ w a b. hl w a (omega arith)))

  pub step_related : (x : ℕ → ℕ → X) (y : ℕ → ℕ → Y) → ((l t : ℕ) → Q (x l t) (y l t)) → (v : ℕ → ℕ → C) (w : ℕ → ℕ → D) (r : Row) → RowFits r →
      ((c : ℕ) → Child r c → (t : ℕ) → R (v c t) (w c t)) → (t : ℕ) → R (step A x v r t) (step B y w r t)
  unfolding step
  step_related x y q v w (Test l s m) fits h t = keeps.test s m (x l t) (y l t) fits (q l t)
  step_related x y q v w (Not c) fits h t = keeps.opposite (v c t) (w c t) (h c refl t)
  step_related x y q v w (And l r) fits h t = keeps.meet (v l t) (v r t) (w l t) (w r t) (h l (inl refl) t) (h r (inr refl) t)
  step_related x y q v w (Or l r) fits h t = keeps.join (v l t) (v r t) (w l t) (w r t) (h l (inl refl) t) (h r (inr refl) t)
  step_related x y q v w (Eventually a b c) fits h t = over_related R A.join B.join keeps.join (v c) (w c) (t + a) (b - a) (λ u _ _. h c refl u)
  step_related x y q v w (Always a b c) fits h t = over_related R A.meet B.meet keeps.meet (v c) (w c) (t + a) (b - a) (λ u _ _. h c refl u)
  step_related x y q v w (Until a b l r) fits h t =
      over_related R A.join B.join keeps.join (until_at A (v l) (v r) t) (until_at B (w l) (w r) t) (t + a) (b - a)
      (λ u from to. until_related (v l) (v r) (w l) (w r) t u (omega arith) (λ o _ _. h l (inl refl) o) (h r (inr refl) u))

  pub related : {rows : List Row} → Sound rows → (x : ℕ → ℕ → X) (y : ℕ → ℕ → Y) → ((l t : ℕ) → Q (x l t) (y l t)) →
      (k : ℕ) → k < length rows → (t : ℕ) → R (value A rows x k t) (value B rows y k t)
  related {rows} sound x y q = by_rows sound (λ k. (t : ℕ) → R (value A rows x k t) (value B rows y k t)) λ k h each t.
      subst₂ R (sym (value_is A x sound k h t)) (sym (value_is B y sound k h t))
      (step_related x y q (value A rows x) (value B rows y) (row_at rows k) (sound.fits k h) each t)
