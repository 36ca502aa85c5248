-- A row's value is what the row means, and no other value is.
use Rattle.std.proofs.Common.{◌≡◌, ℕ, zero, suc, ◌+◌, ◌-◌, ◌<◌, ◌≤◌, List, length, ℤ, sym, refl, ap, ◌∙◌, subst, ap₂, inl, inr, arith}
use native.Mathlib.Decide.{ℕ_discrete}
use Rattle.grades.specs.Kinds.{Kind, Lawful}
use Rattle.rules.specs.Rows.{row_at, Child, RowFits, Sound}
use Rattle.rules.specs.declared.row.Side.{Side}
use Rattle.rules.specs.declared.row.Row.{Row}
use Rattle.rules.specs.declared.row.Row.TheVariants.{Test, Not, And, Or, Eventually, Always, Until}
use Rattle.meaning.specs.Values.{over, until_at, step, value}
use Rattle.meaning.specs.Meanings.{UpperOf, LowerOf, GoalOf, Means}
use Rattle.meaning.specs.Verdicts.{algebra_of}
use Rattle.meaning.proofs.Rows.{value_is, by_rows}

module _ {K : Kind} (L : Lawful K) where
  over_upper : (s : ℕ → K.Value) (from n : ℕ) → UpperOf K s from (from + n) (over K.join s from n)
  unfolding over
  over_upper s from zero = record {
    bounds = λ u a b. let e : u ≡ from = omega arith in subst (λ j. K.below (s j) (s from)) (sym e) (L.below_refl (s from));
    least = λ y h. h from (omega arith) (omega arith);
  }
  over_upper s from (suc n) = more (over_upper s (suc from) n)
    where
      rest : K.Value
      rest = over K.join s (suc from) n

      more : UpperOf K s (suc from) (suc from + n) rest → UpperOf K s from (from + suc n) (K.join (s from) rest)
      more h = record {
        bounds = λ u a b. elim (ℕ_discrete from u) [
          | yes e ↦ subst (λ j. K.below (s j) (K.join (s from) rest)) e (L.join_left (s from) rest)
          | no ne ↦ L.below_trans (s u) rest (K.join (s from) rest) (h.bounds u (omega arith) (omega arith)) (L.join_right (s from) rest)
        ];
        least = λ y k. L.join_least (s from) rest y (k from (omega arith) (omega arith)) (h.least y (λ u a b. k u (omega arith) (omega arith)));
      }

  over_lower : (s : ℕ → K.Value) (from n : ℕ) → LowerOf K s from (from + n) (over K.meet s from n)
  unfolding over
  over_lower s from zero = record {
    bounds = λ u a b. let e : u ≡ from = omega arith in subst (λ j. K.below (s from) (s j)) (sym e) (L.below_refl (s from));
    most = λ y h. h from (omega arith) (omega arith);
  }
  over_lower s from (suc n) = more (over_lower s (suc from) n)
    where
      rest : K.Value
      rest = over K.meet s (suc from) n

      more : LowerOf K s (suc from) (suc from + n) rest → LowerOf K s from (from + suc n) (K.meet (s from) rest)
      more h = record {
        bounds = λ u a b. elim (ℕ_discrete from u) [
          | yes e ↦ subst (λ j. K.below (K.meet (s from) rest) (s j)) e (L.meet_left (s from) rest)
          | no ne ↦ L.below_trans (K.meet (s from) rest) rest (s u) (L.meet_right (s from) rest) (h.bounds u (omega arith) (omega arith))
        ];
        most = λ y k. L.meet_most (s from) rest y (k from (omega arith) (omega arith)) (h.most y (λ u a b. k u (omega arith) (omega arith)));
      }

  module _ {X : Type 0} (test : Side → ℤ → X → K.Value) where
    goal_of : (left right : ℕ → K.Value) (t u : ℕ) → t ≤ u → GoalOf K left right t u (until_at (algebra_of K test) left right t u)
    unfolding until_at
    goal_of left right t u o =
        let rest = over K.meet left t (u - t) in
        let h = over_lower left t (u - t) in
        let z = K.meet (right u) rest in
        record {
          end = L.meet_left (right u) rest;
          way = λ w a b. L.below_trans z rest (left w) (L.meet_right (right u) rest) (h.bounds w a (omega arith));
          most = λ y r l. L.meet_most (right u) rest y r (h.most y (λ w a b. l w a (omega arith)));
        }

    step_means : (x : ℕ → ℕ → X) (v : ℕ → ℕ → K.Value) (r : Row) → RowFits r → (t : ℕ) → Means K test x v r t (step (algebra_of K test) x v r t)
    unfolding step
    step_means x v (Test l s m) fits t = refl
    step_means x v (Not c) fits t = refl
    step_means x v (And l r) fits t = refl
    step_means x v (Or l r) fits t = refl
    step_means x v (Eventually a b c) fits t =
        let e : (t + a) + (b - a) ≡ t + b = omega arith in
        subst (λ n. UpperOf K (v c) (t + a) n (over K.join (v c) (t + a) (b - a))) e (over_upper (v c) (t + a) (b - a))
    step_means x v (Always a b c) fits t =
        let e : (t + a) + (b - a) ≡ t + b = omega arith in
        subst (λ n. LowerOf K (v c) (t + a) n (over K.meet (v c) (t + a) (b - a))) e (over_lower (v c) (t + a) (b - a))
    step_means x v (Until a b l r) fits t =
        let e : (t + a) + (b - a) ≡ t + b = omega arith in
        let goal = until_at (algebra_of K test) (v l) (v r) t in (
          goal,
          λ u from to. goal_of (v l) (v r) t u (omega arith),
          subst (λ n. UpperOf K goal (t + a) n (over K.join goal (t + a) (b - a))) e (over_upper goal (t + a) (b - a)),
        )

    pub values_mean : {rows : List Row} → Sound rows → (x : ℕ → ℕ → X) (k t : ℕ) → k < length rows →
        Means K test x (value (algebra_of K test) rows x) (row_at rows k) t (value (algebra_of K test) rows x k t)
    values_mean {rows} sound x k t h =
        let v = value (algebra_of K test) rows x in
        subst (Means K test x v (row_at rows k) t) (sym (value_is (algebra_of K test) x sound k h t)) (step_means x v (row_at rows k) (sound.fits k h) t)

  upper_below : (s s' : ℕ → K.Value) (from to : ℕ) (z z' : K.Value) → ((u : ℕ) → from ≤ u → u ≤ to → K.below (s u) (s' u)) → UpperOf K s from to z → UpperOf K s' from to z' → K.below z z'
  upper_below s s' from to z z' e h k = h.least z' (λ u a b. L.below_trans (s u) (s' u) z' (e u a b) (k.bounds u a b))

  lower_below : (s s' : ℕ → K.Value) (from to : ℕ) (z z' : K.Value) → ((u : ℕ) → from ≤ u → u ≤ to → K.below (s u) (s' u)) → LowerOf K s from to z → LowerOf K s' from to z' → K.below z z'
  lower_below s s' from to z z' e h k = k.most z (λ u a b. L.below_trans z (s u) (s' u) (h.bounds u a b) (e u a b))

  goal_below : (l r l' r' : ℕ → K.Value) (t u : ℕ) (z z' : K.Value) → ((w : ℕ) → K.below (l w) (l' w)) → ((w : ℕ) → K.below (r w) (r' w)) → GoalOf K l r t u z → GoalOf K l' r' t u z' → K.below z z'
  goal_below l r l' r' t u z z' e f h k =
      k.most z (L.below_trans z (r u) (r' u) h.end (f u)) (λ w a b. L.below_trans z (l w) (l' w) (h.way w a b) (e w))

  equal_below : (p q : K.Value) → p ≡ q → K.below p q
  equal_below p q e = subst (K.below p) e (L.below_refl p)

  module _ {X : Type 0} (test : Side → ℤ → X → K.Value) (x : ℕ → ℕ → X) (v w : ℕ → ℕ → K.Value) where
    means_below : (r : Row) → ((c : ℕ) → Child r c → (t : ℕ) → v c t ≡ w c t) → (t : ℕ) (z y : K.Value) → Means K test x v r t z → Means K test x w r t y → K.below z y
    means_below (Test l s m) e t z y h k = equal_below z y (h ∙ sym k)
    means_below (Not c) e t z y h k = equal_below z y (h ∙ ap K.opposite (e c refl t) ∙ sym k)
    means_below (And l r) e t z y h k = equal_below z y (h ∙ ap₂ K.meet (e l (inl refl) t) (e r (inr refl) t) ∙ sym k)
    means_below (Or l r) e t z y h k = equal_below z y (h ∙ ap₂ K.join (e l (inl refl) t) (e r (inr refl) t) ∙ sym k)
    means_below (Eventually a b c) e t z y h k = upper_below (v c) (w c) (t + a) (t + b) z y (λ u _ _. equal_below (v c u) (w c u) (e c refl u)) h k
    means_below (Always a b c) e t z y h k = lower_below (v c) (w c) (t + a) (t + b) z y (λ u _ _. equal_below (v c u) (w c u) (e c refl u)) h k
    means_below (Until a b l r) e t z y h k =
        upper_below h.0 k.0 (t + a) (t + b) z y
        (λ u from to. goal_below (v l) (v r) (w l) (w r) t u (h.0 u) (k.0 u) (λ p. equal_below (v l p) (w l p) (e l (inl refl) p)) (λ p. equal_below (v r p) (w r p) (e r (inr refl) p)) (h.1 u from to) (k.1 u from to))
        h.2 k.2

  -- what means the same, row by row, is the same
  pub means_once : {X : Type 0} (test : Side → ℤ → X → K.Value) (x : ℕ → ℕ → X) (v w : ℕ → ℕ → K.Value) {rows : List Row} → Sound rows →
      ((k t : ℕ) → k < length rows → Means K test x v (row_at rows k) t (v k t)) → ((k t : ℕ) → k < length rows → Means K test x w (row_at rows k) t (w k t)) →
      (k : ℕ) → k < length rows → (t : ℕ) → v k t ≡ w k t
  means_once test x v w {rows} sound h j = by_rows sound (λ k. (t : ℕ) → v k t ≡ w k t) λ k b each t.
      L.below_antisym (v k t) (w k t)
      (means_below test x v w (row_at rows k) each t (v k t) (w k t) (h k t b) (j k t b))
      (means_below test x w v (row_at rows k) (λ c p u. sym (each c p u)) t (w k t) (v k t) (j k t b) (h k t b))
