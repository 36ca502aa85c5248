-- The join over a window of ticks, piece by piece. A caller says by Gathers what its own windowed join is.
use Rattle.std.proofs.Common.{◌≡◌, ℕ, zero, suc, ◌+◌, ◌-◌, ◌<◌, ◌≤◌, Some, Option, sym, ap, ◌∙◌, subst, ⊎_elim, arith}
use Rattle.std.proofs.lemmas.Bool.{cases_lt, cases_eq}
use Rattle.pieces.specs.Ticks.{Before, Later, Steady}
use Rattle.pieces.proofs.Steadies.{later_trans, before_self, before_most}

-- join is the least that is above both
pub record Joins {C : Type 0} (below : C → C → Type 0) (join : C → C → C) : Type 0 where
  pub reflexive : (x : C) → below x x
  pub antisymmetric : (x y : C) → below x y → below y x → x ≡ y
  pub chained : (x y z : C) → below x y → below y z → below x z
  pub over_left : (x y : C) → below x (join x y)
  pub over_right : (x y : C) → below y (join x y)
  pub least : (x y z : C) → below x z → below y z → below (join x y) z

-- x is above g from the tick s up to o
abbrev pub Above : {C : Type 0} → (C → C → Type 0) → (ℕ → C) → ℕ → Option ℕ → C → Type 0
Above below g s o x = (k : ℕ) → s ≤ k → Before o k → below (g k) x

-- x is below all that is above g from s through e
abbrev pub Least : {C : Type 0} → (C → C → Type 0) → (ℕ → C) → ℕ → ℕ → C → Type 0
Least {C} below g s e x = (y : C) → ((k : ℕ) → s ≤ k → k ≤ e → below (g k) y) → below x y

-- over s n joins g at s, s + 1, .. s + n
pub record Gathers {C : Type 0} (join : C → C → C) (g : ℕ → C) (over : ℕ → ℕ → C) : Type 0 where
  pub one : (s : ℕ) → over s 0 ≡ g s
  pub many : (s n : ℕ) → over s (suc n) ≡ join (g s) (over (suc s) n)

module _ {C : Type 0} {below : C → C → Type 0} {join : C → C → C} (L : Joins below join) (g : ℕ → C) where
  below_same : (x y : C) → x ≡ y → below x y
  below_same x y e = subst (below x) e (L.reflexive x)

  -- the first piece of the window
  pub begun : (s e : ℕ) (v : C) (o : Option ℕ) → s ≤ e → Steady g s v o → Above below g s o v × Least below g s e v
  begun s e v o h st = (
    λ k a b. below_same (g k) v (sym (st.1 k a b)),
    λ y all. L.chained v (g s) y (below_same v (g s) (st.1 s (omega arith) (before_self s o st.0))) (all s (omega arith) h),
  )

  -- one piece more
  pub more : (s e u : ℕ) (x v : C) (o : Option ℕ) → s < u → u ≤ e → Above below g s (Some u) x → Least below g s e x → Steady g u v o → Above below g s o (join x v) × Least below g s e (join x v) × Later s o
  more s e u x v o su ue ab le st =
      let b = begun u e v o ue st in (
        λ k a c. ⊎_elim (λ h. L.chained (g k) x (join x v) (ab k a h) (L.over_left x v)) (λ h. L.chained (g k) v (join x v) (b.0 k h c) (L.over_right x v)) (cases_lt k u),
        λ y all. L.least x v y (le y all) (b.1 y (λ k h i. all k (omega arith) i)),
        later_trans s u o (omega arith) st.0,
      )

  module _ (over : ℕ → ℕ → C) (G : Gathers join g over) where
    pub over_above : (s n k : ℕ) → s ≤ k → k ≤ s + n → below (g k) (over s n)
    over_above s zero k a b =
        let e : k ≡ s = omega arith in
        below_same (g k) (over s zero) (ap g e ∙ sym (G.one s))
    over_above s (suc n) k a b =
        subst (below (g k)) (sym (G.many s n))
        (⊎_elim
        (λ e. L.chained (g k) (g s) (join (g s) (over (suc s) n)) (below_same (g k) (g s) (ap g e)) (L.over_left (g s) (over (suc s) n)))
        (λ ne. L.chained (g k) (over (suc s) n) (join (g s) (over (suc s) n)) (over_above (suc s) n k (omega arith) (omega arith)) (L.over_right (g s) (over (suc s) n)))
        (cases_eq k s))

    pub over_least : (s n : ℕ) (y : C) → ((k : ℕ) → s ≤ k → k ≤ s + n → below (g k) y) → below (over s n) y
    over_least s zero y all = subst (λ x. below x y) (sym (G.one s)) (all s (omega arith) (omega arith))
    over_least s (suc n) y all =
        subst (λ x. below x y) (sym (G.many s n))
        (L.least (g s) (over (suc s) n) y (all s (omega arith) (omega arith)) (over_least (suc s) n y (λ k a b. all k (omega arith) (omega arith))))

    -- what is above all, and below all that is, is the window's join
    pub over_is : (s e : ℕ) (x : C) → s ≤ e → ((k : ℕ) → s ≤ k → k ≤ e → below (g k) x) → Least below g s e x → x ≡ over s (e - s)
    over_is s e x h up lo =
        L.antisymmetric x (over s (e - s))
        (lo (over s (e - s)) (λ k a b. over_above s (e - s) k a (omega arith)))
        (over_least s (e - s) x (λ k a b. up k a (omega arith)))

    pub over_in : (s e k : ℕ) → s ≤ k → k ≤ e → below (g k) (over s (e - s))
    over_in s e k a b = over_above s (e - s) k a (omega arith)

    pub over_most : (s e : ℕ) → s ≤ e → Least below g s e (over s (e - s))
    over_most s e h y all = over_least s (e - s) y (λ k a b. all k a (omega arith))

    -- the window from u + a is worth what the window from t + a is, as long as nothing leaves it or comes into it
    pub over_steady : (t u a b : ℕ) (x : C) (leaves next : Option ℕ) → a ≤ b → t ≤ u → x ≡ over (t + a) (b - a) →
        Steady g (t + a) (g (t + a)) leaves → Steady g (t + b) (g (t + b)) next → Before leaves (u + a) → Before next (u + b) → x ≡ over (u + a) (b - a)
    over_steady t u a b x leaves next ab tu is sl sn l n =
        is ∙ L.antisymmetric (over (t + a) (b - a)) (over (u + a) (b - a))
        (over_least (t + a) (b - a) (over (u + a) (b - a)) (λ k h i.
        ⊎_elim
        (λ j.
        let e : g k ≡ g (u + a) = sym (sl.1 k h (before_most k (u + a) leaves (omega arith) l)) ∙ sl.1 (u + a) (omega arith) l in
        L.chained (g k) (g (u + a)) (over (u + a) (b - a)) (below_same (g k) (g (u + a)) e) (over_above (u + a) (b - a) (u + a) (omega arith) (omega arith)))
        (λ j. over_above (u + a) (b - a) k j (omega arith))
        (cases_lt k (u + a))))
        (over_least (u + a) (b - a) (over (t + a) (b - a)) (λ k h i.
        ⊎_elim
        (λ j.
        let e : g k ≡ g (t + b) = sym (sn.1 k (omega arith) (before_most k (u + b) next (omega arith) n)) in
        L.chained (g k) (g (t + b)) (over (t + a) (b - a)) (below_same (g k) (g (t + b)) e) (over_above (t + a) (b - a) (t + b) (omega arith) (omega arith)))
        (λ j. over_above (t + a) (b - a) k (omega arith) (omega arith))
        (cases_lt (t + b) k)))
