-- What an until wants, by the first tick at which left is lowest and the last at which right is not.
use Rattle.std.proofs.Common.{◌≡◌, ℕ, suc, ◌+◌, ◌-◌, ◌<◌, ◌≤◌, ◌⊎◌, ◌↔◌, sym, refl, inl, inr, arith}
use native.Mathlib.Decide.{dec_le, dec_lt}
use Rattle.grades.specs.Kinds.{Kind, Lawful}
use Rattle.grades.specs.Ranges.{Span}
use Rattle.rules.specs.declared.row.Row.TheVariants.{Until}
use Rattle.meaning.specs.Wants.{Lowest, LeftLasts, Wants}
use Rattle.meaning.specs.Untils.{FirstLowest, LastNeeded, NoneNeeded}
use Rattle.meaning.proofs.Deciding.{not?, first, last}

module _ (K : Kind) where
  pub open_until : (left : ℕ → Span K.Value) (a b t s : ℕ) → FirstLowest K left b t s → (w : ℕ) → LeftLasts K left a b t w ↔ ((t + a ≤ w) × (w < s))
  open_until left a b t s f w = (there, back)
    where
      there : LeftLasts K left a b t w → (t + a ≤ w) × (w < s)
      there o = (o.from, elim (dec_lt w s) [ yes l ↦ l | no n ↦ let e = o.to in absurd (o.alive s f.from (omega arith) (f.here (omega arith))) ])

      back : (t + a ≤ w) × (w < s) → LeftLasts K left a b t w
      back h = record { from = h.0; to = omega arith; alive = λ p x y. f.before p x (omega arith) }

  module _ (v : ℕ → ℕ → Span K.Value) (a b l r t s : ℕ) (apart : ¬ (l ≡ r)) (f : FirstLowest K (v l) b t s) where
    iff : (w : ℕ) → LeftLasts K (v l) a b t w ↔ ((t + a ≤ w) × (w < s))
    iff = open_until (v l) a b t s f

    pub right_wants : (u : ℕ) → Wants K v (Until a b l r) t r u ↔ ((t + a ≤ u) × (u < s))
    unfolding iff
    right_wants u = (elim [ inl h ↦ (iff u).0 h.1 | inr h ↦ absurd (apart (sym h.0)) ], λ h. inl (refl, (iff u).1 h))

    pub left_wants : (w : ℕ) → LastNeeded K (v r) a t s w → (u : ℕ) → Wants K v (Until a b l r) t l u ↔ ((t ≤ u) × (u ≤ w))
    unfolding iff
    left_wants w g u = (elim [ inl h ↦ absurd (apart h.0) | inr h ↦ (h.1, there h.2) ], λ h. inr (refl, h.0, (w, h.1, (iff w).1 (g.from, g.to), g.needed)))
      where
        there : (z : ℕ) × (u ≤ z) × LeftLasts K (v l) a b t z × ¬ (Lowest K (v r z)) → u ≤ w
        there h = elim (dec_le h.0 w) [
          | yes le ↦ let o = h.1 in omega arith
          | no n ↦ absurd (h.3 (g.behind h.0 (omega arith) ((iff h.0).0 h.2).1))
        ]

    pub left_none : NoneNeeded K (v r) a t s → (u : ℕ) → ¬ (Wants K v (Until a b l r) t l u)
    unfolding iff
    left_none none u = elim [ inl h ↦ apart h.0 | inr h ↦ let z = h.2 in let i = (iff z.0).0 z.2 in z.3 (none z.0 i.0 i.1) ]

module _ {K : Kind} (L : Lawful K) where
  pub lowest? : (p : Span K.Value) → Dec (Lowest K p)
  lowest? p = K.same p.high K.lowest

  pub has_first : (left : ℕ → Span K.Value) (b t : ℕ) → (s : ℕ) × FirstLowest K left b t s
  has_first left b t =
      let h = first (λ p. lowest? (left p)) t (suc b) in
      let f = h.1 in
      (h.0, record { from = f.from; to = omega arith; before = f.none; here = λ l. f.here (omega arith) })

  pub has_last : (right : ℕ → Span K.Value) (a t s : ℕ) → ((w : ℕ) × LastNeeded K right a t s w) ⊎ NoneNeeded K right a t s
  has_last right a t s = elim (last (λ p. not? (lowest? (right p))) (t + a) (s - (t + a))) [
    | inl h ↦ let f = h.1 in inl (h.0, record { from = f.from; to = omega arith; needed = f.here; behind = λ p x y. sure p (f.none p x (omega arith)) })
    | inr none ↦ inr (λ p x y. sure p (none p x (omega arith)))
  ]
    where
      sure : (p : ℕ) → ¬ (¬ (Lowest K (right p))) → Lowest K (right p)
      sure p n = elim (lowest? (right p)) [ yes e ↦ e | no m ↦ absurd (n m) ]
