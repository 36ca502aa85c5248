-- Rows' values change no more from some tick on, if the readings do not.
use Rattle.std.proofs.Common.{◌≡◌, ℕ, zero, suc, ◌+◌, ◌-◌, ◌<◌, ◌≤◌, List, length, sym, refl, ap, ◌∙◌, ap₂, inl, inr, arith}
use Rattle.grades.specs.Kinds.{Kind}
use Rattle.grades.specs.Ranges.{Span, spans}
use Rattle.rules.specs.declared.row.Row.{Row}
use Rattle.rules.specs.declared.row.Row.TheVariants.{Test, Not, And, Or, Eventually, Always, Until}
use Rattle.rules.specs.Rows.{row_at, Child, Sound}
use Rattle.pieces.specs.Ticks.{Settles}
use Rattle.meaning.specs.Readings.{Readings}
use Rattle.meaning.specs.Limits.{range_of}
use Rattle.meaning.specs.Values.{over, until_at, step, value}
use Rattle.meaning.specs.Verdicts.{ranges}
use Rattle.meaning.proofs.Rows.{by_rows, value_is}

module _ {C : Type 0} where
  over_moved : (op : C → C → C) (g h : ℕ → C) (s r n : ℕ) → ((i : ℕ) → g (s + i) ≡ h (r + i)) → over op g s n ≡ over op h r n
  unfolding over
  over_moved op g h s r zero e =
      let a : s ≡ s + 0 = omega arith in
      let b : r + 0 ≡ r = omega arith in
      ap g a ∙ e 0 ∙ ap h b
  over_moved op g h s r (suc n) e =
      let a : s ≡ s + 0 = omega arith in
      let b : r + 0 ≡ r = omega arith in
      ap₂ op (ap g a ∙ e 0 ∙ ap h b) (over_moved op g h (suc s) (suc r) n (λ i.
      let c : suc s + i ≡ s + suc i = omega arith in
      let d : r + suc i ≡ suc r + i = omega arith in
      ap g c ∙ e (suc i) ∙ ap h d))

  flat : (f : ℕ → C) (s : Settles f) (t u : ℕ) → s.0 ≤ t → s.0 ≤ u → f t ≡ f u
  flat f s t u a b = s.1 t a ∙ sym (s.1 u b)

  both_settle : (op : C → C → C) (f g : ℕ → C) → Settles f → Settles g → Settles (λ t. op (f t) (g t))
  both_settle op f g s r = (s.0 + r.0, λ t h. ap₂ op (flat f s t (s.0 + r.0) (omega arith) (omega arith)) (flat g r t (s.0 + r.0) (omega arith) (omega arith)))

  window_settles : (op : C → C → C) (f : ℕ → C) (a n : ℕ) → Settles f → Settles (λ t. over op f (t + a) n)
  window_settles op f a n s = (s.0, λ t h. over_moved op f f (t + a) (s.0 + a) n (λ i. flat f s (t + a + i) (s.0 + a + i) (omega arith) (omega arith)))

module _ (K : Kind) (x : Readings) (lines : (l : ℕ) → Settles (x l)) where
  until_settles : (l r : ℕ → Span K.Value) (a n : ℕ) → Settles l → Settles r → Settles (λ t. over (spans K).join (until_at (ranges K) l r t) (t + a) n)
  unfolding until_at
  until_settles l r a n sl sr =
      let e = sl.0 + sr.0 in (
        e,
        λ t h. over_moved (spans K).join (until_at (ranges K) l r t) (until_at (ranges K) l r e) (t + a) (e + a) n (λ i.
            let w : (t + a + i) - t ≡ (e + a + i) - e = omega arith in
            ap₂ (spans K).meet (flat r sr (t + a + i) (e + a + i) (omega arith) (omega arith)) (ap (λ m. over (spans K).meet l t m) w ∙ over_moved (spans K).meet l l t e ((e + a + i) - e) (λ j. flat l sl (t + j) (e + j) (omega arith) (omega arith)))),
      )

  step_settles : (v : ℕ → ℕ → Span K.Value) (r : Row) → ((c : ℕ) → Child r c → Settles (v c)) → Settles (step (ranges K) x v r)
  unfolding step
  step_settles v (Test l s m) h = ((lines l).0, λ t a. ap (range_of K s m) ((lines l).1 t a))
  step_settles v (Not c) h = ((h c refl).0, λ t a. ap (spans K).opposite ((h c refl).1 t a))
  step_settles v (And l r) h = both_settle (spans K).meet (v l) (v r) (h l (inl refl)) (h r (inr refl))
  step_settles v (Or l r) h = both_settle (spans K).join (v l) (v r) (h l (inl refl)) (h r (inr refl))
  step_settles v (Eventually a b c) h = window_settles (spans K).join (v c) a (b - a) (h c refl)
  step_settles v (Always a b c) h = window_settles (spans K).meet (v c) a (b - a) (h c refl)
  step_settles v (Until a b l r) h = until_settles (v l) (v r) a (b - a) (h l (inl refl)) (h r (inr refl))

  pub rows_settle : (rows : List Row) → Sound rows → (k : ℕ) → k < length rows → Settles (value (ranges K) rows x k)
  rows_settle rows sound =
      by_rows sound (λ k. Settles (value (ranges K) rows x k)) (λ k h below.
      let s = step_settles (value (ranges K) rows x) (row_at rows k) below in
      (s.0, λ t a. value_is (ranges K) x {rows = rows} sound k h t ∙ s.1 t a ∙ sym (value_is (ranges K) x {rows = rows} sound k h s.0)))
