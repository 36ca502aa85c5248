-- Where a child is wanted, as yes or no, is where the meaning wants it.
use Rattle.std.proofs.Common.{◌≡◌, ℕ, ◌+◌, ◌<◌, ◌≤◌, Bool, true, false, cond, List, length, sym, refl, ◌∙◌, subst, inl, inr, ⊎_elim, arith}
use borrow.Author.Tests.{both_ways}
use Rattle.std.proofs.lemmas.Bool.{eq-eqb, ne_eqb, cases_Bool}
use Rattle.grades.specs.Kinds.{Kind, Tells}
use Rattle.grades.specs.Ranges.{Span, Settled}
use Rattle.rules.specs.Rows.{row_at, Child, TwinsApart, Sound}
use Rattle.rules.specs.declared.row.Row.{Row}
use Rattle.rules.specs.declared.row.Row.TheVariants.{Test, Not, And, Or, Eventually, Always, Until}
use Rattle.meaning.specs.Wants.{Lowest, LeftLasts, Wants, Wanted}
use Rattle.meaning.proofs.Wanting.{child_wanted}
use Rattle.judge.specs.Yes.{any}
use Rattle.judge.specs.Reaches.{Sees, sees, held_over}
use Rattle.judge.specs.Children.{never, child_says}
use Rattle.judge.proofs.Anys.{tells_yes, tells_no, tells_from, any_from, any_some}
use Rattle.judge.proofs.Sights.{sees_is, is_sees, holds_is, is_holds}

-- dead says where left can only be lowest
module _ (K : Kind) (left : ℕ → Span K.Value) (asks dead : ℕ → Bool) (a b : ℕ) (low : (t : ℕ) → Tells (dead t) (Lowest K (left t))) where
  opened : (t w : ℕ) → Sees asks dead a b t w → LeftLasts K left a b t w
  opened t w s = record { from = s.from; to = s.to; alive = λ p x y e. both_ways (dead p) (s.alive p x y) (tells_no (Lowest K (left p)) (dead p) (low p) e) }

  seen : (t w : ℕ) → asks t ≡ true → LeftLasts K left a b t w → Sees asks dead a b t w
  seen t w e o = record {
    wants = e;
    from = o.from;
    to = o.to;
    alive = λ p x y. ⊎_elim (λ (d : dead p ≡ true). absurd (o.alive p x y (tells_yes (Lowest K (left p)) (dead p) (low p) d))) (λ (d : dead p ≡ false). d) (cases_Bool (dead p));
  }

module _ (K : Kind) (rows : List Row) (sound : Sound rows) (v : ℕ → ℕ → Span K.Value) (asked_at k c limit : ℕ) (asks : ℕ → Bool) (below : k < length rows)
    (told : (t : ℕ) → Tells (asks t) (Wanted K rows v asked_at k t × ¬ (Settled K (v k t)))) (near : (t : ℕ) → asks t ≡ true → t < limit) where
  -- f says it of the child, if it says so from each tick of the row
  from_each : (row : Row) (f : ℕ → ℕ → Bool) → row_at rows k ≡ row → Child row c →
      ((t u : ℕ) → f t u ≡ true → (asks t ≡ true) × Wants K v row t c u) → ((t u : ℕ) → asks t ≡ true → Wants K v row t c u → f t u ≡ true) →
      (u : ℕ) → Tells (any (λ t. f t u) limit) (Wanted K rows v asked_at c u)
  from_each row f is child there back u =
      let iff = child_wanted K sound v asked_at k c u below (subst (λ r. Child r c) (sym is) child) in
      tells_from (Wanted K rows v asked_at c u) (any (λ t. f t u) limit)
      (λ e.
      let r = any_some (λ t. f t u) limit e in
      let t = r.0 in
      let h = there t u r.1.1 in
      let w = tells_yes (Wanted K rows v asked_at k t × ¬ (Settled K (v k t))) (asks t) (told t) h.0 in
      iff.1 (t, w.0, w.1, subst (λ r. Wants K v r t c u) (sym is) h.1))
      (λ w.
      let h = iff.0 w in
      let t = h.0 in
      let e = tells_no (Wanted K rows v asked_at k t × ¬ (Settled K (v k t))) (asks t) (told t) (h.1, h.2) in
      any_from (λ t. f t u) limit t (near t e) (back t u e (subst (λ r. Wants K v r t c u) is h.3)))

  -- a row that wants its child in a whole window
  windowed : (row : Row) (a b : ℕ) → row_at rows k ≡ row → Child row c →
      ((t u : ℕ) → t + a ≤ u → u ≤ t + b → Wants K v row t c u) → ((t u : ℕ) → Wants K v row t c u → (t + a ≤ u) × (u ≤ t + b)) →
      (u : ℕ) → Tells (any (λ t. sees asks never a b t u) limit) (Wanted K rows v asked_at c u)
  windowed row a b is child there back =
      from_each row (sees asks never a b) is child
      (λ t u e. let s = sees_is asks never a b t u e in (s.wants, there t u s.from s.to))
      (λ t u e w. let h = back t u w in is_sees asks never a b t u (record { wants = e; from = h.0; to = h.1; alive = λ p x y. refl }))

  module _ (low high : ℕ → ℕ → Bool) where
    right_tells : (a b l r : ℕ) → row_at rows k ≡ Until a b l r → (l ≡ r → ⊥) → c ≡ r → ((t : ℕ) → Tells (low l t) (Lowest K (v l t))) →
        (u : ℕ) → Tells (any (λ t. sees asks (low l) a b t u) limit) (Wanted K rows v asked_at c u)
    right_tells a b l r is apart cr lows =
        from_each (Until a b l r) (sees asks (low l) a b) is (inr cr)
        (λ t u e. let s = sees_is asks (low l) a b t u e in (s.wants, inl (cr, opened K (v l) asks (low l) a b lows t u s)))
        (λ t u e w. ⊎_elim (λ h. is_sees asks (low l) a b t u (seen K (v l) asks (low l) a b lows t u e h.1)) (λ h. absurd (apart (sym h.0 ∙ cr))) w)

    left_tells : (a b l r : ℕ) → row_at rows k ≡ Until a b l r → (l ≡ r → ⊥) → c ≡ l → ((t : ℕ) → Tells (low l t) (Lowest K (v l t))) → ((t : ℕ) → Tells (high r t) (¬ (Lowest K (v r t)))) →
        (u : ℕ) → Tells (any (λ t. held_over asks (low l) (high r) a b t u) limit) (Wanted K rows v asked_at c u)
    left_tells a b l r is apart cl lows highs =
        from_each (Until a b l r) (held_over asks (low l) (high r) a b) is (inl cl)
        (λ t u e.
        let h = holds_is asks (low l) (high r) a b t u e in
        let w = h.at in
        (h.seen.wants, inr (cl, h.from, (w, h.after, opened K (v l) asks (low l) a b lows t w h.seen, tells_yes (¬ (Lowest K (v r w))) (high r w) (highs w) h.needs))))
        (λ t u e w.
        ⊎_elim (λ h. absurd (apart (sym cl ∙ h.0)))
        (λ h.
        let x = h.2 in
        let p = x.0 in
        is_holds asks (low l) (high r) a b t u (record { from = h.1; at = p; after = x.1; needs = tells_no (¬ (Lowest K (v r p))) (high r p) (highs p) x.3; seen = seen K (v l) asks (low l) a b lows t p e x.2 }))
        w)

    by_row : (row : Row) → row_at rows k ≡ row → Child row c → TwinsApart row →
        ((j t : ℕ) → Child row j → Tells (low j t) (Lowest K (v j t))) → ((j t : ℕ) → Child row j → Tells (high j t) (¬ (Lowest K (v j t)))) →
        (u : ℕ) → Tells (child_says row c asks low high limit u) (Wanted K rows v asked_at c u)
    by_row (Test l s m) is child apart lows highs u = absurd child
    by_row (Not d) is child apart lows highs u =
        windowed (Not d) 0 0 is child (λ t u x y. (child, omega arith)) (λ t u w. (omega (arith, w.1), omega (arith, w.1))) u
    by_row (And l r) is child apart lows highs u =
        windowed (And l r) 0 0 is child (λ t u x y. (child, omega arith)) (λ t u w. (omega (arith, w.1), omega (arith, w.1))) u
    by_row (Or l r) is child apart lows highs u =
        windowed (Or l r) 0 0 is child (λ t u x y. (child, omega arith)) (λ t u w. (omega (arith, w.1), omega (arith, w.1))) u
    by_row (Eventually a b d) is child apart lows highs u = windowed (Eventually a b d) a b is child (λ t u x y. (child, x, y)) (λ t u w. (w.1, w.2)) u
    by_row (Always a b d) is child apart lows highs u = windowed (Always a b d) a b is child (λ t u x y. (child, x, y)) (λ t u w. (w.1, w.2)) u
    by_row (Until a b l r) is (inl cl) apart lows highs u =
        subst (λ z. Tells (cond z (any (λ t. sees asks (low l) a b t u) limit) (any (λ t. held_over asks (low l) (high r) a b t u) limit)) (Wanted K rows v asked_at c u))
        (sym (ne_eqb c r (λ cr. apart (sym cl ∙ cr))))
        (left_tells a b l r is apart cl (λ t. lows l t (inl refl)) (λ t. highs r t (inr refl)) u)
    by_row (Until a b l r) is (inr cr) apart lows highs u =
        subst (λ z. Tells (cond z (any (λ t. sees asks (low l) a b t u) limit) (any (λ t. held_over asks (low l) (high r) a b t u) limit)) (Wanted K rows v asked_at c u))
        (sym (eq-eqb c r cr))
        (right_tells a b l r is apart cr (λ t. lows l t (inl refl)) u)

-- the child's yes or no, where the row's own and its children's trials are right
pub child_tells : (K : Kind) (rows : List Row) → Sound rows → (v : ℕ → ℕ → Span K.Value) (asked_at k c limit : ℕ) (asks : ℕ → Bool) (low high : ℕ → ℕ → Bool) →
    k < length rows → Child (row_at rows k) c → ((t : ℕ) → Tells (asks t) (Wanted K rows v asked_at k t × ¬ (Settled K (v k t)))) → ((t : ℕ) → asks t ≡ true → t < limit) →
    ((j t : ℕ) → Child (row_at rows k) j → Tells (low j t) (Lowest K (v j t))) → ((j t : ℕ) → Child (row_at rows k) j → Tells (high j t) (¬ (Lowest K (v j t)))) →
    (u : ℕ) → Tells (child_says (row_at rows k) c asks low high limit u) (Wanted K rows v asked_at c u)
child_tells K rows sound v asked_at k c limit asks low high below child told near lows highs u =
    by_row K rows sound v asked_at k c limit asks below told near low high (row_at rows k) refl child (sound.apart k below) lows highs u
