-- What is not marked cannot change the verdict.
use Rattle.std.proofs.Common.{◌≡◌, ℕ, zero, suc, ◌+◌, ◌-◌, ◌<◌, ◌≤◌, List, length, sym, refl, ap, ◌∙◌, subst, ap₂, subst₂, inl, inr, arith}
use native.Mathlib.Decide.{ℕ_discrete, dec_lt}
use Rattle.grades.specs.Kinds.{Kind, Lawful}
use Rattle.grades.specs.Ranges.{Span, span, Inside, Proper, Settled}
use Rattle.rules.specs.Rows.{row_at, root, Child, RowFits, Sound}
use Rattle.rules.specs.declared.row.Row.{Row}
use Rattle.rules.specs.declared.row.Row.TheVariants.{Test, Not, And, Or, Eventually, Always, Until}
use Rattle.meaning.specs.declared.reading.Reading.{Reading}
use Rattle.meaning.specs.declared.mark.Mark.{Mark}
use Rattle.meaning.specs.Readings.{Readings, AllWithin, Exact}
use Rattle.meaning.specs.Values.{over, until_at, step, value}
use Rattle.meaning.specs.Verdicts.{ranges, verdict}
use Rattle.meaning.specs.Wants.{Lowest, LeftLasts, Wants, Wanted, asked, passed}
use Rattle.rules.specs.Tested.{Tests}
use Rattle.meaning.specs.Marks.{Marked, Marks, AtMarks}
use Rattle.meaning.proofs.Gaps.{one_gap}
use Rattle.meaning.proofs.Deciding.{first}
use Rattle.meaning.proofs.Rows.{root_below, value_is, by_rows}
use Rattle.meaning.proofs.Related.{Keeps, over_related, until_related}
use Rattle.meaning.proofs.Untils.{lowest?}
use Rattle.meaning.proofs.Kept.{proper, nesting, values_proper, values_nest}

module _ {K : Kind} (L : Lawful K) where
  -- a settled range has one proper range inside
  pub squeezed : (p q : Span K.Value) → Inside K q p → Proper K q → Settled K p → q ≡ p
  squeezed p q inside fit s =
      let down = subst (λ z. K.below z q.low) s inside.low in
      let up = subst (λ z. K.below q.high z) (sym s) inside.high in
      ap₂ span
      (L.below_antisym q.low p.low (L.below_trans q.low q.high p.low fit up) inside.low)
      (L.below_antisym q.high p.high inside.high (L.below_trans p.high q.low q.high down fit))

  lowest_settles : (p : Span K.Value) → Proper K p → K.below p.high K.lowest → Settled K p
  lowest_settles p fit h = L.below_antisym p.low p.high fit (L.below_trans p.high K.lowest p.low h (L.lowest_below p.low))

  over_below : (s : ℕ → Span K.Value) (from n p : ℕ) → from ≤ p → p ≤ from + n → K.below (over (ranges K).meet s from n).high (s p).high
  unfolding over
  over_below s from zero p a b = let e : from ≡ p = omega arith in subst (λ j. K.below (s from).high (s j).high) e (L.below_refl (s from).high)
  over_below s from (suc n) p a b =
      let here = (s from).high in
      let rest = (over (ranges K).meet s (suc from) n).high in
      elim (ℕ_discrete from p) [
        | yes e ↦ subst (λ j. K.below (K.meet here rest) (s j).high) e (L.meet_left here rest)
        | no ne ↦ L.below_trans (K.meet here rest) rest (s p).high (L.meet_right here rest) (over_below s (suc from) n p (omega arith) (omega arith))
      ]

  -- one kept relation, which settled ranges satisfy with themselves, serves for readings that stand and for exact ones
  module _ {rows : List Row} (sound : Sound rows) (x y : Readings) (within : AllWithin y x)
      {Q : Reading → Reading → Type 0} {R : Span K.Value → Span K.Value → Type 0} (keeps : Keeps (ranges K) (ranges K) Q R)
      (calm : (p q : Span K.Value) → Settled K p → q ≡ p → R p q) where
    -- what is known of the children of a row
    record Known (c : ℕ) : Type 0 where
      fit : (u : ℕ) → Proper K (value (ranges K) rows x c u)
      fit' : (u : ℕ) → Proper K (value (ranges K) rows y c u)
      inside : (u : ℕ) → Inside K (value (ranges K) rows y c u) (value (ranges K) rows x c u)

    known : (k : ℕ) → k < length rows → Known k
    known k h = record { fit = values_proper L sound x k h; fit' = values_proper L sound y k h; inside = values_nest L sound x y within k h }

    until_kept : (a b l r t u : ℕ) → t + a ≤ u → u ≤ t + b → Known l → Known r →
        ((c w : ℕ) → Child (Until a b l r) c → Wants K (value (ranges K) rows x) (Until a b l r) t c w → R (value (ranges K) rows x c w) (value (ranges K) rows y c w)) →
        R (until_at (ranges K) (value (ranges K) rows x l) (value (ranges K) rows x r) t u) (until_at (ranges K) (value (ranges K) rows y l) (value (ranges K) rows y r) t u)
    unfolding until_at
    until_kept a b l r t u from to knl knr each =
        let f = first (λ p. lowest? L (v l p)) t (suc u - t) in
        let g = f.1 in
        elim (dec_lt u f.0) [
          | no m ↦ dead (L.below_trans p.high rest.high K.lowest (L.meet_right (v r u).high rest.high)
              (subst (λ z. K.below rest.high z) (g.here (omega arith)) (over_below (v l) t (u - t) f.0 (omega arith) (omega arith))))
          | yes alive ↦ elim (lowest? L (v r u)) [
            | yes e ↦ dead (subst (λ z. K.below p.high z) e (L.meet_left (v r u).high rest.high))
            | no ne ↦ live (record { from = from; to = to; alive = λ o a b. g.none o a (omega arith) }) ne
          ]
        ]
      where
        v : ℕ → ℕ → Span K.Value
        v = value (ranges K) rows x

        w : ℕ → ℕ → Span K.Value
        w = value (ranges K) rows y

        rest : Span K.Value
        rest = over (ranges K).meet (v l) t (u - t)

        p : Span K.Value
        p = until_at (ranges K) (v l) (v r) t u

        q : Span K.Value
        q = until_at (ranges K) (w l) (w r) t u

        dead : K.below p.high K.lowest → R p q
        dead low =
            let o : t ≤ u = omega arith in
            let settled = lowest_settles p (until_related (proper L) (v l) (v r) (v l) (v r) t u o (λ j _ _. knl.fit j) (knr.fit u)) low in
            calm p q settled (squeezed p q
            (until_related (nesting L) (v l) (v r) (w l) (w r) t u o (λ j _ _. knl.inside j) (knr.inside u))
            (until_related (proper L) (w l) (w r) (w l) (w r) t u o (λ j _ _. knl.fit' j) (knr.fit' u)) settled)

        live : LeftLasts K (v l) a b t u → ¬ (Lowest K (v r u)) → R p q
        live open' ne =
            until_related keeps (v l) (v r) (w l) (w r) t u (omega arith)
            (λ j after before. each l j (inl refl) (inr (refl, after, (u, before, open', ne)))) (each r u (inr refl) (inl (refl, open')))

    row_kept : (r : Row) (t : ℕ) → RowFits r → ((c : ℕ) → Child r c → Known c) → ((l : ℕ) → Tests r l → Q (x l t) (y l t)) →
        ((c u : ℕ) → Child r c → Wants K (value (ranges K) rows x) r t c u → R (value (ranges K) rows x c u) (value (ranges K) rows y c u)) →
        R (step (ranges K) x (value (ranges K) rows x) r t) (step (ranges K) y (value (ranges K) rows y) r t)
    unfolding step
    row_kept (Test l s m) t fits kn marked each = keeps.test s m (x l t) (y l t) fits (marked l refl)
    row_kept (Not c) t fits kn marked each = keeps.opposite _ _ (each c t refl (refl, refl))
    row_kept (And a b) t fits kn marked each = keeps.meet _ _ _ _ (each a t (inl refl) (inl refl, refl)) (each b t (inr refl) (inr refl, refl))
    row_kept (Or a b) t fits kn marked each = keeps.join _ _ _ _ (each a t (inl refl) (inl refl, refl)) (each b t (inr refl) (inr refl, refl))
    row_kept (Eventually a b c) t fits kn marked each =
        over_related R (ranges K).join (ranges K).join keeps.join _ _ (t + a) (b - a) (λ u from to. each c u refl (refl, from, omega arith))
    row_kept (Always a b c) t fits kn marked each =
        over_related R (ranges K).meet (ranges K).meet keeps.meet _ _ (t + a) (b - a) (λ u from to. each c u refl (refl, from, omega arith))
    row_kept (Until a b l r) t fits kn marked each =
        over_related R (ranges K).join (ranges K).join keeps.join _ _ (t + a) (b - a)
        (λ u from to. until_kept a b l r t u from (omega arith) (kn l (inl refl)) (kn r (inr refl)) each)

    pub blame : (asked_at : ℕ) → ((k l u : ℕ) → Marked K rows x asked_at k u → Tests (row_at rows k) l → Q (x l u) (y l u)) → (k : ℕ) → k < length rows → (t : ℕ) →
        Wanted K rows (value (ranges K) rows x) asked_at k t → R (value (ranges K) rows x k t) (value (ranges K) rows y k t)
    blame asked_at marks = by_rows sound (λ k. (t : ℕ) → Wanted K rows v asked_at k t → R (v k t) (w k t)) λ k h each t wanted.
        elim (K.same (v k t).low (v k t).high) [
          | yes s ↦ calm (v k t) (w k t) s (squeezed (v k t) (w k t) ((known k h).inside t) ((known k h).fit' t) s)
          | no ne ↦ subst₂ R (sym (value_is (ranges K) x sound k h t)) (sym (value_is (ranges K) y sound k h t))
              (row_kept (row_at rows k) t (sound.fits k h) (λ c p. let e = sound.earlier k c h p in known c (omega arith))
              (λ l is. marks k l t (record { line = l; tests = is; wanted = wanted; unsettled = ne }) is)
              (λ c u p wants. each c p u (passed k t c u wanted ne wants)))
        ]
      where
        v : ℕ → ℕ → Span K.Value
        v = value (ranges K) rows x

        w : ℕ → ℕ → Span K.Value
        w = value (ranges K) rows y

module _ (K : Kind) where
  pub same_kept : Keeps (ranges K) (ranges K) (λ x y. y ≡ x) (λ p q. q ≡ p)
  same_kept = record {
    test = λ s m x y f e. ap ((ranges K).test s m) e;
    opposite = λ p q e. ap (ranges K).opposite e;
    meet = λ p p' q q' e f. ap₂ (ranges K).meet e f;
    join = λ p p' q q' e f. ap₂ (ranges K).join e f;
  }

  pub settled_kept : Keeps (ranges K) (ranges K) (λ x y. Exact y) (λ p q. Settled K q)
  settled_kept = record {
    test = λ s m x y f e. let g = one_gap s m y e in ap K.of_gap (g.0 ∙ sym g.1);
    opposite = λ p q e. ap K.opposite (sym e);
    meet = λ p p' q q' e f. ap₂ K.meet e f;
    join = λ p p' q q' e f. ap₂ K.join e f;
  }

module _ {K : Kind} (L : Lawful K) {rows : List Row} (sound : Sound rows) (x y : Readings) (t : ℕ) (ms : List Mark) (marks : Marks K rows x t ms) (within : AllWithin y x) where
  pub marks_suffice_lem : AtMarks rows ms (λ line u. y line u ≡ x line u) → verdict K rows y t ≡ verdict K rows x t
  marks_suffice_lem stand =
      blame L sound x y within (same_kept K) (λ p q s e. e) t (λ k l u m is. stand k l u (marks.complete k u m) is) (root rows) (root_below sound) t asked

  pub marks_settle_lem : AtMarks rows ms (λ line u. Exact (y line u)) → Settled K (verdict K rows y t)
  marks_settle_lem exact =
      blame L sound x y within (settled_kept K) (λ p q s e. subst (Settled K) (sym e) s) t (λ k l u m is. exact k l u (marks.complete k u m) is) (root rows) (root_below sound) t asked
