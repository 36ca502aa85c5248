-- Ordered lists: the test step by step, and what an index found by a search says.
use Rattle.std.proofs.Common.{◌≡◌, ℕ, zero, suc, ◌+◌, ◌-◌, ◌<◌, ◌≤◌, Bool, true, false, cond, eqb, ltb, leb, List, [], ◌∷◌, length, get_or, Some, None, Option, sym, refl, ap, ◌∙◌, subst, arith, ltb-true, eqb-true, le-leb, leb-true}
use borrow.Author.Tests.{lt-leb, clash}
use Rattle.std.proofs.lemmas.Bool.{leb-false}
use Rattle.std.specs.List.Sorted.{IsNonDecreasingBy, IsPartitionPoint}
use Rattle.pieces.specs.declared.piece.Piece.{Piece}
use Rattle.pieces.specs.Pieces.{at_from, next_from, ordered, ascending, Found, HoldsTick}

pub cond-true : (b x : Bool) → cond b x false ≡ true → (b ≡ true) × (x ≡ true)
cond-true true x e = (refl, e)
cond-true false x e = absurd (clash e)

module _ {V : Type 0} where
  pub first : (xs : List (Piece V)) → ordered xs ≡ true → (0 < length xs) × ((d : Piece V) → (get_or xs 0 d).start ≡ 0)
  first [] e = absurd (clash e)
  first (x ∷ xs) e = (omega arith, λ d. eqb-true x.start 0 (cond-true (eqb x.start 0) (ascending 0 xs) e).0)

  pub ascend : (p : Piece V) (ps : List (Piece V)) (j : ℕ) (d : Piece V) → ascending p.start ps ≡ true → j < length (p ∷ ps) → p.start ≤ (get_or (p ∷ ps) j d).start
  ascend p ps zero d a h = omega arith
  ascend p [] (suc j) d a h = absurd (omega arith)
  ascend p (q ∷ qs) (suc j) d a h =
      let both = cond-true (ltb p.start q.start) (ascending q.start qs) a in
      let less = ltb-true p.start q.start both.0 in
      let more : q.start ≤ (get_or (q ∷ qs) j d).start = ascend q qs j d both.1 (omega arith) in
      omega arith

  rises_from : (p : Piece V) (ps : List (Piece V)) → ascending p.start ps ≡ true → IsNonDecreasingBy (λ (q : Piece V). q.start) (p ∷ ps)
  rises_from p ps a zero j d le lt = ascend p ps j d a lt
  rises_from p [] a (suc i) j d le lt = absurd (omega arith)
  rises_from p (q ∷ qs) a (suc i) zero d le lt = absurd (omega arith)
  rises_from p (q ∷ qs) a (suc i) (suc j) d le lt = rises_from q qs (cond-true (ltb p.start q.start) (ascending q.start qs) a).1 i j d (omega arith) (omega arith)

  -- what a search by halving asks
  pub rises : (xs : List (Piece V)) → ordered xs ≡ true → IsNonDecreasingBy (λ (q : Piece V). q.start) xs
  rises [] e = absurd (clash e)
  rises (p ∷ ps) e =
      let both = cond-true (eqb p.start 0) (ascending 0 ps) e in
      rises_from p ps (subst (λ s. ascending s ps ≡ true) (sym (eqb-true p.start 0 both.0)) both.1)

  -- o is the start of the piece at k, and none behind the last piece
  abbrev pub StartIs : List (Piece V) → ℕ → Piece V → Option ℕ → Type 0
  StartIs xs k d o = (k < length xs → o ≡ Some (get_or xs k d).start) × (length xs ≤ k → o ≡ None)

  found_at : (p : Piece V) (ps : List (Piece V)) (i t : ℕ) (d : Piece V) (o : Option ℕ) → ascending p.start ps ≡ true → i < length (p ∷ ps) → (get_or (p ∷ ps) i d).start ≤ t → (suc i < length (p ∷ ps) → t < (get_or (p ∷ ps) (suc i) d).start) → StartIs (p ∷ ps) (suc i) d o → Found (p ∷ ps) t (get_or (p ∷ ps) i d).value o
  found_at p [] zero t d o a w l u n = (refl, n.1 (omega arith))
  found_at p (q ∷ qs) zero t d o a w l u n =
      let e : leb q.start t ≡ false = lt-leb q.start t (u (omega arith)) in
      (sym (ap (λ (b : Bool). cond b (at_from q.value qs t) p.value) e), n.0 (omega arith) ∙ sym (ap (λ (b : Bool). cond b (next_from qs t) (Some q.start)) e))
  found_at p [] (suc i) t d o a w l u n = absurd (omega arith)
  found_at p (q ∷ qs) (suc i) t d o a w l u n =
      let both = cond-true (ltb p.start q.start) (ascending q.start qs) a in
      let le : q.start ≤ (get_or (q ∷ qs) i d).start = ascend q qs i d both.1 (omega arith) in
      let e : leb q.start t ≡ true = le-leb q.start t (omega arith) in
      let r = found_at q qs i t d o both.1 (omega arith) l (λ h. u (omega arith)) (λ h. n.0 (omega arith), λ h. n.1 (omega arith)) in
      (r.0 ∙ sym (ap (λ (b : Bool). cond b (at_from q.value qs t) p.value) e), r.1 ∙ sym (ap (λ (b : Bool). cond b (next_from qs t) (Some q.start)) e))

  -- of the piece that holds t: its value is in force, and the next change is where the one behind it starts
  pub found : (xs : List (Piece V)) (t k : ℕ) (d : Piece V) (o : Option ℕ) → ordered xs ≡ true → HoldsTick xs t k → StartIs xs (k + 1) d o → Found xs t (get_or xs k d).value o
  found [] t k d o e h n = absurd (clash e)
  found (p ∷ ps) t k d o e h n =
      let both = cond-true (eqb p.start 0) (ascending 0 ps) e in
      let z : k + 1 ≡ suc k = omega arith in
      found_at p ps k t d o (subst (λ s. ascending s ps ≡ true) (sym (eqb-true p.start 0 both.0)) both.1) h.within (h.from d)
      (subst (λ j. j < length (p ∷ ps) → t < (get_or (p ∷ ps) j d).start) z (h.behind d)) (subst (λ j. StartIs (p ∷ ps) j d o) z n)

  -- so many pieces start at t or before, and the others behind it
  abbrev pub Splits : List (Piece V) → ℕ → ℕ → Type 0
  Splits xs t n = IsPartitionPoint (λ (q : Piece V). leb q.start t ≡ true) (λ (q : Piece V). leb q.start t ≡ false) xs n

  pub splits_some : (xs : List (Piece V)) (t n : ℕ) → ordered xs ≡ true → Splits xs t n → 1 ≤ n
  splits_some [] t n e s = absurd (clash e)
  splits_some (p ∷ ps) t zero e s =
      let z : p.start ≡ 0 = (first (p ∷ ps) e).1 p in
      absurd (clash (sym (s.1 0 p (omega arith) (omega arith)) ∙ le-leb p.start t (omega arith)))
  splits_some (p ∷ ps) t (suc n) e s = omega arith

  -- the last of them holds t
  pub splits_holds : (xs : List (Piece V)) (t n : ℕ) → ordered xs ≡ true → n ≤ length xs → Splits xs t n → HoldsTick xs t (n - 1)
  splits_holds xs t n e l s =
      let some = splits_some xs t n e s in
      record {
        within = omega (arith, some);
        from = λ d. leb-true (get_or xs (n - 1) d).start t (s.0 (n - 1) d (omega (arith, some)) (omega (arith, some)));
        behind = λ d h. leb-false (get_or xs (n - 1 + 1) d).start t (s.1 (n - 1 + 1) d (omega arith) h);
      }
