-- The one piece that holds a tick.
use Rattle.std.proofs.Common.{◌≡◌, ℕ, zero, suc, ◌+◌, ◌<◌, ◌≤◌, true, cond, List, [], ◌∷◌, length, get_or, take, sym, refl, ap, ◌∙◌, subst, ⊎_elim, arith, le-ltb, lt-ltb, leb-true}
use borrow.Author.Tests.{clash}
use Rattle.std.proofs.lemmas.Bool.{leb-false, cases_lt}
use Rattle.pieces.specs.declared.piece.Piece.{Piece}
use Rattle.pieces.specs.Ticks.{Steady, Changed}
use Rattle.pieces.specs.Pieces.{last_from, ordered, count_before, start_of, HoldsTick, Lists}
use Rattle.pieces.specs.Laws.{Holder, OneHolder}
use Rattle.pieces.proofs.Steadies.{before_self}
use Rattle.pieces.proofs.Orders.{first, rises, StartIs, Splits, found}
use Rattle.pieces.proofs.Shows.{canonical_ordered}
use Rattle.pieces.proofs.Chains.{next_change}

module _ {V : Type 0} where
  -- one piece more, or the end of those that start before t
  module _ (t : ℕ) (p : Piece V) (ps : List (Piece V)) where
    pub count_yes : p.start < t → count_before t (p ∷ ps) ≡ suc (count_before t ps)
    count_yes h = ap (λ b. cond b (suc (count_before t ps)) 0) (lt-ltb p.start t h)

    pub count_no : t ≤ p.start → count_before t (p ∷ ps) ≡ 0
    count_no h = ap (λ b. cond b (suc (count_before t ps)) 0) (le-ltb p.start t h)

  pub count_none : (ps : List (Piece V)) → count_before 0 ps ≡ 0
  count_none [] = refl
  count_none (p ∷ ps) = count_no 0 p ps (omega arith)

  pub count_within : (t : ℕ) (ps : List (Piece V)) → count_before t ps ≤ length ps
  count_within t [] = omega arith
  count_within t (p ∷ ps) = ⊎_elim (λ h. omega (arith, count_yes t p ps h, count_within t ps)) (λ h. omega (arith, count_no t p ps h)) (cases_lt p.start t)

  pub count_more : (s t : ℕ) (ps : List (Piece V)) → s ≤ t → count_before s ps ≤ count_before t ps
  count_more s t [] h = omega arith
  count_more s t (p ∷ ps) h = ⊎_elim
      (λ k. omega (arith, count_yes s p ps k, count_yes t p ps (omega arith), count_more s t ps h))
      (λ k. omega (arith, count_no s p ps k))
      (cases_lt p.start s)

  -- so many pieces start at t or before, and the others behind it
  pub splits_count : (ps : List (Piece V)) (t n : ℕ) → n ≤ length ps → Splits ps t n → n ≡ count_before (t + 1) ps
  splits_count [] t n h s = omega arith
  splits_count (p ∷ ps) t zero h s = let b = leb-false p.start t (s.1 0 p (omega arith) (omega arith)) in sym (count_no (t + 1) p ps (omega arith))
  splits_count (p ∷ ps) t (suc n) h s =
      let b = leb-true p.start t (s.0 0 p (omega arith) (omega arith)) in
      ap suc (splits_count ps t n (omega arith) (λ k d l u. s.0 (suc k) d (omega arith) (omega arith), λ k d l u. s.1 (suc k) d (omega arith) (omega arith)))
      ∙ sym (count_yes (t + 1) p ps (omega arith))

  -- the value of the last of the first pieces
  pub last_value : (p : Piece V) (ps : List (Piece V)) (i : ℕ) (d : Piece V) → i ≤ length ps → (get_or (p ∷ ps) i d).value ≡ last_from p.value (take i ps)
  last_value p ps zero d h = refl
  last_value p [] (suc i) d h = absurd (omega arith)
  last_value p (q ∷ qs) (suc i) d h = last_value q qs i d (omega arith)

  -- the start of a piece that is there, and none behind the last
  pub start_is : (ps : List (Piece V)) (k : ℕ) (d : Piece V) → StartIs ps k d (start_of ps k)
  start_is [] k d = (λ h. absurd (omega arith), λ h. refl)
  start_is (p ∷ ps) zero d = (λ h. refl, λ h. absurd (omega arith))
  start_is (p ∷ ps) (suc k) d = let r = start_is ps k d in (λ h. r.0 (omega arith), λ h. r.1 (omega arith))

  -- some piece holds a tick that is not before the first start
  holder_from : (p : Piece V) (ps : List (Piece V)) (t : ℕ) → p.start ≤ t → (k : ℕ) × HoldsTick (p ∷ ps) t k
  holder_from p [] t h = (0, record { within = omega arith; from = λ d. h; behind = λ d l. absurd (omega arith) })
  holder_from p (q ∷ qs) t h = ⊎_elim
      (λ (b : t < q.start). (0, record { within = omega arith; from = λ d. h; behind = λ d l. b }))
      (λ (b : q.start ≤ t).
      let r = holder_from q qs t b in
      (suc r.0, record { within = omega (arith, r.1.within); from = r.1.from; behind = λ d l. next_in r.0 d (r.1.behind d (omega (arith, l))) }))
      (cases_lt t q.start)
    where
      next_in : (k : ℕ) (d : Piece V) → t < (get_or (q ∷ qs) (k + 1) d).start → t < (get_or (p ∷ (q ∷ qs)) (suc k + 1) d).start
      next_in k d l = let e : suc (k + 1) ≡ suc k + 1 = omega arith in subst (λ j. t < (get_or (p ∷ (q ∷ qs)) j d).start) e l

  pub holder_of : (ps : List (Piece V)) (t : ℕ) → ordered ps ≡ true → (k : ℕ) × HoldsTick ps t k
  holder_of [] t e = absurd (clash e)
  holder_of (p ∷ ps) t e = let z : p.start ≡ 0 = (first (p ∷ ps) e).1 p in holder_from p ps t (omega arith)

  module _ (ps : List (Piece V)) (t k : ℕ) (e : ordered ps ≡ true) (h : HoldsTick ps t k) where
    -- the pieces behind it start later
    pub holds_last : (j : ℕ) (d : Piece V) → k < j → j < length ps → t < (get_or ps j d).start
    holds_last j d l within = omega (arith, h.behind d (omega arith), rises ps e (k + 1) j d (omega arith) within)

    holds_first : (j : ℕ) (d : Piece V) → HoldsTick ps t j → j ≤ k
    holds_first j d g = ⊎_elim
        (λ (l : k < j). absurd (omega (arith, holds_last j d l g.within, g.from d)))
        (λ (l : j ≤ k). l)
        (cases_lt k j)

  pub holds_one : (ps : List (Piece V)) (t k j : ℕ) → ordered ps ≡ true → HoldsTick ps t k → HoldsTick ps t j → j ≡ k
  holds_one [] t k j e h g = absurd (omega (arith, h.within))
  holds_one (p ∷ ps) t k j e h g = omega (arith, holds_first (p ∷ ps) t k e h j p g, holds_first (p ∷ ps) t j e g k p h)

module _ {C : Type 0} (f : ℕ → C) (ps : List (Piece C)) (t : ℕ) (l : Lists f ps) where
  ok : ordered ps ≡ true
  ok = canonical_ordered ps l.0

  tells : (k : ℕ) → HoldsTick ps t k → (d : Piece C) → Steady f t (get_or ps k d).value (start_of ps (k + 1)) × Changed f (get_or ps k d).value (start_of ps (k + 1))
  tells k h d = next_change C f ps t (get_or ps k d).value (start_of ps (k + 1)) l (found ps t k d (start_of ps (k + 1)) ok h (start_is ps (k + 1) d))

  value_is : (k : ℕ) → HoldsTick ps t k → (d : Piece C) → (get_or ps k d).value ≡ f t
  value_is k h d = let s = (tells k h d).0 in s.1 t (omega arith) (before_self t (start_of ps (k + 1)) s.0)

  holder : (k : ℕ) → HoldsTick ps t k → (d : Piece C) → Holder C f ps t k
  holder k h d =
      let v = value_is k h d in
      let r = tells k h d in
      let o = start_of ps (k + 1) in
      record {
        holds = h;
        last = λ j d l w. holds_last ps t k ok h j d l w;
        value = value_is k h;
        steady = subst (λ x. Steady f t x o) v r.0;
        changed = subst (λ x. Changed f x o) v r.1;
      }

pub one_holder : (C : Type 0) → OneHolder C
one_holder C f [] t l = absurd l.0
one_holder C f (p ∷ ps) t l =
    let h = holder_of (p ∷ ps) t (canonical_ordered (p ∷ ps) l.0) in
    (h.0, (holder f (p ∷ ps) t l h.0 h.1 p, λ j g. holds_one (p ∷ ps) t h.0 j (canonical_ordered (p ∷ ps) l.0) h.1 g))
