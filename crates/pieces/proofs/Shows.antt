-- Lists as functions of ticks, and by what their values stand for.
use Rattle.std.proofs.Common.{◌≡◌, ℕ, ◌<◌, ◌≤◌, Bool, true, false, cond, eqb, ltb, leb, List, [], ◌∷◌, ◌++◌, Some, Option, sym, refl, ap, ◌∙◌, subst, ⊎_elim, arith, lt-ltb, eq-eqb, le-leb}
use borrow.Author.Tests.{lt-leb}
use Rattle.std.proofs.lemmas.Bool.{cases_lt}
use Rattle.pieces.specs.declared.piece.Piece.{Piece}
use Rattle.pieces.specs.Ticks.{Before, Later, Steady}
use Rattle.pieces.specs.Pieces.{at_from, next_from, last_from, ascending, ordered, at_list, Found, Rising, Canonical, Lists}
use Rattle.pieces.specs.Cells.{meant, shown}
use Rattle.pieces.proofs.Orders.{first}

module _ {C : Type 0} where
  abbrev pub Flat : C → List (Piece C) → ℕ → Type 0
  Flat v ps t = Later t (next_from ps t) × ((u : ℕ) → t ≤ u → Before (next_from ps t) u → at_from v ps t ≡ at_from v ps u)

  -- a list stays as it is up to the next start
  pub flat : (v : C) (ps : List (Piece C)) (t : ℕ) → Flat v ps t
  flat v [] t = (tt, λ u a b. refl)
  flat v (p ∷ ps) t =
      ⊎_elim
      (λ h.
      let e = lt-leb p.start t h in
      let nx : next_from (p ∷ ps) t ≡ Some p.start = ap (λ (b : Bool). cond b (next_from ps t) (Some p.start)) e in (
        subst (Later t) (sym nx) h,
        λ u a b.
            let k : u < p.start = subst (λ o. Before o u) nx b in
            ap (λ (b : Bool). cond b (at_from p.value ps t) v) e ∙ sym (ap (λ (b : Bool). cond b (at_from p.value ps u) v) (lt-leb p.start u k)),
      ))
      (λ h.
      let e = le-leb p.start t h in
      let nx : next_from (p ∷ ps) t ≡ next_from ps t = ap (λ (b : Bool). cond b (next_from ps t) (Some p.start)) e in
      let r = flat p.value ps t in (
        subst (Later t) (sym nx) r.0,
        λ u a b.
            ap (λ (b : Bool). cond b (at_from p.value ps t) v) e ∙ r.1 u a (subst (λ o. Before o u) nx b)
            ∙ sym (ap (λ (b : Bool). cond b (at_from p.value ps u) v) (le-leb p.start u (omega arith))),
      ))
      (cases_lt t p.start)

  rising_ascending : (p : Piece C) (ps : List (Piece C)) → Rising p ps → ascending p.start ps ≡ true
  rising_ascending p [] r = refl
  rising_ascending p (q ∷ qs) r =
      ap (λ (b : Bool). cond b (ascending q.start qs) false) (lt-ltb p.start q.start r.0) ∙ rising_ascending q qs r.2

  pub canonical_ordered : (qs : List (Piece C)) → Canonical qs → ordered qs ≡ true
  canonical_ordered [] c = absurd c
  canonical_ordered (p ∷ ps) c =
      ap (λ (b : Bool). cond b (ascending 0 ps) false) (eq-eqb p.start 0 c.0) ∙ subst (λ s. ascending s ps ≡ true) c.0 (rising_ascending p ps c.1)

  -- the list of f says what f says, whatever is in force before it
  pub lists_at : (f : ℕ → C) (qs : List (Piece C)) → Lists f qs → (d : C) (t : ℕ) → at_from d qs t ≡ f t
  lists_at f [] l d t = absurd l.0
  lists_at f (p ∷ ps) l d t =
      let z : p.start ≡ 0 = l.0.0 in
      ap (λ (b : Bool). cond b (at_from p.value ps t) d) (le-leb p.start t (omega arith)) ∙ l.1 t

module _ {V C : Type 0} (val : V → C) where
  pub shown_push : (ps : List (Piece V)) (q : Piece V) → shown val (ps ++ q ∷ []) ≡ shown val ps ++ meant val q ∷ []
  shown_push [] q = refl
  shown_push (p ∷ ps) q = ap (λ qs. meant val p ∷ qs) (shown_push ps q)

  pub last_shown : (v : V) (ps : List (Piece V)) → last_from (val v) (shown val ps) ≡ val (last_from v ps)
  last_shown v [] = refl
  last_shown v (p ∷ ps) = last_shown p.value ps

  ascending_shown : (s : ℕ) (ps : List (Piece V)) → ascending s (shown val ps) ≡ ascending s ps
  ascending_shown s [] = refl
  ascending_shown s (q ∷ qs) = ap (λ (b : Bool). cond (ltb s q.start) b false) (ascending_shown q.start qs)

  pub ordered_shown : (ps : List (Piece V)) → ordered (shown val ps) ≡ ordered ps
  ordered_shown [] = refl
  ordered_shown (p ∷ ps) = ap (λ (b : Bool). cond (eqb p.start 0) b false) (ascending_shown 0 ps)

  pub at_shown : (v : V) (ps : List (Piece V)) (t : ℕ) → at_from (val v) (shown val ps) t ≡ val (at_from v ps t)
  at_shown v [] t = refl
  at_shown v (p ∷ ps) t =
      let both : (b : Bool) → cond b (at_from (val p.value) (shown val ps) t) (val v) ≡ val (cond b (at_from p.value ps t) v) =
      λ b. elim b as (λ b. cond b (at_from (val p.value) (shown val ps) t) (val v) ≡ val (cond b (at_from p.value ps t) v)) [ true ↦ at_shown p.value ps t | false ↦ refl ] in
      both (leb p.start t)

  pub next_shown : (ps : List (Piece V)) (t : ℕ) → next_from (shown val ps) t ≡ next_from ps t
  next_shown [] t = refl
  next_shown (p ∷ ps) t = ap (λ o. cond (leb p.start t) o (Some p.start)) (next_shown ps t)

  -- a look-up is a step of the list as a function of ticks, whatever is in force before it
  pub found_shown : (d : C) (ps : List (Piece V)) (t : ℕ) (v : V) (o : Option ℕ) → ordered ps ≡ true → Found ps t v o → Steady (at_from d (shown val ps)) t (val v) o
  found_shown d [] t v o ok h = absurd h
  found_shown d (p ∷ ps) t v o ok h =
      let z : p.start ≡ 0 = (first (p ∷ ps) ok).1 p in
      let e : leb p.start t ≡ true = le-leb p.start t (omega arith) in
      let ev : val v ≡ at_from d (shown val (p ∷ ps)) t =
      ap val h.0 ∙ sym (at_shown p.value ps t) ∙ sym (ap (λ (c : Bool). cond c (at_from (val p.value) (shown val ps) t) d) e) in
      let eo : o ≡ next_from (shown val (p ∷ ps)) t =
      h.1 ∙ sym (next_shown ps t) ∙ sym (ap (λ (c : Bool). cond c (next_from (shown val ps) t) (Some p.start)) e) in
      let r = flat d (shown val (p ∷ ps)) t in
      (subst (Later t) (sym eo) r.0, λ u a b. ev ∙ r.1 u a (subst (λ o. Before o u) eo b))

  pub found_steady : (ps : List (Piece V)) (ok : ordered ps ≡ true) (t : ℕ) (v : V) (o : Option ℕ) → Found ps t v o → Steady (λ u. val (at_list ps ok u)) t (val v) o
  found_steady [] ok t v o h = absurd h
  found_steady (p ∷ ps) ok t v o h =
      let r = flat p.value ps t in
      (subst (Later t) (sym h.1) r.0, λ u a b. ap val (h.0 ∙ r.1 u a (subst (λ o. Before o u) h.1 b)))
