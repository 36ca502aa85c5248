-- Chains of pieces: how the list of a function grows, what it stands for, and that there is only one.
use Rattle.std.proofs.Common.{◌≡◌, ℕ, ◌<◌, ◌≤◌, Bool, cond, List, [], ◌∷◌, ◌++◌, length, Some, None, Option, sym, refl, ap, ◌∙◌, subst, ap₂, ⊎_elim, arith, le-leb}
use borrow.Author.Tests.{lt-leb}
use Rattle.std.proofs.lemmas.Bool.{cases_lt, cases_order}
use Rattle.pieces.specs.declared.piece.Piece.{Piece}
use Rattle.pieces.specs.Ticks.{Before, Later, Steady, Changed}
use Rattle.pieces.specs.Pieces.{at_from, next_from, last_from, last_start, Rising, Lists, Begun}
use Rattle.pieces.specs.Laws.{OnlyOne, Extends, NextChange}
use Rattle.pieces.proofs.Steadies.{later_trans, before_self}

pub last_push : {C : Type 0} (v : C) (ps : List (Piece C)) (q : Piece C) → last_from v (ps ++ q ∷ []) ≡ q.value
last_push v [] q = refl
last_push v (p ∷ ps) q = last_push p.value ps q

module _ {C : Type 0} (f : ℕ → C) where
  -- p and then ps are the pieces of f from the start of p up to o
  abbrev pub Chain : Piece C → List (Piece C) → Option ℕ → Type 0
  Chain p [] o = Steady f p.start p.value o
  Chain p (q ∷ qs) o = Steady f p.start p.value (Some q.start) × (p.value ≡ q.value → ⊥) × Chain q qs o

  -- nothing new at t
  pub chain_extend : (p : Piece C) (ps : List (Piece C)) (t : ℕ) (v : C) (o : Option ℕ) → Chain p ps (Some t) → last_from p.value ps ≡ v → Steady f t v o → Chain p ps o
  chain_extend p [] t v o c s k =
      (later_trans p.start t o (omega (arith, c.0)) k.0, λ u a b. ⊎_elim (λ h. c.1 u a h) (λ h. s ∙ k.1 u h b) (cases_lt u t))
  chain_extend p (q ∷ qs) t v o c s k = (c.0, c.1, chain_extend q qs t v o c.2 s k)

  -- a new piece at t
  pub chain_push : (p : Piece C) (ps : List (Piece C)) (q : Piece C) (o : Option ℕ) → Chain p ps (Some q.start) → (last_from p.value ps ≡ q.value → ⊥) → Steady f q.start q.value o → Chain p (ps ++ q ∷ []) o
  chain_push p [] q o c n k = (c, n, k)
  chain_push p (r ∷ rs) q o c n k = (c.0, c.1, chain_push r rs q o c.2 n k)

  pub chain_rising : (p : Piece C) (ps : List (Piece C)) (o : Option ℕ) → Chain p ps o → Rising p ps
  chain_rising p [] o c = tt
  chain_rising p (q ∷ qs) o c = (c.0.0, c.1, chain_rising q qs o c.2)

  pub chain_behind : (p : Piece C) (ps : List (Piece C)) (o : Option ℕ) → Chain p ps o → Later (last_start p.start ps) o
  chain_behind p [] o c = c.0
  chain_behind p (q ∷ qs) o c = chain_behind q qs o c.2

  pub chain_at : (p : Piece C) (ps : List (Piece C)) (o : Option ℕ) → Chain p ps o → (t : ℕ) → p.start ≤ t → Before o t → at_from p.value ps t ≡ f t
  chain_at p [] o c t h b = c.1 t h b
  chain_at p (q ∷ qs) o c t h b =
      let P : Bool → Type 0 = λ x. cond x (at_from q.value qs t) p.value ≡ f t in
      ⊎_elim (λ k. subst P (sym (lt-leb q.start t k)) (c.0.1 t h k)) (λ k. subst P (sym (le-leb q.start t k)) (chain_at q qs o c.2 t k b)) (cases_lt t q.start)

  -- what rises and says what f says is such a chain
  pub to_chain : (p : Piece C) (ps : List (Piece C)) (o : Option ℕ) → Rising p ps → Later (last_start p.start ps) o → ((t : ℕ) → p.start ≤ t → Before o t → at_from p.value ps t ≡ f t) → Chain p ps o
  to_chain p [] o r l h = (l, λ u a b. h u a b)
  to_chain p (q ∷ qs) o r l h =
      let P : ℕ → Bool → Type 0 = λ t x. cond x (at_from q.value qs t) p.value ≡ f t in (
        (r.0, λ u a b. subst (P u) (lt-leb q.start u b) (h u a (earlier_in q qs o u b r.2 l))),
        r.1,
        to_chain q qs o r.2 l (λ t a b. subst (P t) (le-leb q.start t a) (h t (omega (arith, r.0)) b)),
      )
    where
      last_above : (q : Piece C) (qs : List (Piece C)) → Rising q qs → q.start ≤ last_start q.start qs
      last_above q [] r = omega arith
      last_above q (a ∷ qs) r = let k = last_above a qs r.2 in omega (arith, r.0)

      earlier_in : (q : Piece C) (qs : List (Piece C)) (o : Option ℕ) (u : ℕ) → u < q.start → Rising q qs → Later (last_start q.start qs) o → Before o u
      earlier_in q qs None u h r l = tt
      earlier_in q qs (Some n) u h r l = let k = last_above q qs r in omega arith

  pub listed_chain : (p : Piece C) (ps : List (Piece C)) → Lists f (p ∷ ps) → Chain p ps None
  listed_chain p ps l = to_chain p ps None l.0.1 tt (λ t a b. l.1 t)

  pub chain_listed : (p : Piece C) (ps : List (Piece C)) → p.start ≡ 0 → Chain p ps None → Lists f (p ∷ ps)
  chain_listed p ps e c = ((e, chain_rising p ps None c), λ t. chain_at p ps None c t (omega arith) tt)

  pub begun_chain : (p : Piece C) (ps : List (Piece C)) → (b : Begun f p ps) → Chain p ps (Some b.until)
  begun_chain p ps b = to_chain p ps (Some b.until) b.rising b.behind (λ t a h. b.agrees t h)

  pub chain_begun : (p : Piece C) (ps : List (Piece C)) (t : ℕ) → p.start ≡ 0 → Chain p ps (Some t) → (last_from p.value ps ≡ f t → ⊥) → Begun f p ps
  chain_begun p ps t e c n = record {
    first = e;
    rising = chain_rising p ps (Some t) c;
    until = t;
    behind = chain_behind p ps (Some t) c;
    agrees = λ u h. chain_at p ps (Some t) c u (omega arith) h;
    differs = n;
  }

  head : (p : Piece C) (ps : List (Piece C)) (o : Option ℕ) → Chain p ps o → p.value ≡ f p.start
  head p [] o c = c.1 p.start (omega arith) (before_self p.start o c.0)
  head p (q ∷ qs) o c = c.0.1 p.start (omega arith) c.0.0

  -- chains that begin at one tick begin with one piece
  heads : (p q : Piece C) (ps qs : List (Piece C)) (m n : Option ℕ) → Chain p ps m → Chain q qs n → p.start ≡ q.start → p ≡ q
  heads p q ps qs m n c d e =
      let v : p.value ≡ q.value = head p ps m c ∙ ap f e ∙ sym (head q qs n d) in
      λ i. record { start = e i; value = v i }

  -- the piece after p is not inside q, where both have one value
  apart : (p q a : Piece C) (ps : List (Piece C)) (o : Option ℕ) → (p.value ≡ a.value → ⊥) → Chain a ps o → p ≡ q → q.value ≡ f a.start → ⊥
  apart p q a ps o n c e h = n (ap (λ (z : Piece C). z.value) e ∙ h ∙ sym (head a ps o c))

  -- a chain up to t, behind which f changes, and one for ever
  rest : (t : ℕ) (p q : Piece C) (ps qs : List (Piece C)) → Chain p ps (Some t) → (last_from p.value ps ≡ f t → ⊥) → Chain q qs None → p ≡ q →
      (more : List (Piece C)) × ((0 < length more) × (qs ≡ ps ++ more))
  rest t p q [] [] c n d e =
      let s : p.start ≡ q.start = ap (λ (z : Piece C). z.start) e in
      absurd (n (ap (λ (z : Piece C). z.value) e ∙ d.1 t (omega (arith, c.0)) tt))
  rest t p q [] (b ∷ qs) c n d e = (b ∷ qs, (omega arith, refl))
  rest t p q (a ∷ ps) [] c n d e =
      let s : p.start ≡ q.start = ap (λ (z : Piece C). z.start) e in
      absurd (apart p q a ps (Some t) c.1 c.2 e (d.1 a.start (omega (arith, c.0.0)) tt))
  rest t p q (a ∷ ps) (b ∷ qs) c n d e =
      let s : p.start ≡ q.start = ap (λ (z : Piece C). z.start) e in
      ⊎_elim
      (λ k.
      let ab = heads a b ps qs (Some t) None c.2 d.2 k in
      let r = rest t a b ps qs c.2 n d.2 ab in
      (r.0, (r.1.0, ap₂ (λ (z : Piece C) (zs : List (Piece C)). z ∷ zs) (sym ab) r.1.1)))
      (λ k. absurd (⊎_elim
      (λ l. apart p q a ps (Some t) c.1 c.2 e (d.0.1 a.start (omega (arith, c.0.0)) l))
      (λ l. apart q p b qs None d.1 d.2 (sym e) (c.0.1 b.start (omega (arith, d.0.0)) l))
      k))
      (cases_order a.start b.start)

  one : (p q : Piece C) (ps qs : List (Piece C)) → Chain p ps None → Chain q qs None → p ≡ q → ps ≡ qs
  one p q [] [] c d e = refl
  one p q [] (b ∷ qs) c d e =
      let s : p.start ≡ q.start = ap (λ (z : Piece C). z.start) e in
      absurd (apart q p b qs None d.1 d.2 (sym e) (c.1 b.start (omega (arith, d.0.0)) tt))
  one p q (a ∷ ps) [] c d e =
      let s : p.start ≡ q.start = ap (λ (z : Piece C). z.start) e in
      absurd (apart p q a ps None c.1 c.2 e (d.1 a.start (omega (arith, c.0.0)) tt))
  one p q (a ∷ ps) (b ∷ qs) c d e =
      let s : p.start ≡ q.start = ap (λ (z : Piece C). z.start) e in
      ⊎_elim
      (λ k.
      let ab = heads a b ps qs None None c.2 d.2 k in
      ap₂ (λ (z : Piece C) (zs : List (Piece C)). z ∷ zs) ab (one a b ps qs c.2 d.2 ab))
      (λ k. absurd (⊎_elim
      (λ l. apart p q a ps None c.1 c.2 e (d.0.1 a.start (omega (arith, c.0.0)) l))
      (λ l. apart q p b qs None d.1 d.2 (sym e) (c.0.1 b.start (omega (arith, d.0.0)) l))
      k))
      (cases_order a.start b.start)

pub only_one : (C : Type 0) → OnlyOne C
only_one C f [] qs a b = absurd a.0
only_one C f (p ∷ ps) [] a b = absurd b.0
only_one C f (p ∷ ps) (q ∷ qs) a b =
    let l = listed_chain f p ps a in
    let r = listed_chain f q qs b in
    let e = heads f p q ps qs None None l r (a.0.0 ∙ sym b.0.0) in
    ap₂ (λ (z : Piece C) (zs : List (Piece C)). z ∷ zs) e (one f p q ps qs l r e)

pub extends : (C : Type 0) → Extends C
extends C f ps [] a b = absurd b.0
extends C f [] (q ∷ qs) a b = (q ∷ qs, (omega arith, refl))
extends C f (p ∷ ps) (q ∷ qs) a b =
    let l = begun_chain f p ps a in
    let r = listed_chain f q qs b in
    let e = heads f p q ps qs (Some a.until) None l r (a.first ∙ sym b.0.0) in
    let more = rest f a.until p q ps qs l a.differs r e in
    (more.0, (more.1.0, ap₂ (λ (z : Piece C) (zs : List (Piece C)). z ∷ zs) (sym e) more.1.1))

module _ {C : Type 0} (f : ℕ → C) where
  -- a look-up in a chain
  found : (p : Piece C) (ps : List (Piece C)) (t : ℕ) → Chain f p ps None → p.start ≤ t → Steady f t (at_from p.value ps t) (next_from ps t) × Changed f (at_from p.value ps t) (next_from ps t)
  found p [] t c h = ((tt, λ u a b. c.1 u (omega arith) tt), tt)
  found p (q ∷ qs) t c h =
      let P : Bool → Type 0 = λ x. Steady f t (cond x (at_from q.value qs t) p.value) (cond x (next_from qs t) (Some q.start)) × Changed f (cond x (at_from q.value qs t) p.value) (cond x (next_from qs t) (Some q.start)) in
      ⊎_elim
      (λ k. subst P (sym (lt-leb q.start t k)) ((k, λ u a b. c.0.1 u (omega arith) b), λ e. c.1 (e ∙ sym (head f q qs None c.2))))
      (λ k. subst P (sym (le-leb q.start t k)) (found q qs t c.2 k))
      (cases_lt t q.start)

pub next_change : (C : Type 0) → NextChange C
next_change C f [] t v o l h = absurd h
next_change C f (p ∷ ps) t v o l h =
    let r = found f p ps t (listed_chain f p ps l) (omega (arith, l.0.0)) in
    subst (λ x. Steady f t x o × Changed f x o) (sym h.0) (subst (λ n. Steady f t (at_from p.value ps t) n × Changed f (at_from p.value ps t) n) (sym h.1) r)
