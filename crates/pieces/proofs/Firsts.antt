-- The first tick at which a list has a value: the start of the first piece with it.
use Rattle.std.proofs.Common.{◌≡◌, ℕ, zero, suc, ◌+◌, ◌<◌, ◌≤◌, true, cond, ltb, List, [], ◌∷◌, length, get_or, take, Some, None, sym, refl, ap, ◌∙◌, subst, ⊎_elim, arith, le-leb, ltb-true, eqb, eqb-true}
use borrow.Author.Tests.{lt-leb, clash}
use Rattle.std.specs.List.{AllByRecursion}
use Rattle.std.proofs.lemmas.Bool.{cases_lt}
use Rattle.std.proofs.ByRecursion.{All-more}
use Rattle.pieces.specs.declared.piece.Piece.{Piece}
use Rattle.pieces.specs.Ticks.{FirstTick}
use Rattle.pieces.specs.Pieces.{at_from, at_list, ordered, ascending}
use Rattle.pieces.proofs.Orders.{cond-true, ascend}

module _ {V C : Type 0} (val : V → C) (w : C) where
  -- a piece with another value
  abbrev pub Other : Piece V → Type 0
  Other p = val p.value ≡ w → ⊥

  never : (v : V) (ps : List (Piece V)) (t : ℕ) → (val v ≡ w → ⊥) → AllByRecursion Other ps → val (at_from v ps t) ≡ w → ⊥
  never v [] t n a = n
  never v (p ∷ ps) t n a = ⊎_elim
      (λ h. λ e. n (sym (ap (λ b. val (cond b (at_from p.value ps t) v)) (lt-leb p.start t h)) ∙ e))
      (λ h. λ e. never p.value ps t a.0 a.1 (sym (ap (λ b. val (cond b (at_from p.value ps t) v)) (le-leb p.start t h)) ∙ e))
      (cases_lt t p.start)

  -- what stands before the second piece
  early : (p : Piece V) (ps : List (Piece V)) → ascending p.start ps ≡ true → at_from p.value ps p.start ≡ p.value
  early p [] r = refl
  early p (q ∷ qs) r =
      let less = ltb-true p.start q.start (cond-true (ltb p.start q.start) (ascending q.start qs) r).0 in
      ap (λ b. cond b (at_from q.value qs p.start) p.value) (lt-leb q.start p.start less)

  first_from : (p : Piece V) (ps : List (Piece V)) (i : ℕ) (d : Piece V) → ascending p.start ps ≡ true → i < length (p ∷ ps) → AllByRecursion Other (take i (p ∷ ps)) → val (get_or (p ∷ ps) i d).value ≡ w →
      (val (at_from p.value ps (get_or (p ∷ ps) i d).start) ≡ w) × ((u : ℕ) → u < (get_or (p ∷ ps) i d).start → p.start ≤ u → val (at_from p.value ps u) ≡ w → ⊥)
  first_from p ps zero d r h a e = (ap val (early p ps r) ∙ e, λ u l m. absurd (omega arith))
  first_from p [] (suc i) d r h a e = absurd (omega arith)
  first_from p (q ∷ qs) (suc i) d r h a e =
      let rest = (cond-true (ltb p.start q.start) (ascending q.start qs) r).1 in
      let more = first_from q qs i d rest (omega arith) a.1 e in
      let x : ℕ = (get_or (q ∷ qs) i d).start in
      let up = ascend q qs i d rest (omega arith) in (
        ap (λ b. val (cond b (at_from q.value qs x) p.value)) (le-leb q.start x up) ∙ more.0,
        λ u l m. ⊎_elim
            (λ k. λ f. a.0 (sym (ap (λ b. val (cond b (at_from q.value qs u) p.value)) (lt-leb q.start u k)) ∙ f))
            (λ k. λ f. more.1 u l k (sym (ap (λ b. val (cond b (at_from q.value qs u) p.value)) (le-leb q.start u k)) ∙ f))
            (cases_lt u q.start),
      )

  pub first_never : (ps : List (Piece V)) (ok : ordered ps ≡ true) → AllByRecursion Other ps → FirstTick (λ t. val (at_list ps ok t)) w None
  first_never [] ok a u = absurd (clash ok)
  first_never (p ∷ ps) ok a u = never p.value ps u a.0 a.1

  pub first_here : (ps : List (Piece V)) (ok : ordered ps ≡ true) (i : ℕ) (x : Piece V) → i < length ps → AllByRecursion Other (take i ps) → x ≡ get_or ps i x → val x.value ≡ w → FirstTick (λ t. val (at_list ps ok t)) w (Some x.start)
  first_here [] ok i x h a r e = absurd (clash ok)
  first_here (p ∷ ps) ok i x h a r e =
      let both = cond-true (eqb p.start 0) (ascending 0 ps) ok in
      let z : p.start ≡ 0 = eqb-true p.start 0 both.0 in
      let up = subst (λ s. ascending s ps ≡ true) (sym z) both.1 in
      let f = first_from p ps i x up h a (sym (ap (λ (q : Piece V). val q.value) r) ∙ e) in
      subst (λ (q : Piece V). FirstTick (λ t. val (at_list (p ∷ ps) ok t)) w (Some q.start)) (sym r) (f.0, λ u l. f.1 u l (omega (arith, z)))

  -- a piece more with another value
  pub other_more : (ps : List (Piece V)) (i : ℕ) (x : Piece V) → i < length ps → AllByRecursion Other (take i ps) → x ≡ get_or ps i x → Other x → AllByRecursion Other (take (i + 1) ps)
  other_more ps i x h a r n = All-more Other ps i x h a (subst Other r n)
