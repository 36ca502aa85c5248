-- A function of ticks that changes no more from some tick on has its list.
use Rattle.std.proofs.Common.{◌≡◌, ℕ, zero, suc, ◌≤◌, List, [], ◌∷◌, ◌++◌, Some, None, Option, sym, refl, ap, ◌∙◌, arith}
use Rattle.pieces.specs.declared.piece.Piece.{Piece}
use Rattle.pieces.specs.Ticks.{Steady}
use Rattle.pieces.specs.Pieces.{last_from, Lists}
use Rattle.pieces.proofs.Chains.{Chain, chain_extend, chain_push, chain_listed}

module _ {C : Type 0} (decide : (p q : C) → Dec (p ≡ q)) (f : ℕ → C) where
  abbrev first : Piece C
  first = record { start = 0; value = f 0 }

  abbrev Grown : Option ℕ → Type 0
  Grown o = (ps : List (Piece C)) × Chain f first ps o

  grow : (t : ℕ) (o : Option ℕ) → Steady f t (f t) o → Grown (Some t) → Grown o
  grow t o st g =
      let q : Piece C = record { start = t; value = f t } in
      elim (decide (last_from (f 0) g.0) (f t)) [
        | yes e ↦ (g.0, chain_extend f first g.0 t (f t) o g.1 e st)
        | no n ↦ (g.0 ++ q ∷ [], chain_push f first g.0 q o g.1 n st)
      ]

  one : (t : ℕ) → Steady f t (f t) (Some (suc t))
  one t = (omega arith, λ u a b. let e : t ≡ u = omega arith in ap f e)

  upto : (n : ℕ) → Grown (Some (suc n))
  upto zero = ([], one 0)
  upto (suc n) = grow (suc n) (Some (suc (suc n))) (one (suc n)) (upto n)

  pub listed : (n : ℕ) → ((t : ℕ) → n ≤ t → f t ≡ f n) → (qs : List (Piece C)) × Lists f qs
  listed n s =
      let g : Grown None = grow (suc n) None (tt, λ u a b. s (suc n) (omega arith) ∙ sym (s u (omega arith))) (upto n) in
      (first ∷ g.0, chain_listed f first g.0 refl g.1)
