-- A function that changes no more from some tick on has a short list.
use Rattle.std.proofs.Common.{◌≡◌, ℕ, suc, ◌+◌, ◌-◌, ◌*◌, ◌<◌, ◌≤◌, List, [], ◌∷◌, length, get_or, None, sym, ◌∙◌, arith}
use native.Mathlib.Decide.{dec_le}
use Rattle.std.proofs.lemmas.List.{length-append}
use Rattle.pieces.specs.declared.piece.Piece.{Piece}
use Rattle.pieces.specs.Pieces.{Lists}
use Rattle.pieces.proofs.Chains.{Chain, to_chain}
use Rattle.pieces.proofs.Steadies.{before_self}
use Rattle.runs.specs.Calls.{all}

module _ {C : Type 0} (f : ℕ → C) (end : ℕ) (flat : (t : ℕ) → end ≤ t → f t ≡ f end) where
  head_is : (q : Piece C) (qs : List (Piece C)) → Chain f q qs None → q.value ≡ f q.start
  head_is q [] c = c.1 q.start (omega arith) (before_self q.start None c.0)
  head_is q (r ∷ rs) c = c.0.1 q.start (omega arith) c.0.0

  -- each piece behind the first starts by the end
  few_behind : (p : Piece C) (qs : List (Piece C)) → p.start ≤ end → Chain f p qs None → length qs + p.start ≤ end
  few_behind p [] l c = omega (arith, l)
  few_behind p (q ∷ qs) l c = elim (dec_le q.start end) [
    | yes near ↦ let m = few_behind q qs near c.2 in omega (arith, c.0.0)
    | no n ↦ absurd (c.1 (c.0.1 (q.start - 1) (omega (arith, c.0.0)) (omega (arith, c.0.0)) ∙ flat (q.start - 1) (omega arith) ∙ sym (head_is q qs c.2 ∙ flat q.start (omega arith))))
  ]

  pub short_list : (ps : List (Piece C)) → Lists f ps → length ps ≤ suc end
  short_list [] l = omega arith
  short_list (p ∷ ps) l =
      let c = to_chain f p ps None l.0.1 tt (λ t a b. l.1 t) in
      let z : p.start ≡ 0 = l.0.0 in
      let m = few_behind p ps (omega arith) c in
      omega arith

-- lists of at most b elements each
pub all_short : {X : Type 0} (b : ℕ) (xss : List (List X)) → ((k : ℕ) → k < length xss → length (get_or xss k []) ≤ b) → length (all xss) ≤ length xss * b
all_short b [] h = omega arith
all_short b (xs ∷ xss) h =
    let one = h 0 (omega arith) in
    let more = all_short b xss (λ k l. h (suc k) (omega arith)) in
    omega (arith, length-append xs (all xss), one, more)
