-- The front of a list, written anew.
use Rattle.std.proofs.Common.{◌≡◌, ℕ, min, List, ◌++◌, length, take, drop, append-nil, sym, ap, ◌∙◌, arith}
use Rattle.std.proofs.lemmas.List.{take_all, drop_all, take-append-le}
use Rattle.std.proofs.lemmas.Slice.{drop-append-drop}
use native.Mathlib.Decide.{dec_le}

-- of the first n of xs there are k
module _ {X : Type 0} (n k : ℕ) (xs : List X) (is : k ≡ min n (length xs)) where
  pub front_counted : take k xs ≡ take n xs
  front_counted = elim (dec_le n (length xs)) [
    | yes le ↦ ap (λ (i : ℕ). take i xs) (omega (arith, is, le))
    | no more ↦ take_all k xs (omega (arith, is, more)) ∙ sym (take_all n xs (omega (arith, more)))
  ]

  -- zs is written over them
  module _ (zs : List X) (long : length zs ≡ k) where
    pub front_anew : take n (zs ++ drop k xs) ≡ zs
    front_anew = elim (dec_le n (length xs)) [
      | yes le ↦ take-append-le n zs (drop k xs) (omega (arith, is, le, long)) ∙ take_all n zs (omega (arith, is, le, long))
      | no more ↦ ap (λ (v : List X). take n (zs ++ v)) (drop_all k xs (omega (arith, is, more))) ∙ ap (λ (v : List X). take n v) (append-nil zs) ∙ take_all n zs (omega (arith, is, more, long))
    ]

    pub behind_anew : drop n (zs ++ drop k xs) ≡ drop n xs
    behind_anew = drop-append-drop k xs zs n (omega (arith, is)) long
