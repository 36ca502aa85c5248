-- The beginning of a list, when one more element comes.
use Rattle.std.proofs.Common.{◌≡◌, ℕ, List, [], ◌∷◌, ◌++◌, length, take, sym, ap, ◌∙◌, ⊎_elim, arith}
use Rattle.std.proofs.lemmas.List.{take_all, take-append-le, take-take, length-take-le}
use Rattle.std.proofs.lemmas.Bool.{cases_lt}

-- a beginning of a longer list
pub onward : (n b : ℕ) (whole : List ℕ) → take n (take n whole ++ (b ∷ [])) ≡ take n (whole ++ (b ∷ []))
onward n b whole =
    ⊎_elim
    (λ few. ap (λ (v : List ℕ). take n (v ++ (b ∷ []))) (take_all n whole (omega arith)))
    (λ many.
    take-append-le n (take n whole) (b ∷ []) (omega (arith, length-take-le n whole many)) ∙
    take-take n n whole (omega arith) ∙
    sym (take-append-le n whole (b ∷ []) many))
    (cases_lt (length whole) n)
