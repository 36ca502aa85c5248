-- Whether a word is among names.
use Rattle.std.proofs.Common.{◌≡◌, ℕ, ◌<◌, Bool, true, false, List, [], length, get_or, sym, refl, ◌∙◌, arith, Bor, Decides}
use Rattle.std.specs.List.{IsAnyAnswer}
use Rattle.std.proofs.lemmas.Bool.{both_ways, false≢true}
use Rattle.std.proofs.lemmas.List.{get_or-map, length-map}
use Rattle.tokens.specs.Answers.{texts}
use Rattle.cases.specs.Orders.{Repeated}

module _ (refs : List (Bor (List ℕ))) (word : Bor (List ℕ)) (test : Bor (List ℕ) → Bool) (decides : (y : Bor (List ℕ)) → Decides (test y) (y.now ≡ word.now)) where
  is_read : (k : ℕ) → k < length refs → get_or (texts refs) k [] ≡ (get_or refs k word).now
  is_read k h = get_or-map (λ x. x.now) refs k word [] h

  pub repeats : (r : Bool) → IsAnyAnswer (λ y b. test y ≡ b) refs r → Decides r (Repeated (texts refs) word.now)
  repeats true h = (λ e. (h.0, rw length-map h.1, is_read h.0 h.1 ∙ (decides (get_or refs h.0 word)).0 (h.2 word)), λ z. refl)
  repeats false h = (
    λ e. absurd (false≢true e),
    λ z. let here : z.0 < length refs = omega (arith, length-map refs (λ x. x.now), z.1) in
        absurd (both_ways _ (h z.0 word (omega arith) here) ((decides (get_or refs z.0 word)).1 (sym (is_read z.0 here) ∙ z.2))),
  )
