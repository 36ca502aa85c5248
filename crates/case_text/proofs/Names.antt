-- The first of the names that is a word.
use Rattle.std.proofs.Common.{◌≡◌, ℕ, ◌<◌, ◌≢◌, List, [], length, get_or, take, MatchOption, Some, None, Option, sym, ap, ◌∙◌, arith, Bor}
use Rattle.std.specs.List.{AllWithin, HoldsAt}
use Rattle.std.proofs.lemmas.List.{get_or-map, get_or-take, length-take, length-map}
use Rattle.tokens.specs.Answers.{texts}
use Rattle.case_text.specs.Words.{FirstNamed}
use Rattle.case_text.specs.Parts.{ValueRead}

module _ (refs : List (Bor (List ℕ))) (w : List ℕ) (d : Bor (List ℕ)) where
  is_read : (i : ℕ) → i < length (take 256 refs) → get_or (texts refs) i [] ≡ (get_or (take 256 refs) i d).now
  is_read i there =
      let few : i < 256 = omega (arith, there, length-take 256 refs) in
      get_or-map (λ x. x.now) refs i d [] (omega (arith, there, length-take 256 refs)) ∙ ap (λ x. x.now) (sym (get_or-take 256 refs i d few))

  pub found : (r : Option ℕ) → MatchOption r (AllWithin (λ x. x.now ≢ w) (take 256 refs) 0 (length (take 256 refs))) (λ i. (i < length (take 256 refs)) × HoldsAt (λ x. x.now ≡ w) (take 256 refs) i × AllWithin (λ x. x.now ≢ w) (take 256 refs) 0 i) → ValueRead (FirstNamed (texts refs) w) r
  found None none =
      λ k f. let here : k < length (take 256 refs) = omega (arith, f.byte, f.there, length-take 256 refs, length-map refs (λ x. x.now)) in none k d (omega arith) here (sym (is_read k here) ∙ f.same)
  found (Some i) first =
      record {
        byte = omega (arith, first.0, length-take 256 refs);
        there = omega (arith, first.0, length-take 256 refs, length-map refs (λ x. x.now));
        same = is_read i first.0 ∙ first.1 d;
        first = λ j before same. first.2 j d (omega arith) before (sym (is_read j (omega (arith, before, first.0))) ∙ same);
      }
