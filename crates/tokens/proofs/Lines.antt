-- The line that a name stands for.
use Rattle.std.proofs.Common.{◌≡◌, ℕ, ◌<◌, ◌≢◌, List, [], length, get_or, take, MatchOption, Some, None, Option, sym, refl, ap, ◌∙◌, ⊎_elim, arith, Bor}
use Rattle.std.specs.List.{AllWithin, HoldsAt}
use Rattle.std.proofs.lemmas.List.{get_or-map, get_or-take, length-take, length-map}
use Rattle.std.proofs.lemmas.Bool.{cases_order}
use Rattle.tokens.specs.Words.{LineOf}
use Rattle.tokens.specs.Answers.{texts}

-- one line only
pub same_line : (names : List (List ℕ)) (w : List ℕ) (a b : Option ℕ) → LineOf names w a → LineOf names w b → a ≡ b
same_line names w (Some j) (Some k) x y =
    ap Some (⊎_elim (λ e. e) (⊎_elim (λ l. absurd (y.first j l x.same)) (λ l. absurd (x.first k l y.same))) (cases_order j k))
same_line names w (Some j) None x y = absurd (y j x.counts x.there x.same)
same_line names w None (Some k) x y = absurd (x k y.counts y.there y.same)
same_line names w None None x y = refl

-- the first of sixteen that is the name, if one is
module _ (refs : List (Bor (List ℕ))) (w : List ℕ) (d : Bor (List ℕ)) where
  is_read : (i : ℕ) → i < length (take 16 refs) → get_or (texts refs) i [] ≡ (get_or (take 16 refs) i d).now
  is_read i there =
      let few : i < 16 = omega (arith, there, length-take 16 refs) in
      get_or-map (λ x. x.now) refs i d [] (omega (arith, there, length-take 16 refs)) ∙ ap (λ x. x.now) (sym (get_or-take 16 refs i d few))

  pub line_found : (r : Option ℕ) → MatchOption r (AllWithin (λ x. x.now ≢ w) (take 16 refs) 0 (length (take 16 refs))) (λ i. (i < length (take 16 refs)) × HoldsAt (λ x. x.now ≡ w) (take 16 refs) i × AllWithin (λ x. x.now ≢ w) (take 16 refs) 0 i) → LineOf (texts refs) w r
  line_found None none =
      λ k few there same. let here : k < length (take 16 refs) = omega (arith, few, there, length-take 16 refs, length-map refs (λ x. x.now)) in none k d (omega arith) here (sym (is_read k here) ∙ same)
  line_found (Some i) first =
      record {
        counts = omega (arith, first.0, length-take 16 refs);
        there = omega (arith, first.0, length-take 16 refs, length-map refs (λ x. x.now));
        same = is_read i first.0 ∙ first.1 d;
        first = λ j before same. first.2 j d (omega arith) before (sym (is_read j (omega (arith, before, first.0))) ∙ same);
      }
