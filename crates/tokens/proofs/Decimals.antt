-- The number that a run of digits writes.
use Rattle.std.proofs.Common.{◌≡◌, ℕ, ◌+◌, ◌-◌, ◌*◌, ◌^◌, ◌<◌, ◌≤◌, List, [], ◌∷◌, ◌++◌, length, get_or, take, sym, ap, subst, ◌∙◌, mul_assoc, pow-suc, arith, rules}
use Rattle.std.specs.List.{AllByRecursion}
use Rattle.std.proofs.lemmas.List.{take_more, length_push, length-take}
use Rattle.std.proofs.ByRecursion.{All-push}
use Rattle.std.proofs.lemmas.Str.Parse.{IsNumeralModel, numerals_by_weight, digits_value_short}
use Rattle.tokens.specs.Words.{Digit, number_written}

own : IsNumeralModel (AllByRecursion Digit) number_written
own = numerals_by_weight _ (search rules) number_written (search rules)

pub decimal_below : (ds : List ℕ) (k : ℕ) → AllByRecursion Digit ds → length ds ≤ k → number_written ds < 10 ^ k
decimal_below ds k all short = digits_value_short own ds k all short

decimal_push : (ds : List ℕ) (d : ℕ) → number_written (ds ++ d ∷ []) ≡ number_written ds * 10 + (d - 48)
decimal_push [] d = omega arith
decimal_push (x ∷ ds) d =
    let more : 10 ^ length (ds ++ d ∷ []) ≡ 10 ^ length ds * 10 = ap (λ n. 10 ^ n) (length_push ds d ∙ omega arith) ∙ pow-suc 10 (length ds) in
    let first : (x - 48) * 10 ^ length (ds ++ d ∷ []) ≡ (x - 48) * 10 ^ length ds * 10 = ap (λ n. (x - 48) * n) more ∙ sym (mul_assoc (x - 48) (10 ^ length ds) 10) in
    omega (arith, first, decimal_push ds d)

pub decimal_more : (ds : List ℕ) (i : ℕ) → i < length ds → number_written (take (i + 1) ds) ≡ number_written (take i ds) * 10 + (get_or ds i 0 - 48)
decimal_more ds i h = ap number_written (take_more ds i 0 h) ∙ decimal_push (take i ds) (get_or ds i 0)

-- the digits so far and one more
module _ (ds : List ℕ) (i : ℕ) (there : i < length ds) (all : AllByRecursion Digit (take i ds)) (digit : Digit (get_or ds i 0)) where
  pub digits_more : AllByRecursion Digit (take (i + 1) ds)
  digits_more = subst (AllByRecursion Digit) (sym (take_more ds i 0 there)) (All-push Digit _ _ all digit)

  pub value_more : (v : ℕ) → v ≡ number_written (take i ds) → v * 10 + (get_or ds i 0 - 48) ≡ number_written (take (i + 1) ds)
  value_more v is = ap (λ n. n * 10 + (get_or ds i 0 - 48)) is ∙ sym (decimal_more ds i there)

  pub value_fits : (v : ℕ) → v ≡ number_written (take i ds) → length ds ≤ 19 → v * 10 + (get_or ds i 0 - 48) < 10 ^ 19
  value_fits v is few = subst (λ n. n < 10 ^ 19) (sym (value_more v is)) (decimal_below (take (i + 1) ds) 19 digits_more (simp length-take (omega arith)))
