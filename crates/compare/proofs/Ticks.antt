-- What a test of all numbers below a bound says.
use Rattle.std.proofs.Common.{◌≡◌, ℕ, ◌<◌, Bool, true, false, length, subst, ◌∙◌, arith}
use Rattle.std.specs.Bool.{MatchBool}
use Rattle.std.specs.List.{range_with_len, AllWithin}
use Rattle.std.proofs.lemmas.List.FromFn.{length-range_with_len, get_or-range_with_len}

pub each_below : (P : ℕ → Type 0) (X : Type 0) (n : ℕ) (b : Bool) → MatchBool b (AllWithin P (range_with_len 0 n) 0 (length (range_with_len 0 n))) X → b ≡ true → (k : ℕ) → k < n → P k
each_below P X n true h e k less =
    let size : length (range_with_len 0 n) ≡ n = length-range_with_len 0 n in
    let is : _ = get_or-range_with_len 0 n k 0 less in
    subst P (is ∙ omega arith) (h k 0 (omega arith) (omega arith))
each_below P X n false h e k less = let z : ◌≡◌ {A = ℕ} 0 1 = cc in absurd (omega arith)
