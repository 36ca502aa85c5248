-- What a test of each number from one up to another says.
use Rattle.std.proofs.Common.{◌≡◌, ℕ, ◌-◌, ◌<◌, ◌≤◌, min, Bool, true, false, length, subst, sym, ◌∙◌, arith}
use Rattle.std.specs.Bool.{MatchBool}
use Rattle.std.specs.List.{range_with_len, AllWithin, HoldsAt}
use Rattle.std.proofs.lemmas.List.FromFn.{length-range_with_len, get_or-range_with_len}
use Rattle.grades.specs.Kinds.{Tells}

pub each_tested : (P : ℕ → Type 0) (from to end first n : ℕ) (b : Bool) → first ≡ min from (min to end) → n ≡ min to end - first → MatchBool b (AllWithin P (range_with_len first n) 0 (length (range_with_len first n))) ((k : ℕ) × (k < length (range_with_len first n)) × HoldsAt (λ t. P t → ⊥) (range_with_len first n) k) → Tells b ((t : ℕ) → from ≤ t → t < to → t < end → P t)
each_tested P from to end first n true s e h = λ t low high last.
    let size : length (range_with_len first n) ≡ n = length-range_with_len first n in
    let here : t - first < n = omega arith in
    let is : _ = get_or-range_with_len first n (t - first) 0 here in
    subst P (is ∙ omega arith) (h (t - first) 0 (omega arith) (omega arith))
each_tested P from to end first n false s e (k, less, fails) = λ h.
    let size : length (range_with_len first n) ≡ n = length-range_with_len first n in
    let here : k < n = omega arith in
    let is : _ = get_or-range_with_len first n k 0 here in
    fails 0 (subst P (sym is) (h _ (omega arith) (omega arith) (omega arith)))
