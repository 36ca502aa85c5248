-- What is known of a fact about ticks. Assumes nothing.
use Rattle.std.specs.Prelude.{◌≡◌, ℕ, zero, suc, ◌-◌, ◌<◌, ◌≤◌, min, Bool, true, false, ◌||◌, Some, None, Option, ◌≢◌}
use Rattle.grades.specs.Kinds.{Tells}
use Rattle.pieces.specs.Ticks.{Before, Later}

-- f holds at some tick below n
abbrev pub any : (ℕ → Bool) → ℕ → Bool
any f zero = false
any f (suc n) = f n || any f n

-- from u up to o, b says whether P holds
abbrev pub Known : (ℕ → Type 0) → ℕ → Bool → Option ℕ → Type 0
Known P u b o = Later u o × ((w : ℕ) → u ≤ w → Before o w → Tells b (P w))

abbrev pub clip : Option ℕ → ℕ → ℕ
clip None e = e
clip (Some n) e = min n e

-- r is the first tick from s on, and before e, at which f is v; or it is e
pub record FirstFrom (f : ℕ → Bool) (v : Bool) (s e r : ℕ) : Type 0 where
  pub from : s ≤ r
  pub to : r ≤ e
  pub none : (k : ℕ) → s ≤ k → k < r → f k ≢ v
  pub here : r < e → f r ≡ v

-- r is the first tick from s on such that f is no from r up to e, which is not counted
pub record Clear (f : ℕ → Bool) (s e r : ℕ) : Type 0 where
  pub from : s ≤ r
  pub to : r ≤ e
  pub none : (k : ℕ) → r ≤ k → k < e → f k ≡ false
  pub stop : s < r → f (r - 1) ≡ true
