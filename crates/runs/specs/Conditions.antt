-- What a call asks, each condition with the number of its refusal: the first that fails gives the answer.
use Rattle.std.specs.Prelude.{◌≡◌, ℕ, ◌⊎◌, List, [], ◌∷◌, Some, None, Option}

pub record Condition : Type 1 where
  pub number : ℕ
  pub holds : Type 0

abbrev pub asks : ℕ → Type 0 → Condition
asks n P = record { number = n; holds = P }

-- o is the number of the first condition that fails, or none
abbrev pub FirstFailing : List Condition → Option ℕ → Type 0
FirstFailing [] o = o ≡ None
FirstFailing (c ∷ cs) o = ((c.holds → ⊥) × (o ≡ Some c.number)) ⊎ (c.holds × FirstFailing cs o)

-- each condition holds
abbrev pub AllHold : List Condition → Type 0
AllHold [] = Unit {0}
AllHold (c ∷ cs) = c.holds × AllHold cs
