-- No condition fails exactly where each holds.
use Rattle.std.proofs.Common.{◌≡◌, ℕ, List, [], ◌∷◌, ◌++◌, Some, None, Option, sym, refl, ◌∙◌, inl, inr, arith}
use Rattle.runs.specs.Conditions.{Condition, AllHold, FirstFailing}

pub all_hold : (cs : List Condition) → FirstFailing cs None → AllHold cs
all_hold [] h = tt
all_hold (c ∷ cs) (inl h) = let e : Some c.number ≡ None = sym h.1 in let z : ◌≡◌ {A = ℕ} 0 1 = cc in absurd (omega arith)
all_hold (c ∷ cs) (inr h) = (h.0, all_hold cs h.1)

pub none_failing : (cs : List Condition) → AllHold cs → FirstFailing cs None
none_failing [] h = refl
none_failing (c ∷ cs) h = inr (h.0, none_failing cs h.1)

-- where each of the first conditions holds, those behind them decide
pub failing_behind : (cs ds : List Condition) (o : Option ℕ) → AllHold cs → FirstFailing ds o → FirstFailing (cs ++ ds) o
failing_behind [] ds o h k = k
failing_behind (c ∷ cs) ds o h k = inr (h.0, failing_behind cs ds o h.1 k)

-- one answer at most is the first that fails
pub one_failing : (cs : List Condition) (o p : Option ℕ) → FirstFailing cs o → FirstFailing cs p → o ≡ p
one_failing [] o p h k = h ∙ sym k
one_failing (c ∷ cs) o p (inl h) (inl k) = h.1 ∙ sym k.1
one_failing (c ∷ cs) o p (inl h) (inr k) = absurd (h.0 k.0)
one_failing (c ∷ cs) o p (inr h) (inl k) = absurd (k.0 h.0)
one_failing (c ∷ cs) o p (inr h) (inr k) = one_failing cs o p h.1 k.1

-- conditions that can be told one after the other have a first that fails, or none
abbrev pub AllTold : List Condition → Type 0
AllTold [] = Unit {0}
AllTold (c ∷ cs) = Dec c.holds × (c.holds → AllTold cs)

pub first_failing : (cs : List Condition) → AllTold cs → (o : Option ℕ) × FirstFailing cs o
first_failing [] d = (None, refl)
first_failing (c ∷ cs) d =
    elim d.0 [
      | yes h ↦ let r = first_failing cs (d.1 h) in (r.0, inr (h, r.1))
      | no h ↦ (Some c.number, inl (h, refl))
    ]
