-- What the fields behind the rule answer, one by one.
use Rattle.std.proofs.Common.{◌≡◌, ℕ, ◌+◌, List, Some, Ok, Err, sym, refl, ap, ◌∙◌, subst}
use Rattle.cases.specs.declared.call.Call.{Call}
use Rattle.cases.specs.declared.call.Call.TheVariants.{Enter, Judge}
use Rattle.cases.specs.declared.fault.CaseFault.{CaseFault}
use Rattle.cases.specs.declared.fault.CaseFault.TheVariants.{BadField, Misplaced}
use Rattle.cases.specs.Fields.{Leads}
use Rattle.cases.specs.Contents.{Item, Says, Wrong}
use Rattle.cases.specs.Orders.{MayFollow}
use Rattle.cases.specs.Headings.{refusal}
use Rattle.cases.specs.Steps.{Steps, wrong, misplaced, step, call_item, Called}

pub follows : (c : Call) → MayFollow (call_item c)
follows (Enter e) = tt
follows (Judge t) = tt

module _ (tag : ℕ) (body : List ℕ) where
  pub wrong_call : (f : CaseFault) → Wrong tag body → f ≡ BadField → Called tag body (Err f)
  wrong_call f w e n bytes rest l = wrong l w (ap (λ (g : CaseFault). Err (refusal n g)) e)

  pub no_call : (i : Item) → Says tag body i → (MayFollow i → ⊥) → Called tag body (Err Misplaced)
  no_call i s off n bytes rest l = misplaced l s off refl

module _ (n field next tag : ℕ) (body bytes rest : List ℕ) (l : Leads bytes tag body rest) (here : field ≡ n) where
  pub stepped : (c : Call) → next ≡ field → Called tag body (Ok c) → Steps n bytes (Ok (Some (record { field = field; item = call_item c; next = next + 1; rest = rest })))
  stepped c on s =
      step l s (follows c) (ap (λ (i : ℕ). Ok (Some (record { field = i; item = call_item c; next = next + 1; rest = rest }))) here ∙ ap (λ (i : ℕ). Ok (Some (record { field = n; item = call_item c; next = i + 1; rest = rest }))) (on ∙ here))

  pub refused : (f : CaseFault) → Called tag body (Err f) → Steps n bytes (Err (refusal field f))
  refused f h = subst (λ (i : ℕ). Steps n bytes (Err (refusal i f))) (sym here) (h n bytes rest l)
