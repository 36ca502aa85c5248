-- Writing that breaks off.
use Rattle.std.proofs.Common.{◌≡◌, ℕ, List, [], ◌++◌, Some, None, Err, Option, Result, IfSome, sym, ◌∙◌, subst}
use Rattle.std.specs.Io.KnownBytes.{Appends}
use Rattle.case_text.specs.declared.fault.BadLine.{BadLine}
use Rattle.case_text.specs.Packs.{Packed}
use Rattle.case_pack.specs.Running.{begun, PacksInto}

pub broken_off : {E : Type 0} (source old new : Option (List ℕ)) (before after text case bytes : List ℕ) (r : Result (Result (Unit {0}) BadLine) E) (e : E) → r ≡ Err e → before ≡ [] → IfSome source (λ xs. after ≡ before ++ xs) → text ≡ after → Packed text case → bytes ≡ case → (front : List ℕ) × (rest : List ℕ) × (bytes ≡ front ++ rest) × Appends old new front → IfSome source (λ xs. PacksInto xs old new r)
broken_off None old new before after text case bytes r e is none read same packed all h = tt
broken_off (Some xs) old new before after text case bytes r e is none read same packed all h =
    subst (PacksInto xs old new) (sym is) (begun case h.0 h.1 (subst (λ (v : List ℕ). Packed v case) (same ∙ read ∙ (λ i. none i ++ xs)) packed) (sym all ∙ h.2) h.3)
