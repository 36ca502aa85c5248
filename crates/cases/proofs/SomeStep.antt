-- Each field behind the rule has an answer.
use Rattle.std.proofs.Common.{◌≡◌, ℕ, ◌+◌, ◌*◌, ◌<◌, ◌≤◌, List, [], ◌∷◌, length, get_or, Some, None, Ok, Err, refl, ap, arith}
use Rattle.std.proofs.lemmas.List.{length-drop, length-append}
use native.Mathlib.Decide.{dec_lt, dec_le, ℕ_discrete}
use Rattle.cases.specs.declared.fault.CaseRefusal.{CaseRefusal}
use Rattle.cases.specs.Fields.{Leads, CutShort}
use Rattle.cases.specs.Contents.{Item, name, rule, entry, tick, Says, a_name, a_rule, an_entry, a_tick, Wrong}
use Rattle.cases.specs.Orders.{MayFollow}
use Rattle.cases.specs.Steps.{Steps, ended, cut, wrong, misplaced, step}
use Rattle.cases.proofs.Splits.{leads, no_front, no_body}

data Front (bytes : List ℕ) : Type 0 where
  none : bytes ≡ [] → Front bytes
  short : CutShort bytes → Front bytes
  whole : {tag : ℕ} {body rest : List ℕ} → Leads bytes tag body rest → Front bytes

front : (bytes : List ℕ) → Front bytes
front [] = none refl
front (b ∷ bs) =
    let size : ℕ = get_or (b ∷ bs) 1 0 * 256 + get_or (b ∷ bs) 2 0 in
    elim (dec_lt (length (b ∷ bs)) 3) [
      | yes few ↦ short (no_front (b ∷ bs) (omega arith) few)
      | no many ↦ elim (dec_lt (length (b ∷ bs)) (size + 3)) [
        | yes few ↦ short (no_body (b ∷ bs) size (omega arith) refl few)
        | no fits ↦ whole (leads (b ∷ bs) size (omega arith) refl (omega (arith, length-drop 3 (b ∷ bs))))
      ]
    ]

module _ (tag : ℕ) (body : List ℕ) where
  data Said : Type 0 where
    says : (i : Item) → Says tag body i → Said
    not_said : Wrong tag body → Said

  none_of : (tag ≡ 0x4C → 0 < length body → length body ≤ 8 → ⊥) → (tag ≡ 0x52 → ⊥) → (tag ≡ 0x45 → length body ≡ 17 → ⊥) → (tag ≡ 0x54 → length body ≡ 4 → ⊥) → Said
  none_of n r e t = not_said by
    where
      by : Wrong tag body
      by i (a_name is some few w) = n is some few
      by i (a_rule is w) = r is
      by i (an_entry is long w) = e is long
      by i (a_tick is long w) = t is long

  said : Said
  said =
      elim (ℕ_discrete tag 0x4C) [
        | yes l ↦ elim (dec_lt 0 (length body)) [
          | yes some ↦ elim (dec_le (length body) 8) [
            | yes few ↦ says (name body) (a_name l some few refl)
            | no n ↦ none_of (λ a b c. n c) (λ a. omega (arith, a, l)) (λ a b. omega (arith, a, l)) (λ a b. omega (arith, a, l))
          ]
          | no n ↦ none_of (λ a b c. n b) (λ a. omega (arith, a, l)) (λ a b. omega (arith, a, l)) (λ a b. omega (arith, a, l))
        ]
        | no n ↦ elim (ℕ_discrete tag 0x52) [
          | yes is ↦ says (rule body) (a_rule is refl)
          | no r ↦ elim (ℕ_discrete tag 0x45) [
            | yes is ↦ elim (ℕ_discrete (length body) 17) [
              | yes long ↦ says _ (an_entry is long refl)
              | no e ↦ none_of (λ a b c. n a) r (λ a b. e b) (λ a b. omega (arith, a, is))
            ]
            | no e ↦ elim (ℕ_discrete tag 0x54) [
              | yes is ↦ elim (ℕ_discrete (length body) 4) [
                | yes long ↦ says _ (a_tick is long refl)
                | no t ↦ none_of (λ a b c. n a) r (λ a b. e a) (λ a b. t b)
              ]
              | no t ↦ none_of (λ a b c. n a) r (λ a b. e a) (λ a b. t a)
            ]
          ]
        ]
      ]

-- the case ends, the field is refused, or it is an entry or a tick and fewer bytes are left
pub data Found (n : ℕ) (bytes : List ℕ) : Type 0 where
  ends : Steps n bytes (Ok None) → Found n bytes
  refuses : (e : CaseRefusal) → Steps n bytes (Err e) → Found n bytes
  goes : (i : Item) (rest : List ℕ) → MayFollow i → length rest < length bytes → Steps n bytes (Ok (Some (record { field = n; item = i; next = n + 1; rest = rest }))) → Found n bytes

pub found : (n : ℕ) (bytes : List ℕ) → Found n bytes
found n bytes = at (front bytes)
  where
    at : Front bytes → Found n bytes
    at (none z) = ends (ended z refl)
    at (short c) = refuses _ (cut c refl)
    at (whole {tag} {body} {rest} l) = by (said tag body)
      where
        fewer : length rest < length bytes
        fewer = omega (arith, ap length l.whole, length-append body rest)

        by : Said tag body → Found n bytes
        by (not_said w) = refuses _ (wrong l w refl)
        by (says (name w) s) = refuses _ (misplaced l s (λ z. z) refl)
        by (says (rule t) s) = refuses _ (misplaced l s (λ z. z) refl)
        by (says (entry e) s) = goes (entry e) rest tt fewer (step l s tt refl)
        by (says (tick t) s) = goes (tick t) rest tt fewer (step l s tt refl)
