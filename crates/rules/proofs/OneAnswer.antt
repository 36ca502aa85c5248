-- A text has one answer: one split into tokens, one derivation or one place at which there is none, and one chain of checks.
use Rattle.std.proofs.Common.{◌≡◌, ℕ, ◌+◌, ◌<◌, Bool, true, false, ltb, List, ◌++◌, length, take, drop, Err, sym, refl, ap, ◌∙◌, subst, append_assoc, arith, ltb-false, ltb-true}
use Rattle.std.proofs.lemmas.List.{take-append-drop, take-take}
use Rattle.tokens.specs.declared.token.Token.{Token}
use Rattle.tokens.specs.declared.fault.TokenFault.TheVariants.{Malformed}
use Rattle.tokens.proofs.OneWay.{one_split, one_place, never_both}
use Rattle.rules.specs.declared.fault.RuleFault.TheVariants as fault
use Rattle.rules.specs.Grammar.{expr, Phrase, Fails, phrase_tokens}
use Rattle.rules.specs.Texts.{Answer, place_in, checked, Parsed, no_grammar, derived, empty, long, no_token, parsed, OneRuleAnswer, OneFaultPlace}

-- what a longer beginning begins, a shorter one does too
shorter : (ts us : List Token) (i j : ℕ) (e : Phrase expr) → i < j → phrase_tokens e ≡ take j ts ++ us → (vs : List Token) × (phrase_tokens e ≡ take (i + 1) ts ++ vs)
shorter ts us i j e lt h =
    let back : take j ts ≡ take (i + 1) ts ++ drop (i + 1) (take j ts) = sym (take-append-drop (i + 1) (take j ts)) ∙ ap (λ (v : List Token). v ++ drop (i + 1) (take j ts)) (take-take (i + 1) j ts (omega arith)) in
    (drop (i + 1) (take j ts) ++ us, h ∙ ap (λ (v : List Token). v ++ us) back ∙ append_assoc (take (i + 1) ts) (drop (i + 1) (take j ts)) us)

never_before : (ts : List Token) (i j : ℕ) → Fails ts i → Fails ts j → i < j → ⊥
never_before ts i j f g lt =
    let b = g.begins in
    let s = shorter ts b.1 i j b.0 lt b.2 in
    f.ends b.0 s.0 (omega (arith, g.within)) s.1

pub one_fault : OneFaultPlace
one_fault ts i j f g =
    elim (ltb i j) as (λ (x : Bool). ltb i j ≡ x → i ≡ j) [
      | true ↦ λ h. absurd (never_before ts i j f g (ltb-true i j h))
      | false ↦ λ h.
          elim (ltb j i) as (λ (y : Bool). ltb j i ≡ y → i ≡ j) [
            | true ↦ λ k. absurd (never_before ts j i g f (ltb-true j i k))
            | false ↦ λ k. omega (arith, ltb-false i j h, ltb-false j i k)
          ] refl
    ] refl

one_parse : (ts : List Token) (place : ℕ → ℕ) (r s : Answer) → Parsed ts place r → Parsed ts place s → r ≡ s
one_parse ts place r s (no_grammar i f e) (no_grammar j g h) = e ∙ ap (λ (n : ℕ). Err (fault.Grammar (place n))) (one_fault ts i j f g) ∙ sym h
one_parse ts place r s (no_grammar i f e) (derived p d h) = absurd (f.none p (sym d.text))
one_parse ts place r s (derived p d e) (no_grammar j g h) = absurd (g.none p (sym d.text))
one_parse ts place r s (derived p d e) (derived q c h) = e ∙ ap (checked place) (c.one p d.text) ∙ sym h

pub one_answer : OneRuleAnswer
one_answer names text r s (empty z e) (empty y h) = e ∙ sym h
one_answer names text r s (empty z e) (long y h) = absurd (omega arith)
one_answer names text r s (empty z e) (no_token at n l k h) = absurd (omega arith)
one_answer names text r s (empty z e) (parsed ps ts n l k h) = absurd (omega arith)
one_answer names text r s (long z e) (empty y h) = absurd (omega arith)
one_answer names text r s (long z e) (long y h) = e ∙ sym h
one_answer names text r s (long z e) (no_token at n l k h) = absurd (omega arith)
one_answer names text r s (long z e) (parsed ps ts n l k h) = absurd (omega arith)
one_answer names text r s (no_token at n l k e) (empty y h) = absurd (omega arith)
one_answer names text r s (no_token at n l k e) (long y h) = absurd (omega arith)
one_answer names text r s (no_token at n l k e) (no_token bt m o j h) = e ∙ ap (λ (x : ℕ). Err (fault.Token (Malformed x))) (one_place names text at bt k j) ∙ sym h
one_answer names text r s (no_token at n l k e) (parsed ps ts m o j h) = absurd (never_both names text (ps, ts) at j k)
one_answer names text r s (parsed ps ts n l k e) (empty y h) = absurd (omega arith)
one_answer names text r s (parsed ps ts n l k e) (long y h) = absurd (omega arith)
one_answer names text r s (parsed ps ts n l k e) (no_token at m o j h) = absurd (never_both names text (ps, ts) at k j)
one_answer names text r s (parsed ps ts n l k e) (parsed qs us m o j h) =
    let same : ◌≡◌ {A = List ℕ × List Token} (ps, ts) (qs, us) = one_split names text (ps, ts) (qs, us) k j in
    one_parse us (place_in qs (length text)) r s (subst (λ (x : List ℕ × List Token). Parsed x.1 (place_in x.0 (length text)) r) same e) h
