-- The input holds what it should, when one more byte comes.
use Rattle.std.proofs.Common.{◌≡◌, ℕ, Bool, true, false, cond, List, [], ◌∷◌, ◌++◌, take, sym, ap, ◌∙◌, subst, append-nil}
use Rattle.std.proofs.lemmas.Bool.{eq-eqb, ne_eqb}
use Rattle.rule_lines.specs.declared.front.Front.{Front}
use Rattle.rule_lines.specs.declared.names.Names.{Names}
use Rattle.rule_lines.specs.declared.input.Input.{Input}
use Rattle.rule_lines.specs.Lines.{before, behind, has}
use Rattle.rule_lines.specs.Kept.{held, NamesKept, Heard}
use Rattle.rule_lines.proofs.Fronts.{onward}
use Rattle.rule_lines.proofs.Splitting.{before_over, behind_over, has_over, before_on, behind_on, has_on, before_none, behind_none}

module _ (b : ℕ) (bytes : List ℕ) (input : Input) where
  pub heard_text : (text : Front 1025) → input.in_text ≡ true → held text ≡ take 1025 (held input.text ++ (b ∷ [])) → Heard bytes input → Heard (bytes ++ (b ∷ [])) (record { names = input.names; text = text; in_text = input.in_text })
  heard_text text t e h =
      let over : has 10 bytes ≡ true = sym h.over ∙ t in
      record {
        names = subst (λ (line : List ℕ). NamesKept line input.names) (sym (before_over 10 b bytes over)) h.names;
        text = e ∙ ap (λ (v : List ℕ). take 1025 (v ++ (b ∷ []))) h.text ∙ onward 1025 b (behind 10 bytes) ∙ ap (take 1025) (sym (behind_over 10 b bytes over));
        over = t ∙ sym (has_over 10 b bytes over);
      }

  module _ (t : input.in_text ≡ false) where
    pub heard_end : b ≡ 10 → Heard bytes input → Heard (bytes ++ (b ∷ [])) (record { names = input.names; text = input.text; in_text = true })
    heard_end e h =
        let on : has 10 bytes ≡ false = sym h.over ∙ t in
        let is = eq-eqb b 10 e in
        record {
          names = subst (λ (line : List ℕ). NamesKept line input.names) (before_none 10 bytes on ∙ sym (before_on 10 b bytes on ∙ ap (λ (x : Bool). bytes ++ cond x [] (b ∷ [])) is ∙ append-nil bytes)) h.names;
          text = h.text ∙ ap (take 1025) (behind_none 10 bytes on ∙ sym (behind_on 10 b bytes on));
          over = sym (has_on 10 b bytes on ∙ is);
        }

    pub heard_name : (names : Names) → (b ≡ 10 → ⊥) → ((line : List ℕ) → NamesKept line input.names → NamesKept (line ++ (b ∷ [])) names) → Heard bytes input → Heard (bytes ++ (b ∷ [])) (record { names = names; text = input.text; in_text = input.in_text })
    heard_name names ne more h =
        let on : has 10 bytes ≡ false = sym h.over ∙ t in
        let isnt = ne_eqb b 10 ne in
        record {
          names = subst (λ (line : List ℕ). NamesKept line names) (ap (λ (v : List ℕ). v ++ (b ∷ [])) (before_none 10 bytes on) ∙ sym (before_on 10 b bytes on ∙ ap (λ (x : Bool). bytes ++ cond x [] (b ∷ [])) isnt)) (more (before 10 bytes) h.names);
          text = h.text ∙ ap (take 1025) (behind_none 10 bytes on ∙ sym (behind_on 10 b bytes on));
          over = t ∙ sym (has_on 10 b bytes on ∙ isnt);
        }
