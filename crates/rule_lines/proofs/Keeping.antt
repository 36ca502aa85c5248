-- The cells keep what they should, when one more byte comes.
use Rattle.std.proofs.Common.{◌≡◌, ℕ, zero, suc, ◌+◌, ◌<◌, ◌≤◌, false, eqb, List, [], ◌∷◌, ◌++◌, map, length, get_or, take, set, sym, refl, ap, ◌∙◌, subst, ⊎_elim, arith, Bor}
use Rattle.tokens.specs.Answers.{texts}
use Rattle.std.proofs.lemmas.List.{get_or-set_same, get_or-set_other, length_push, length-set, length-map, map-set, get_or-map}
use Rattle.std.proofs.lemmas.Bool.{cases_eq, ne_eqb}
use Rattle.rule_lines.specs.Lines.{later_parts, parts}
use Rattle.rule_lines.specs.Kept.{held, PartsCut, NamesKept}
use Rattle.rule_lines.specs.declared.front.Front.{Front}
use Rattle.rule_lines.specs.declared.names.Names.{Names}
use Rattle.rule_lines.proofs.Fronts.{onward}
use Rattle.rule_lines.proofs.Splitting.{space, other}

-- an empty part at the end is as good as none
get_or_nil_more : (ps : List (List ℕ)) (k : ℕ) → get_or (ps ++ ([] ∷ [])) k [] ≡ get_or ps k []
get_or_nil_more [] zero = refl
get_or_nil_more [] (suc k) = refl
get_or_nil_more (p ∷ ps) zero = refl
get_or_nil_more (p ∷ ps) (suc k) = get_or_nil_more ps k

pub cut_space : (line : List ℕ) (cells : List (List ℕ)) → PartsCut line cells → PartsCut (line ++ (32 ∷ [])) cells
cut_space line cells h k few =
    h k few ∙ sym (ap (take 9) (ap (λ (ps : List (List ℕ)). get_or ps k []) (space line) ∙ get_or_nil_more (parts line) k))

module _ (b : ℕ) (plain : eqb b 32 ≡ false) (line : List ℕ) (n : ℕ) (last : length (later_parts line) ≡ n) where
  -- the part n grows
  part_here : get_or (parts (line ++ (b ∷ []))) n [] ≡ get_or (parts line) n [] ++ (b ∷ [])
  part_here =
      ap (λ (ps : List (List ℕ)). get_or ps n []) (other b plain line) ∙
      subst (λ (m : ℕ). get_or (set (parts line) (length (later_parts line)) (get_or (parts line) (length (later_parts line)) [] ++ (b ∷ []))) m [] ≡ get_or (parts line) m [] ++ (b ∷ [])) last
      (get_or-set_same (parts line) (length (later_parts line)) _ [] (omega arith))

  part_elsewhere : (k : ℕ) → (k ≡ n → ⊥) → get_or (parts (line ++ (b ∷ []))) k [] ≡ get_or (parts line) k []
  part_elsewhere k ne =
      ap (λ (ps : List (List ℕ)). get_or ps k []) (other b plain line) ∙ get_or-set_other (parts line) (length (later_parts line)) k _ [] (λ e. ne (e ∙ last))

  pub cut_push : (cells : List (List ℕ)) → length cells ≡ 16 → n < 16 → PartsCut line cells → PartsCut (line ++ (b ∷ [])) (set cells n (take 9 (get_or cells n [] ++ (b ∷ []))))
  cut_push cells all few h k below_16 =
      ⊎_elim
      (λ e. subst (λ (m : ℕ). get_or (set cells n (take 9 (get_or cells n [] ++ (b ∷ [])))) m [] ≡ take 9 (get_or (parts (line ++ (b ∷ []))) m [])) (sym e)
      (get_or-set_same cells n _ [] (omega arith) ∙ ap (λ (v : List ℕ). take 9 (v ++ (b ∷ []))) (h n few) ∙ onward 9 b (get_or (parts line) n []) ∙ ap (take 9) (sym part_here)))
      (λ ne. get_or-set_other cells n k _ [] ne ∙ h k below_16 ∙ ap (take 9) (sym (part_elsewhere k ne)))
      (cases_eq k n)

  pub cut_full : (cells : List (List ℕ)) → 16 ≤ n → PartsCut line cells → PartsCut (line ++ (b ∷ [])) cells
  cut_full cells many h k below_16 = h k below_16 ∙ ap (take 9) (sym (part_elsewhere k (λ e. omega arith)))

  pub last_same : length (later_parts (line ++ (b ∷ []))) ≡ n
  last_same = omega (arith, last, ap length (other b plain line), length-set (parts line) (length (later_parts line)) (get_or (parts line) (length (later_parts line)) [] ++ (b ∷ [])))

pub last_more : (line : List ℕ) → length (later_parts (line ++ (32 ∷ []))) ≡ length (later_parts line) + 1
last_more line = omega (arith, ap length (space line), length_push (parts line) [])

-- the same of the names as they stand in memory
module _ (b : ℕ) (line : List ℕ) (names : Names) where
  pub kept_full : 16 ≤ names.ended → NamesKept line names → NamesKept (line ++ (b ∷ [])) names
  kept_full many h =
      ⊎_elim
      (λ e. subst (λ (x : ℕ). NamesKept (line ++ (x ∷ [])) names) (sym e) (record { cut = cut_space line (map held names.parts) h.cut; ended = omega (arith, h.ended, last_more line) }))
      (λ ne. record { cut = cut_full b (ne_eqb b 32 ne) line (length (later_parts line)) refl (map held names.parts) (omega (arith, h.ended)) h.cut; ended = omega (arith, h.ended, last_same b (ne_eqb b 32 ne) line (length (later_parts line)) refl) })
      (cases_eq b 32)

  pub kept_space : b ≡ 32 → names.ended < 16 → NamesKept line names → NamesKept (line ++ (b ∷ [])) (record { parts = names.parts; ended = names.ended + 1 })
  kept_space e few h =
      subst (λ (x : ℕ). NamesKept (line ++ (x ∷ [])) (record { parts = names.parts; ended = names.ended + 1 })) (sym e)
      (record { cut = cut_space line (map held names.parts) h.cut; ended = omega (arith, h.ended, last_more line) })

  pub kept_push : (f d : Front 9) → (b ≡ 32 → ⊥) → names.ended < 16 → length names.parts ≡ 16 → held f ≡ take 9 (held (get_or names.parts names.ended d) ++ (b ∷ [])) → NamesKept line names → NamesKept (line ++ (b ∷ [])) (record { parts = set names.parts names.ended f; ended = names.ended })
  kept_push f d ne few all is h =
      let here = get_or-map held names.parts names.ended d [] (omega arith) in
      let last : length (later_parts line) ≡ names.ended = omega (arith, h.ended) in
      let plain = ne_eqb b 32 ne in
      record {
        cut = subst (PartsCut (line ++ (b ∷ []))) (sym (map-set held names.parts names.ended f ∙ ap (set (map held names.parts) names.ended) (is ∙ ap (λ (v : List ℕ). take 9 (v ++ (b ∷ []))) (sym here)))) (cut_push b plain line names.ended last (map held names.parts) (length-map names.parts held ∙ all) few h.cut);
        ended = omega (arith, h.ended, last_same b plain line names.ended last);
      }

-- the parts are listed one by one
pub listed : (refs : List (Bor (Front 9))) (lists : List (Bor (List ℕ))) → length lists ≡ length refs → ((i : ℕ) (d : Bor (Front 9)) (e : Bor (List ℕ)) → i < length refs → (get_or lists i e).now ≡ held (get_or refs i d).now) → texts lists ≡ map held (map (λ r. r.now) refs)
listed [] [] long each = refl
listed [] (l ∷ lists) long each = absurd (omega arith)
listed (r ∷ refs) [] long each = absurd (omega arith)
listed (r ∷ refs) (l ∷ lists) long each = λ i. each 0 r l (omega arith) i ∷ listed refs lists (omega arith) (λ k d e h. each (suc k) d e (omega arith)) i
