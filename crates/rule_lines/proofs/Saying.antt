-- The input is put together of its names and its text, in one way only.
use Rattle.std.proofs.Common.{◌≡◌, ℕ, ◌<◌, Bool, true, false, cond, eqb, List, [], ◌∷◌, ◌++◌, length, sym, refl, ap, ◌∙◌, subst, inl, inr, ⊎_elim, arith}
use Rattle.std.specs.List.{AllByRecursion}
use Rattle.std.proofs.lemmas.Bool.{eqb-true, eqb-false, ne_eqb, cases_Bool}
use Rattle.tokens.specs.Bytes.{Without}
use Rattle.rule_lines.specs.Lines.{before, behind, has, later_parts, parts, names_in, text_in, spaced, InputSays}
use Rattle.rule_lines.proofs.Splitting.{before_none, behind_none}

module _ (c : ℕ) where
  clean : (bs : List ℕ) → Without c (before c bs)
  clean [] = tt
  clean (b ∷ bs) =
      elim (eqb b c) as (λ (t : Bool). eqb b c ≡ t → Without c (cond t [] (b ∷ before c bs))) [
        | true ↦ λ h. tt
        | false ↦ λ h. (eqb-false b c h, clean bs)
      ] refl

  rejoined : (bs : List ℕ) → has c bs ≡ true → bs ≡ before c bs ++ (c ∷ behind c bs)
  rejoined [] h = absurd (let z : ◌≡◌ {A = ℕ} 0 1 = cc in omega arith)
  rejoined (b ∷ bs) h =
      elim (eqb b c) as (λ (t : Bool). eqb b c ≡ t → cond t true (has c bs) ≡ true → b ∷ bs ≡ cond t [] (b ∷ before c bs) ++ (c ∷ cond t bs (behind c bs))) [
        | true ↦ λ e k. ap (λ (x : ℕ). x ∷ bs) (eqb-true b c e)
        | false ↦ λ e k. ap (λ (v : List ℕ). b ∷ v) (rejoined bs k)
      ] refl h

  -- where no c stands before it, the c is the first
  before_first : (bs rest : List ℕ) → Without c bs → before c (bs ++ (c ∷ rest)) ≡ bs
  before_first [] rest h = elim (eqb c c) as (λ (t : Bool). eqb c c ≡ t → cond t [] (c ∷ before c rest) ≡ []) [ true ↦ λ e. refl | false ↦ λ e. absurd (eqb-false c c e refl) ] refl
  before_first (b ∷ bs) rest h = ap (λ (t : Bool). cond t [] (b ∷ before c (bs ++ (c ∷ rest)))) (ne_eqb b c h.0) ∙ ap (λ (v : List ℕ). b ∷ v) (before_first bs rest h.1)

  behind_first : (bs rest : List ℕ) → Without c bs → behind c (bs ++ (c ∷ rest)) ≡ rest
  behind_first [] rest h = elim (eqb c c) as (λ (t : Bool). eqb c c ≡ t → cond t rest (behind c rest) ≡ rest) [ true ↦ λ e. refl | false ↦ λ e. absurd (eqb-false c c e refl) ] refl
  behind_first (b ∷ bs) rest h = ap (λ (t : Bool). cond t (bs ++ (c ∷ rest)) (behind c (bs ++ (c ∷ rest)))) (ne_eqb b c h.0) ∙ behind_first bs rest h.1

  has_none : (bs : List ℕ) → Without c bs → has c bs ≡ false
  has_none [] h = refl
  has_none (b ∷ bs) h = ap (λ (t : Bool). cond t true (has c bs)) (ne_eqb b c h.0) ∙ has_none bs h.1

-- the parts, with spaces between, are the line
spaced_onto : (b : ℕ) (p : List ℕ) (ps : List (List ℕ)) → spaced ((b ∷ p) ∷ ps) ≡ b ∷ spaced (p ∷ ps)
spaced_onto b p [] = refl
spaced_onto b p (q ∷ ps) = refl

spaced_parts : (line : List ℕ) → spaced (parts line) ≡ line
spaced_parts [] = refl
spaced_parts (b ∷ line) =
    elim (eqb b 32) as (λ (t : Bool). eqb b 32 ≡ t → spaced (cond t [] (b ∷ before 32 line) ∷ cond t (parts line) (later_parts line)) ≡ b ∷ line) [
      | true ↦ λ e. λ i. sym (eqb-true b 32 e) i ∷ spaced_parts line i
      | false ↦ λ e. spaced_onto b (before 32 line) (later_parts line) ∙ ap (λ (v : List ℕ). b ∷ v) (spaced_parts line)
    ] refl

clean_later : (line : List ℕ) → AllByRecursion (Without 32) (later_parts line)
clean_later [] = tt
clean_later (b ∷ line) = elim (eqb b 32) as (λ (t : Bool). AllByRecursion (Without 32) (cond t (parts line) (later_parts line))) [ true ↦ (clean 32 line, clean_later line) | false ↦ clean_later line ]

pub says : (bytes : List ℕ) → InputSays bytes (names_in bytes) (text_in bytes)
says bytes =
    let line = before 10 bytes in
    let put = spaced_parts line in
    record {
      whole = ⊎_elim
          (λ h. inl (rejoined 10 bytes h ∙ ap (λ (v : List ℕ). v ++ (10 ∷ behind 10 bytes)) (sym put)))
          (λ h. inr (sym (put ∙ before_none 10 bytes h), behind_none 10 bytes h))
          (cases_Bool (has 10 bytes));
      one_line = subst (Without 10) (sym put) (clean 10 bytes);
      no_space = (clean 32 line, clean_later line);
      some_name = omega arith;
    }

-- a name goes on in front of the first part
onto : ℕ → List (List ℕ) → List (List ℕ)
onto b [] = []
onto b (p ∷ ps) = (b ∷ p) ∷ ps

parts_onto : (b : ℕ) (line : List ℕ) → (b ≡ 32 → ⊥) → parts (b ∷ line) ≡ onto b (parts line)
unfolding onto
parts_onto b line ne = ap (λ (t : Bool). cond t [] (b ∷ before 32 line) ∷ cond t (parts line) (later_parts line)) (ne_eqb b 32 ne)

parts_one : (n : List ℕ) → Without 32 n → parts n ≡ n ∷ []
unfolding onto
parts_one [] h = refl
parts_one (b ∷ n) h = parts_onto b n h.0 ∙ ap (onto b) (parts_one n h.1)

parts_behind : (n rest : List ℕ) → Without 32 n → parts (n ++ (32 ∷ rest)) ≡ n ∷ parts rest
unfolding onto
parts_behind [] rest h = refl
parts_behind (b ∷ n) rest h = parts_onto b (n ++ (32 ∷ rest)) h.0 ∙ ap (onto b) (parts_behind n rest h.1)

parts_spaced : (names : List (List ℕ)) → 0 < length names → AllByRecursion (Without 32) names → parts (spaced names) ≡ names
parts_spaced [] some h = absurd (omega arith)
parts_spaced (n ∷ []) some h = parts_one n h.0
parts_spaced (n ∷ (m ∷ ns)) some h = parts_behind n (spaced (m ∷ ns)) h.0 ∙ ap (λ (v : List (List ℕ)). n ∷ v) (parts_spaced (m ∷ ns) (omega arith) h.1)

module _ (bytes : List ℕ) (names : List (List ℕ)) (text : List ℕ) (h : InputSays bytes names text) where
  line_is : before 10 bytes ≡ spaced names
  line_is =
      ⊎_elim
      (λ e. ap (before 10) e ∙ before_first 10 (spaced names) text h.one_line)
      (λ e. ap (before 10) e.0 ∙ before_none 10 (spaced names) (has_none 10 (spaced names) h.one_line))
      h.whole

  pub one_names : names_in bytes ≡ names
  one_names = ap parts line_is ∙ parts_spaced names h.some_name h.no_space

  pub one_text : text_in bytes ≡ text
  one_text =
      ⊎_elim
      (λ e. ap (behind 10) e ∙ behind_first 10 (spaced names) text h.one_line)
      (λ e. ap (behind 10) e.0 ∙ behind_none 10 (spaced names) (has_none 10 (spaced names) h.one_line) ∙ sym e.1)
      h.whole
