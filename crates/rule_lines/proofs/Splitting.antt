-- How the parts of the input grow, byte by byte.
use Rattle.std.proofs.Common.{◌≡◌, ℕ, zero, suc, Bool, true, false, cond, eqb, List, [], ◌∷◌, ◌++◌, length, get_or, set, refl, ap, ◌∙◌, arith}
use Rattle.rule_lines.specs.Lines.{before, behind, has, later_parts, parts}

module _ (c b : ℕ) where
  -- behind the first c, a beginning stays as it is, and what is behind it grows
  pub before_over : (bs : List ℕ) → has c bs ≡ true → before c (bs ++ (b ∷ [])) ≡ before c bs
  before_over [] h = absurd (let z : ◌≡◌ {A = ℕ} 0 1 = cc in omega arith)
  before_over (x ∷ bs) h =
      elim (eqb x c) as (λ (t : Bool). cond t true (has c bs) ≡ true → cond t [] (x ∷ before c (bs ++ (b ∷ []))) ≡ cond t [] (x ∷ before c bs)) [
        | true ↦ λ k. refl
        | false ↦ λ k. ap (λ (v : List ℕ). x ∷ v) (before_over bs k)
      ] h

  pub behind_over : (bs : List ℕ) → has c bs ≡ true → behind c (bs ++ (b ∷ [])) ≡ behind c bs ++ (b ∷ [])
  behind_over [] h = absurd (let z : ◌≡◌ {A = ℕ} 0 1 = cc in omega arith)
  behind_over (x ∷ bs) h =
      elim (eqb x c) as (λ (t : Bool). cond t true (has c bs) ≡ true → cond t (bs ++ (b ∷ [])) (behind c (bs ++ (b ∷ []))) ≡ cond t bs (behind c bs) ++ (b ∷ [])) [
        | true ↦ λ k. refl
        | false ↦ λ k. behind_over bs k
      ] h

  pub has_over : (bs : List ℕ) → has c bs ≡ true → has c (bs ++ (b ∷ [])) ≡ true
  has_over [] h = absurd (let z : ◌≡◌ {A = ℕ} 0 1 = cc in omega arith)
  has_over (x ∷ bs) h =
      elim (eqb x c) as (λ (t : Bool). cond t true (has c bs) ≡ true → cond t true (has c (bs ++ (b ∷ []))) ≡ true) [
        | true ↦ λ k. refl
        | false ↦ λ k. has_over bs k
      ] h

  -- with no c before it, the byte decides
  pub before_on : (bs : List ℕ) → has c bs ≡ false → before c (bs ++ (b ∷ [])) ≡ bs ++ cond (eqb b c) [] (b ∷ [])
  before_on [] h = refl
  before_on (x ∷ bs) h =
      elim (eqb x c) as (λ (t : Bool). cond t true (has c bs) ≡ false → cond t [] (x ∷ before c (bs ++ (b ∷ []))) ≡ x ∷ (bs ++ cond (eqb b c) [] (b ∷ []))) [
        | true ↦ λ k. absurd (let z : ◌≡◌ {A = ℕ} 0 1 = cc in omega arith)
        | false ↦ λ k. ap (λ (v : List ℕ). x ∷ v) (before_on bs k)
      ] h

  pub behind_on : (bs : List ℕ) → has c bs ≡ false → behind c (bs ++ (b ∷ [])) ≡ []
  behind_on [] h = elim (eqb b c) as (λ (t : Bool). cond {A = List ℕ} t [] [] ≡ []) [ true ↦ refl | false ↦ refl ]
  behind_on (x ∷ bs) h =
      elim (eqb x c) as (λ (t : Bool). cond t true (has c bs) ≡ false → cond t (bs ++ (b ∷ [])) (behind c (bs ++ (b ∷ []))) ≡ []) [
        | true ↦ λ k. absurd (let z : ◌≡◌ {A = ℕ} 0 1 = cc in omega arith)
        | false ↦ λ k. behind_on bs k
      ] h

  pub has_on : (bs : List ℕ) → has c bs ≡ false → has c (bs ++ (b ∷ [])) ≡ eqb b c
  has_on [] h = elim (eqb b c) as (λ (t : Bool). cond t true false ≡ t) [ true ↦ refl | false ↦ refl ]
  has_on (x ∷ bs) h =
      elim (eqb x c) as (λ (t : Bool). cond t true (has c bs) ≡ false → cond t true (has c (bs ++ (b ∷ []))) ≡ eqb b c) [
        | true ↦ λ k. absurd (let z : ◌≡◌ {A = ℕ} 0 1 = cc in omega arith)
        | false ↦ λ k. has_on bs k
      ] h

-- with no c in it, all stands before the first c, and nothing behind it
pub before_none : (c : ℕ) (bs : List ℕ) → has c bs ≡ false → before c bs ≡ bs
before_none c [] h = refl
before_none c (x ∷ bs) h =
    elim (eqb x c) as (λ (t : Bool). cond t true (has c bs) ≡ false → cond t [] (x ∷ before c bs) ≡ x ∷ bs) [
      | true ↦ λ k. absurd (let z : ◌≡◌ {A = ℕ} 0 1 = cc in omega arith)
      | false ↦ λ k. ap (λ (v : List ℕ). x ∷ v) (before_none c bs k)
    ] h

pub behind_none : (c : ℕ) (bs : List ℕ) → has c bs ≡ false → behind c bs ≡ []
behind_none c [] h = refl
behind_none c (x ∷ bs) h =
    elim (eqb x c) as (λ (t : Bool). cond t true (has c bs) ≡ false → cond t bs (behind c bs) ≡ []) [
      | true ↦ λ k. absurd (let z : ◌≡◌ {A = ℕ} 0 1 = cc in omega arith)
      | false ↦ λ k. behind_none c bs k
    ] h

-- a space begins a part
before_space : (line : List ℕ) → before 32 (line ++ (32 ∷ [])) ≡ before 32 line
before_space [] = refl
before_space (x ∷ line) = ap (λ (v : List ℕ). cond (eqb x 32) [] (x ∷ v)) (before_space line)

later_space : (line : List ℕ) → later_parts (line ++ (32 ∷ [])) ≡ later_parts line ++ ([] ∷ [])
later_space [] = refl
later_space (x ∷ line) =
    elim (eqb x 32) as (λ (t : Bool). cond t (before 32 (line ++ (32 ∷ [])) ∷ later_parts (line ++ (32 ∷ []))) (later_parts (line ++ (32 ∷ []))) ≡ cond t (before 32 line ∷ later_parts line) (later_parts line) ++ ([] ∷ [])) [
      | true ↦ λ i. before_space line i ∷ later_space line i
      | false ↦ later_space line
    ]

pub space : (line : List ℕ) → parts (line ++ (32 ∷ [])) ≡ parts line ++ ([] ∷ [])
space line = λ i. before_space line i ∷ later_space line i

-- any other byte goes behind the last part
grown : ℕ → List (List ℕ) → ℕ → List (List ℕ)
grown b ps n = set ps n (get_or ps n [] ++ (b ∷ []))

onto : ℕ → List (List ℕ) → List (List ℕ)
onto x [] = []
onto x (p ∷ ps) = (x ∷ p) ∷ ps

onto_grown : (x b : ℕ) (p : List ℕ) (ps : List (List ℕ)) (n : ℕ) → onto x (grown b (p ∷ ps) n) ≡ grown b ((x ∷ p) ∷ ps) n
unfolding onto grown
onto_grown x b p ps zero = refl
onto_grown x b p ps (suc n) = refl

pub other : (b : ℕ) → eqb b 32 ≡ false → (line : List ℕ) → parts (line ++ (b ∷ [])) ≡ set (parts line) (length (later_parts line)) (get_or (parts line) (length (later_parts line)) [] ++ (b ∷ []))
unfolding onto grown
other b h [] = ap (λ (t : Bool). cond t [] (b ∷ []) ∷ cond t ([] ∷ []) []) h
other b h (x ∷ line) =
    elim (eqb x 32) as (λ (t : Bool). ◌≡◌ {A = List (List ℕ)} (cond t [] (x ∷ before 32 (line ++ (b ∷ []))) ∷ cond t (parts (line ++ (b ∷ []))) (later_parts (line ++ (b ∷ [])))) (grown b (cond t [] (x ∷ before 32 line) ∷ cond t (parts line) (later_parts line)) (length (cond t (parts line) (later_parts line))))) [
      | true ↦ ap (λ (v : List (List ℕ)). [] ∷ v) (other b h line)
      | false ↦ ap (onto x) (other b h line) ∙ onto_grown x b (before 32 line) (later_parts line) (length (later_parts line))
    ]
