-- The first word of some bytes, what stands behind it, and their words.
use Rattle.std.proofs.Common.{◌≡◌, ℕ, suc, ◌+◌, ◌-◌, ◌<◌, Bool, true, false, cond, not, one-add, List, [], ◌∷◌, length, take, drop, take_while, filter, sym, refl, ap, ◌∙◌, arith}
use Rattle.std.specs.List.{prefix_len, slice_split, onto_first}
use Rattle.std.proofs.lemmas.List.{take_rest}
use Rattle.std.proofs.lemmas.List.Splits.{slice_split-cons_yes, slice_split-cons_no}
use Rattle.case_text.specs.Pieces.{gap_byte, word_byte, some_bytes, words_of, from_word, first_word, behind_word}
use Rattle.case_text.specs.Parts.{Begins}

-- a byte in front that parts words
gap_on : (b : ℕ) (bs : List ℕ) → gap_byte b ≡ true → words_of (b ∷ bs) ≡ words_of bs
gap_on b bs e = ap (filter some_bytes) (slice_split-cons_yes gap_byte b bs e)

word_on : (b : ℕ) (bs : List ℕ) → gap_byte b ≡ true → from_word (b ∷ bs) ≡ from_word bs
word_on b bs e = ap (λ (v : Bool). drop (cond v (1 + prefix_len gap_byte bs) 0) (b ∷ bs)) e ∙ (rw one-add refl)

word_here : (b : ℕ) (bs : List ℕ) → gap_byte b ≡ false → from_word (b ∷ bs) ≡ b ∷ bs
word_here b bs e = ap (λ (v : Bool). drop (cond v (1 + prefix_len gap_byte bs) 0) (b ∷ bs)) e

words_skip : (bs : List ℕ) → words_of (from_word bs) ≡ words_of bs
words_skip [] = refl
words_skip (b ∷ bs) =
    elim (gap_byte b) as (λ v. gap_byte b ≡ v → words_of (from_word (b ∷ bs)) ≡ words_of (b ∷ bs)) [
      | true ↦ λ e. ap words_of (word_on b bs e) ∙ words_skip bs ∙ sym (gap_on b bs e)
      | false ↦ λ e. ap words_of (word_here b bs e)
    ] refl

-- the pieces of bytes: the run that they begin with, and the pieces behind it
record Parted (bs : List ℕ) : Type 0 where
  pub more : List (List ℕ)
  pub cut : slice_split gap_byte bs ≡ take_while word_byte bs ∷ more
  pub left : filter some_bytes more ≡ words_of (drop (prefix_len word_byte bs) bs)

parted_gap : (b : ℕ) (bs : List ℕ) → gap_byte b ≡ true → Parted (b ∷ bs)
parted_gap b bs e = record {
  more = slice_split gap_byte bs;
  cut = slice_split-cons_yes gap_byte b bs e ∙ ap (λ (v : Bool). take (cond (not v) (1 + prefix_len word_byte bs) 0) (b ∷ bs) ∷ slice_split gap_byte bs) (sym e);
  left = sym (gap_on b bs e) ∙ ap (λ (v : Bool). words_of (drop (cond (not v) (1 + prefix_len word_byte bs) 0) (b ∷ bs))) (sym e);
}

one_longer : (b : ℕ) (bs : List ℕ) → gap_byte b ≡ false → prefix_len word_byte (b ∷ bs) ≡ suc (prefix_len word_byte bs)
one_longer b bs e = ap (λ (v : Bool). cond (not v) (1 + prefix_len word_byte bs) 0) e ∙ one-add (prefix_len word_byte bs)

parted_word : (b : ℕ) (bs : List ℕ) → gap_byte b ≡ false → Parted bs → Parted (b ∷ bs)
parted_word b bs e t = record {
  more = t.more;
  cut = slice_split-cons_no gap_byte b bs e ∙ ap (onto_first b) t.cut ∙ ap (λ (n : ℕ). take n (b ∷ bs) ∷ t.more) (sym (one_longer b bs e));
  left = t.left ∙ ap (λ (n : ℕ). words_of (drop n (b ∷ bs))) (sym (one_longer b bs e));
}

parted_all : (bs : List ℕ) → Parted bs
parted_all [] = record { more = []; cut = refl; left = refl }
parted_all (b ∷ bs) = elim (gap_byte b) as (λ v. gap_byte b ≡ v → Parted (b ∷ bs)) [ true ↦ λ e. parted_gap b bs e | false ↦ λ e. parted_word b bs e (parted_all bs) ] refl

word_some : (bs : List ℕ) → (from_word bs ≡ [] → ⊥) → some_bytes (first_word bs) ≡ true
word_some [] h = absurd (h refl)
word_some (b ∷ bs) h =
    elim (gap_byte b) as (λ v. gap_byte b ≡ v → some_bytes (first_word (b ∷ bs)) ≡ true) [
      | true ↦ λ e. ap (λ (l : List ℕ). some_bytes (take_while word_byte l)) (word_on b bs e) ∙ word_some bs (λ n. h (word_on b bs e ∙ n))
      | false ↦ λ e. ap (λ (l : List ℕ). some_bytes (take_while word_byte l)) (word_here b bs e) ∙ ap (λ (n : ℕ). some_bytes (take n (b ∷ bs))) (one_longer b bs e)
    ] refl

pub words_begin : (bs : List ℕ) → (from_word bs ≡ [] → ⊥) → words_of bs ≡ first_word bs ∷ words_of (behind_word bs)
words_begin bs h =
    let t = parted_all (from_word bs) in
    sym (words_skip bs) ∙
    ap (filter some_bytes) t.cut ∙
    ap (λ (v : Bool). cond v (first_word bs ∷ filter some_bytes t.more) (filter some_bytes t.more)) (word_some bs h) ∙
    ap (λ (l : List (List ℕ)). first_word bs ∷ l) t.left

pub words_none : (bs : List ℕ) → from_word bs ≡ [] → words_of bs ≡ []
words_none bs e = sym (words_skip bs) ∙ ap words_of e

-- without words there is no first one
pub none_first : (bs : List ℕ) → words_of bs ≡ [] → first_word bs ≡ []
none_first bs none = elim (from_word bs) as (λ l. from_word bs ≡ l → first_word bs ≡ []) [ [] ↦ λ e. ap (take_while word_byte) e | x ∷ xs ↦ λ e. absurd (omega (arith, ap length none, ap length (words_begin bs (λ n. absurd (omega (arith, ap length n, ap length e)))))) ] refl

-- the first word as the program cuts it
pub no_words : (bs words : List ℕ) → words ≡ from_word bs → length words ≡ 0 → words_of bs ≡ []
no_words bs [] is e = words_none bs (sym is)
no_words bs (x ∷ xs) is e = absurd (omega (arith, e))

pub cut_word : (bs words : List ℕ) (end : ℕ) → words ≡ from_word bs → 0 < length words → end ≡ prefix_len word_byte words → Begins bs (take end words) (take (length words - end) (drop end words))
cut_word bs words end is some stop =
    let front : take end words ≡ first_word bs = ap (λ (n : ℕ). take n words) stop ∙ ap (take_while word_byte) is in
    let rest : take (length words - end) (drop end words) ≡ behind_word bs = take_rest words end ∙ ap (λ (n : ℕ). drop n words) stop ∙ ap (λ (l : List ℕ). drop (prefix_len word_byte l) l) is in
    record { word = front; behind = rest; words = words_begin bs (λ n. absurd (omega (arith, some, ap length is, ap length n))) ∙ (λ i. sym front i ∷ words_of (sym rest i)) }
