-- How many words there are, and the words of an entry.
use Rattle.std.proofs.Common.{◌≡◌, ℕ, ◌+◌, List, [], ◌∷◌, length, sym, ap, ◌∙◌, subst, arith}
use mathlib.Core.List.{head-eq_of_cons-eq, tail-eq_of_cons-eq}
use Rattle.cases.specs.declared.field.Entry.{Entry}
use Rattle.case_text.specs.Pieces.{words_of}
use Rattle.case_text.specs.Words.{WholeNumber, WritesReading, FirstNamed, WordsEnter}
use Rattle.case_text.specs.Parts.{Begins}

pub count_none : (w : List ℕ) → words_of w ≡ [] → length (words_of w) ≡ 0
count_none w h = ap length h

pub count_cut : {w f r : List ℕ} → Begins w f r → length (words_of w) ≡ length (words_of r) + 1
count_cut {w} {f} {r} x = ap length x.words ∙ omega arith

pub five_is : {w f g h k u q r s t v : List ℕ} → Begins w f q → Begins q g r → Begins r h s → Begins s k t → Begins t u v → words_of v ≡ [] → words_of w ≡ f ∷ (g ∷ (h ∷ (k ∷ (u ∷ []))))
five_is {w} {f} {g} {h} {k} {u} a b c d e none =
    a.words ∙
    ap (λ (l : List (List ℕ)). f ∷ l) b.words ∙
    ap (λ (l : List (List ℕ)). f ∷ (g ∷ l)) c.words ∙
    ap (λ (l : List (List ℕ)). f ∷ (g ∷ (h ∷ l))) d.words ∙
    ap (λ (l : List (List ℕ)). f ∷ (g ∷ (h ∷ (k ∷ l)))) e.words ∙
    ap (λ (l : List (List ℕ)). f ∷ (g ∷ (h ∷ (k ∷ (u ∷ l))))) none

-- with these five words, an entry has no others
module _ (names : List (List ℕ)) (words f g h k u : List ℕ) (five : words_of words ≡ f ∷ (g ∷ (h ∷ (k ∷ (u ∷ []))))) (e : Entry) (x : WordsEnter names words e) where
  same : x.which ∷ (x.begin ∷ (x.end ∷ (x.low ∷ (x.high ∷ [])))) ≡ f ∷ (g ∷ (h ∷ (k ∷ (u ∷ []))))
  same = sym x.five ∙ five

  pub its_line : FirstNamed names f e.line
  its_line = subst (λ (v : List ℕ). FirstNamed names v e.line) (head-eq_of_cons-eq same) x.line_is

  pub its_from : WholeNumber g e.from
  its_from = subst (λ (v : List ℕ). WholeNumber v e.from) (head-eq_of_cons-eq (tail-eq_of_cons-eq same)) x.from_is

  pub its_to : WholeNumber h e.to
  its_to = subst (λ (v : List ℕ). WholeNumber v e.to) (head-eq_of_cons-eq (tail-eq_of_cons-eq (tail-eq_of_cons-eq same))) x.to_is

  pub its_lower : WritesReading k e.lower
  its_lower = subst (λ (v : List ℕ). WritesReading v e.lower) (head-eq_of_cons-eq (tail-eq_of_cons-eq (tail-eq_of_cons-eq (tail-eq_of_cons-eq same)))) x.lower_is

  pub its_upper : WritesReading u e.upper
  its_upper = subst (λ (v : List ℕ). WritesReading v e.upper) (head-eq_of_cons-eq (tail-eq_of_cons-eq (tail-eq_of_cons-eq (tail-eq_of_cons-eq (tail-eq_of_cons-eq same))))) x.upper_is
