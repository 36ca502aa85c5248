-- The text of the until is read as its rows.
use Rattle.std.proofs.Common.{◌≡◌, ℕ, ◌<◌, ◌≤◌, List, [], ◌∷◌, get_or, Some, Ok, codes, sym, refl, ap, subst, inl, inr, arith}
use Rattle.std.specs.Prelude.{slice_index_or}
use Rattle.tokens.specs.declared.token.Token.{Token}
use Rattle.tokens.specs.declared.token.Token.TheVariants.{Open, Close, Left, Right, Comma, Until, AtLeast, Name, Number}
use Rattle.tokens.specs.Words.{IsName, IsNumber, Named}
use Rattle.tokens.specs.Splits.{nothing, Split}
use Rattle.rules.specs.declared.row.Side.TheVariants as side
use Rattle.rules.specs.Grammar.{expr, Phrase, span, plain, test, until, one_part, one_meet, Derives}
use Rattle.rules.specs.Texts.{Answered, parsed, derived}
use Rattle.rules.proofs.Machine.{one_reading}
use Rattle.meaning.specs.Cases as worked
use Rattle.worked_cases.specs.RuleTexts.{p_and_q, until_text}
use Rattle.worked_cases.proofs.GuardText.{number_0, number_3}
use Rattle.worked_cases.proofs.Words.{sign_word, name_word, number_word}

name_p : IsName (codes "p")
name_p = record { letter = (omega arith, omega arith); all = (inl (omega arith, omega arith), tt); short = omega arith }

named_p : Named p_and_q (codes "p") 0
named_p = record {
  counts = omega arith;
  there = omega arith;
  same = refl;
  first = λ j l e. omega arith;
}

number_1 : IsNumber (codes "1")
number_1 = record { digit = (omega arith, omega arith); all = ((omega arith, omega arith), tt); short = omega arith; plain = λ e. absurd (omega arith) }

name_q : IsName (codes "q")
name_q = record { letter = (omega arith, omega arith); all = (inl (omega arith, omega arith), tt); short = omega arith }

named_q : Named p_and_q (codes "q") 1
named_q = record {
  counts = omega arith;
  there = omega arith;
  same = refl;
  first = λ j l e.
      let z : j ≡ 0 = omega arith in
      let d : codes "p" ≡ codes "q" = subst (λ i. slice_index_or p_and_q i [] ≡ codes "q") z e in
      let h : ◌≡◌ {A = ℕ} 112 113 = ap (λ (xs : List ℕ). get_or xs 0 0) d in
      omega arith;
}

abbrev until_places : List ℕ
until_places = 0 ∷ (1 ∷ (2 ∷ (4 ∷ (5 ∷ (6 ∷ (7 ∷ (8 ∷ (9 ∷ (10 ∷ (11 ∷ (12 ∷ (14 ∷ (15 ∷ [])))))))))))))

abbrev until_tokens : List Token
until_tokens = Open ∷ (Name (Some 0) ∷ (AtLeast ∷ (Number 1 ∷ (Until ∷ (Left ∷ (Number 0 ∷ (Comma ∷ (Number 3 ∷ (Right ∷ (Name (Some 1) ∷ (AtLeast ∷ (Number 1 ∷ (Close ∷ [])))))))))))))

until_split : Split p_and_q until_text until_places until_tokens
until_split = sign_word 0 40 [] (codes "p>=1U[0,3]q>=1)") Open refl (λ s. omega arith) (λ d. omega arith)
    (name_word 1 0 (codes "p") (codes ">=1U[0,3]q>=1)") name_p named_p (λ d. omega arith) (λ b. elim b [ inl s ↦ omega arith | inr d ↦ omega arith ])
    (sign_word 2 62 (61 ∷ []) (codes "1U[0,3]q>=1)") AtLeast refl (λ s. omega arith) (λ d. omega arith)
    (number_word 4 1 (codes "1") (codes "U[0,3]q>=1)") number_1 refl (λ s. omega arith) (λ d. omega arith)
    (sign_word 5 85 [] (codes "[0,3]q>=1)") Until refl (λ s. omega arith) (λ d. omega arith)
    (sign_word 6 91 [] (codes "0,3]q>=1)") Left refl (λ s. omega arith) (λ d. omega arith)
    (number_word 7 0 (codes "0") (codes ",3]q>=1)") number_0 refl (λ s. omega arith) (λ d. omega arith)
    (sign_word 8 44 [] (codes "3]q>=1)") Comma refl (λ s. omega arith) (λ d. omega arith)
    (number_word 9 3 (codes "3") (codes "]q>=1)") number_3 refl (λ s. omega arith) (λ d. omega arith)
    (sign_word 10 93 [] (codes "q>=1)") Right refl (λ s. omega arith) (λ d. omega arith)
    (name_word 11 1 (codes "q") (codes ">=1)") name_q named_q (λ d. omega arith) (λ b. elim b [ inl s ↦ omega arith | inr d ↦ omega arith ])
    (sign_word 12 62 (61 ∷ []) (codes "1)") AtLeast refl (λ s. omega arith) (λ d. omega arith)
    (number_word 14 1 (codes "1") (codes ")") number_1 refl (λ s. omega arith) (λ d. omega arith)
    (sign_word 15 41 [] [] Close refl (λ s. omega arith) (λ d. omega arith) nothing)))))))))))))

abbrev until_phrase : Phrase expr
until_phrase = one_meet (one_part (until (one_meet (one_part (test (Some 0) side.AtLeast (plain 1)))) (span 0 3) (one_meet (one_part (test (Some 1) side.AtLeast (plain 1))))))

until_derived : Derives until_tokens until_phrase
until_derived = record { text = refl; one = λ other e. one_reading other until_phrase (sym e) }

until_some : 0 < 16
until_some = omega arith

until_short : 16 ≤ 1024
until_short = omega arith

pub until_read : Answered p_and_q until_text (Ok worked.until)
until_read = parsed until_places until_tokens until_some until_short until_split (derived until_phrase until_derived refl)
