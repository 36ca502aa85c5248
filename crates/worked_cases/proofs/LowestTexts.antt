-- The texts of the tests at the lowest readings are read as their rows.
use Rattle.std.proofs.Common.{ℕ, ◌<◌, ◌≤◌, List, [], ◌∷◌, Some, Ok, codes, negsuc, sym, refl, inl, inr, arith}
use Rattle.tokens.specs.declared.token.Token.{Token}
use Rattle.tokens.specs.declared.token.Token.TheVariants.{Minus, AtLeast, Name, Number}
use Rattle.tokens.specs.Words.{IsName, IsNumber, Named}
use Rattle.tokens.specs.Splits.{nothing, Split}
use Rattle.rules.specs.declared.row.Side.TheVariants as side
use Rattle.rules.specs.Grammar.{expr, Phrase, minus, test, one_part, one_meet, Derives}
use Rattle.rules.specs.Texts.{Answered, parsed, derived}
use Rattle.rules.proofs.Machine.{one_reading}
use Rattle.meaning.specs.Cases.{at_least}
use Rattle.worked_cases.specs.RuleTexts.{only_a, lowest_text, above_text}
use Rattle.worked_cases.proofs.Words.{sign_word, name_word, number_word}

name_a : IsName (codes "a")
name_a = record { letter = (omega arith, omega arith); all = (inl (omega arith, omega arith), tt); short = omega arith }

named_a : Named only_a (codes "a") 0
named_a = record {
  counts = omega arith;
  there = omega arith;
  same = refl;
  first = λ j l e. omega arith;
}

number_500000 : IsNumber (codes "500000")
number_500000 = record { digit = (omega arith, omega arith); all = ((omega arith, omega arith), ((omega arith, omega arith), ((omega arith, omega arith), ((omega arith, omega arith), ((omega arith, omega arith), ((omega arith, omega arith), tt)))))); short = omega arith; plain = λ e. absurd (omega arith) }

abbrev lowest_places : List ℕ
lowest_places = 0 ∷ (1 ∷ (3 ∷ (4 ∷ [])))

abbrev lowest_tokens : List Token
lowest_tokens = Name (Some 0) ∷ (AtLeast ∷ (Minus ∷ (Number 500000 ∷ [])))

lowest_split : Split only_a lowest_text lowest_places lowest_tokens
lowest_split = name_word 0 0 (codes "a") (codes ">=-500000") name_a named_a (λ d. omega arith) (λ b. elim b [ inl s ↦ omega arith | inr d ↦ omega arith ])
    (sign_word 1 62 (61 ∷ []) (codes "-500000") AtLeast refl (λ s. omega arith) (λ d. omega arith)
    (sign_word 3 45 [] (codes "500000") Minus refl (λ s. omega arith) (λ d. omega arith)
    (number_word 4 500000 (codes "500000") [] number_500000 refl (λ s. omega arith) (λ d. d) nothing)))

abbrev lowest_phrase : Phrase expr
lowest_phrase = one_meet (one_part (test (Some 0) side.AtLeast (minus 500000)))

lowest_derived : Derives lowest_tokens lowest_phrase
lowest_derived = record { text = refl; one = λ other e. one_reading other lowest_phrase (sym e) }

lowest_some : 0 < 10
lowest_some = omega arith

lowest_short : 10 ≤ 1024
lowest_short = omega arith

pub lowest_read : Answered only_a lowest_text (Ok (at_least (negsuc 499999)))
lowest_read = parsed lowest_places lowest_tokens lowest_some lowest_short lowest_split (derived lowest_phrase lowest_derived refl)

number_499999 : IsNumber (codes "499999")
number_499999 = record { digit = (omega arith, omega arith); all = ((omega arith, omega arith), ((omega arith, omega arith), ((omega arith, omega arith), ((omega arith, omega arith), ((omega arith, omega arith), ((omega arith, omega arith), tt)))))); short = omega arith; plain = λ e. absurd (omega arith) }

abbrev above_places : List ℕ
above_places = 0 ∷ (1 ∷ (3 ∷ (4 ∷ [])))

abbrev above_tokens : List Token
above_tokens = Name (Some 0) ∷ (AtLeast ∷ (Minus ∷ (Number 499999 ∷ [])))

above_split : Split only_a above_text above_places above_tokens
above_split = name_word 0 0 (codes "a") (codes ">=-499999") name_a named_a (λ d. omega arith) (λ b. elim b [ inl s ↦ omega arith | inr d ↦ omega arith ])
    (sign_word 1 62 (61 ∷ []) (codes "-499999") AtLeast refl (λ s. omega arith) (λ d. omega arith)
    (sign_word 3 45 [] (codes "499999") Minus refl (λ s. omega arith) (λ d. omega arith)
    (number_word 4 499999 (codes "499999") [] number_499999 refl (λ s. omega arith) (λ d. d) nothing)))

abbrev above_phrase : Phrase expr
above_phrase = one_meet (one_part (test (Some 0) side.AtLeast (minus 499999)))

above_derived : Derives above_tokens above_phrase
above_derived = record { text = refl; one = λ other e. one_reading other above_phrase (sym e) }

above_some : 0 < 10
above_some = omega arith

above_short : 10 ≤ 1024
above_short = omega arith

pub above_read : Answered only_a above_text (Ok (at_least (negsuc 499998)))
above_read = parsed above_places above_tokens above_some above_short above_split (derived above_phrase above_derived refl)
