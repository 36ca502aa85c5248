-- The guard's text is read as its rows.
use Rattle.std.proofs.Common.{◌≡◌, ℕ, ◌<◌, ◌≤◌, List, [], ◌∷◌, get_or, Some, Ok, codes, sym, refl, ap, subst, inl, inr, arith}
use Rattle.std.specs.Prelude.{slice_index_or}
use Rattle.tokens.specs.declared.token.Token.{Token}
use Rattle.tokens.specs.declared.token.Token.TheVariants.{Or, Open, Close, Left, Right, Comma, Always, AtLeast, AtMost, Name, Number}
use Rattle.tokens.specs.Words.{IsName, IsNumber, Named}
use Rattle.tokens.specs.Splits.{nothing, Split}
use Rattle.rules.specs.declared.row.Side.TheVariants as side
use Rattle.rules.specs.Grammar.{window, part, expr, Phrase, span, plain, test, modal, brackets, one_part, one_meet, either, Derives}
use Rattle.rules.specs.Texts.{Answered, parsed, derived}
use Rattle.rules.proofs.Machine.{State, win0, modal_window, top, start, step, one_reading}
use Rattle.meaning.specs.Cases.{guard}
use Rattle.worked_cases.specs.RuleTexts.{hot_and_flow, guard_text}
use Rattle.worked_cases.proofs.Words.{sign_word, name_word, number_word}

pub number_0 : IsNumber (codes "0")
number_0 = record { digit = (omega arith, omega arith); all = ((omega arith, omega arith), tt); short = omega arith; plain = λ e. refl }

pub number_3 : IsNumber (codes "3")
number_3 = record { digit = (omega arith, omega arith); all = ((omega arith, omega arith), tt); short = omega arith; plain = λ e. absurd (omega arith) }

pub name_flow : IsName (codes "flow")
name_flow = record { letter = (omega arith, omega arith); all = (inl (omega arith, omega arith), (inl (omega arith, omega arith), (inl (omega arith, omega arith), (inl (omega arith, omega arith), tt)))); short = omega arith }

named_flow : Named hot_and_flow (codes "flow") 1
named_flow = record {
  counts = omega arith;
  there = omega arith;
  same = refl;
  first = λ j l e.
      let z : j ≡ 0 = omega arith in
      let d : codes "hot" ≡ codes "flow" = subst (λ i. slice_index_or hot_and_flow i [] ≡ codes "flow") z e in
      let h : ◌≡◌ {A = ℕ} 104 102 = ap (λ (xs : List ℕ). get_or xs 0 0) d in
      omega arith;
}

pub name_hot : IsName (codes "hot")
name_hot = record { letter = (omega arith, omega arith); all = (inl (omega arith, omega arith), (inl (omega arith, omega arith), (inl (omega arith, omega arith), tt))); short = omega arith }

named_hot : Named hot_and_flow (codes "hot") 0
named_hot = record {
  counts = omega arith;
  there = omega arith;
  same = refl;
  first = λ j l e. omega arith;
}

number_1800 : IsNumber (codes "1800")
number_1800 = record { digit = (omega arith, omega arith); all = ((omega arith, omega arith), ((omega arith, omega arith), ((omega arith, omega arith), ((omega arith, omega arith), tt)))); short = omega arith; plain = λ e. absurd (omega arith) }

abbrev guard_places : List ℕ
guard_places = 0 ∷ (1 ∷ (2 ∷ (3 ∷ (4 ∷ (5 ∷ (6 ∷ (7 ∷ (11 ∷ (13 ∷ (14 ∷ (15 ∷ (18 ∷ (20 ∷ (24 ∷ []))))))))))))))

abbrev guard_tokens : List Token
guard_tokens = Always ∷ (Left ∷ (Number 0 ∷ (Comma ∷ (Number 3 ∷ (Right ∷ (Open ∷ (Name (Some 1) ∷ (AtMost ∷ (Number 0 ∷ (Or ∷ (Name (Some 0) ∷ (AtLeast ∷ (Number 1800 ∷ (Close ∷ []))))))))))))))

guard_split : Split hot_and_flow guard_text guard_places guard_tokens
guard_split = sign_word 0 71 [] (codes "[0,3](flow<=0|hot>=1800)") Always refl (λ s. omega arith) (λ d. omega arith)
    (sign_word 1 91 [] (codes "0,3](flow<=0|hot>=1800)") Left refl (λ s. omega arith) (λ d. omega arith)
    (number_word 2 0 (codes "0") (codes ",3](flow<=0|hot>=1800)") number_0 refl (λ s. omega arith) (λ d. omega arith)
    (sign_word 3 44 [] (codes "3](flow<=0|hot>=1800)") Comma refl (λ s. omega arith) (λ d. omega arith)
    (number_word 4 3 (codes "3") (codes "](flow<=0|hot>=1800)") number_3 refl (λ s. omega arith) (λ d. omega arith)
    (sign_word 5 93 [] (codes "(flow<=0|hot>=1800)") Right refl (λ s. omega arith) (λ d. omega arith)
    (sign_word 6 40 [] (codes "flow<=0|hot>=1800)") Open refl (λ s. omega arith) (λ d. omega arith)
    (name_word 7 1 (codes "flow") (codes "<=0|hot>=1800)") name_flow named_flow (λ d. omega arith) (λ b. elim b [ inl s ↦ omega arith | inr d ↦ omega arith ])
    (sign_word 11 60 (61 ∷ []) (codes "0|hot>=1800)") AtMost refl (λ s. omega arith) (λ d. omega arith)
    (number_word 13 0 (codes "0") (codes "|hot>=1800)") number_0 refl (λ s. omega arith) (λ d. omega arith)
    (sign_word 14 124 [] (codes "hot>=1800)") Or refl (λ s. omega arith) (λ d. omega arith)
    (name_word 15 0 (codes "hot") (codes ">=1800)") name_hot named_hot (λ d. omega arith) (λ b. elim b [ inl s ↦ omega arith | inr d ↦ omega arith ])
    (sign_word 18 62 (61 ∷ []) (codes "1800)") AtLeast refl (λ s. omega arith) (λ d. omega arith)
    (number_word 20 1800 (codes "1800") (codes ")") number_1800 refl (λ s. omega arith) (λ d. omega arith)
    (sign_word 24 41 [] [] Close refl (λ s. omega arith) (λ d. omega arith) nothing))))))))))))))

-- the part p behind what stands before a window
abbrev behind_window : Phrase window → Phrase part → State → Phrase part
behind_window w p (win0 (modal_window k m)) = modal m w p
behind_window w p s = p

abbrev guard_phrase : Phrase expr
guard_phrase = one_meet (one_part (behind_window (span 0 3) (brackets (either (one_meet (one_part (test (Some 1) side.AtMost (plain 0)))) (one_part (test (Some 0) side.AtLeast (plain 1800))))) (step (start expr top) Always)))

guard_derived : Derives guard_tokens guard_phrase
guard_derived = record { text = refl; one = λ other e. one_reading other guard_phrase (sym e) }

guard_some : 0 < 25
guard_some = omega arith

guard_short : 25 ≤ 1024
guard_short = omega arith

pub guard_read : Answered hot_and_flow guard_text (Ok guard)
guard_read = parsed guard_places guard_tokens guard_some guard_short guard_split (derived guard_phrase guard_derived refl)
