-- Words and faults at a place of a text.
use Rattle.std.proofs.Common.{◌≡◌, ℕ, ◌+◌, ◌-◌, ◌<◌, ◌≤◌, List, [], ◌∷◌, ◌++◌, length, get_or, drop, Option, sym, refl, ap, ◌∙◌, subst, inl, ⊎_elim, arith}
use mathlib.Core.List.{head-eq_of_cons-eq, tail-eq_of_cons-eq}
use Rattle.std.specs.List.{between}
use Rattle.std.proofs.lemmas.List.{take-append-drop, drop-drop, drop_more, length-drop, length-take}
use Rattle.std.proofs.lemmas.List.Edits.{between_none, between_more, length-between}
use Rattle.std.proofs.lemmas.Bool.{cases_lt, cases_eq}
use Rattle.tokens.specs.declared.fault.TokenFault.TheVariants.{Malformed}
use Rattle.tokens.specs.declared.token.Token.{Token}
use Rattle.tokens.specs.declared.token.Token.TheVariants.{Or, And, Not, Open, Close, Left, Right, Comma, Minus, Always, Eventually, Until, AtLeast, AtMost, Name, Number}
use Rattle.tokens.specs.Words.{Small, Digit, Blank, NameByte, FirstByte, number_written, LineOf, Spells}
use Rattle.tokens.specs.Splits.{LongestWord, Malformed as IllFormed, long_name, long_number, leading_zero, no_word, no_form}
use Rattle.tokens.specs.Steps.{RunTo, WordAt, FaultAt, NoSign, NoOrder}
use Rattle.tokens.proofs.Runs.{begins_at, at_begins, ends_at}
use Rattle.tokens.proofs.Pieces.{begins_more, begins_front, clash, small_digit}

-- a text from a place on is a part and what is behind it
pub parted : (text : List ℕ) (at end : ℕ) → at ≤ end → drop at text ≡ between at end text ++ drop end text
parted text at end on =
    let far : at + (end - at) ≡ end = omega arith in
    sym (take-append-drop (end - at) (drop at text)) ∙ ap (λ r. between at end text ++ r) (drop-drop (end - at) at text ∙ ap (λ n. drop n text) far)

pub run_few : (text : List ℕ) (at end n : ℕ) → end - at ≤ n → length (between at end text) ≤ n
run_few text at end n few = simp length-take (omega arith)

-- a run of P that begins with a Q is one byte long at least, and begins with a Q
module _ (P Q : ℕ → Type 0) (within : (b : ℕ) → Q b → P b) (text : List ℕ) (at end : ℕ) (run : RunTo P text at end) (first : FirstByte Q (drop at text)) where
  widened : (w : List ℕ) → FirstByte Q w → FirstByte P w
  widened [] q = elim q [ ]
  widened (b ∷ w) q = within b q

  pub run_some : at < end
  run_some = ⊎_elim (λ h. h) (λ h. let same : at ≡ end = omega (arith, run.on) in absurd (run.over (subst (λ n. FirstByte P (drop n text)) same (widened _ first)))) (cases_lt at end)

  pub run_length : length (between at end text) ≡ end - at
  run_length = length-between text at end run.within

  pub run_first : FirstByte Q (between at end text)
  run_first = begins_front Q (between at end text) (drop end text) (let some = run_some in omega (arith, run_length)) (subst (FirstByte Q) (parted text at end run.on) first)

longest_name : {w rest : List ℕ} → FirstByte Small w → (FirstByte NameByte rest → ⊥) → LongestWord w rest
longest_name {w} s over = record { name = λ _. over; number = λ d. absurd (clash Small Digit small_digit w s d) }

longest_number : {w rest : List ℕ} → FirstByte Digit w → (FirstByte Digit rest → ⊥) → LongestWord w rest
longest_number {w} d over = record { name = λ s. absurd (clash Small Digit small_digit w s d); number = λ _. over }

-- the run of a name or a number that begins at a place, well formed or not
module _ (names : List (List ℕ)) (text : List ℕ) (at end : ℕ) where
  pub name_word : RunTo NameByte text at end → FirstByte Small (drop at text) → end - at ≤ 8 → (line : Option ℕ) → LineOf names (between at end text) line → WordAt names text at (Name line) end
  name_word run first short line named =
      let letter = run_first NameByte Small (λ b s. inl s) text at end run first in
      let long = run_length NameByte Small (λ b s. inl s) text at end run first in
      record {
        on = run_some NameByte Small (λ b s. inl s) text at end run first;
        within = run.within;
        spells = (record { letter = letter; all = run.all; short = omega (arith, long) }, named);
        longest = longest_name letter run.over;
      }

  pub name_fault : RunTo NameByte text at end → FirstByte Small (drop at text) → 8 < end - at → FaultAt names text at (Malformed at)
  name_fault run first over =
      let letter = run_first NameByte Small (λ b s. inl s) text at end run first in
      let long = run_length NameByte Small (λ b s. inl s) text at end run first in
      record { place = refl; none = no_form (parted text at end run.on) (longest_name letter run.over) (long_name letter run.all (omega (arith, long))) }

  module _ (run : RunTo Digit text at end) (first : FirstByte Digit (drop at text)) where
    digit : FirstByte Digit (between at end text)
    digit = run_first Digit Digit (λ b d. d) text at end run first

    long : length (between at end text) ≡ end - at
    long = run_length Digit Digit (λ b d. d) text at end run first

    pub number_word : end - at ≤ 9 → (get_or text at 0 ≡ 48 → end - at ≤ 1) → (n : ℕ) → n ≡ number_written (between at end text) → WordAt names text at (Number n) end
    number_word short plain n value =
        let some = run_some Digit Digit (λ b d. d) text at end run first in
        record {
          on = some;
          within = run.within;
          spells = (
            record {
              digit = digit;
              all = run.all;
              short = omega (arith, long);
              plain = λ z. let one = plain (at_begins (λ b. b ≡ 48) text at (omega (arith, run.within)) (subst (FirstByte (λ b. b ≡ 48)) (sym (parted text at end run.on)) (begins_more (λ b. b ≡ 48) _ _ z))) in omega (arith, long);
            },
            value,
          );
          longest = longest_number digit run.over;
        }

    pub number_fault : at < length text → ((end - at ≤ 9) × (get_or text at 0 ≡ 48 → end - at ≤ 1) → ⊥) → FaultAt names text at (Malformed at)
    number_fault here bad = record { place = refl; none = no_form (parted text at end run.on) (longest_number digit run.over) (⊎_elim many few (cases_lt 9 (end - at))) }
      where
        many : 9 < end - at → IllFormed (between at end text)
        many h = long_number digit run.all (omega (arith, long))

        zero : get_or text at 0 ≡ 48 → 1 < end - at → IllFormed (between at end text)
        zero z h = leading_zero (run_first Digit (λ b. b ≡ 48) (λ b e. (omega arith, omega arith)) text at end run (begins_at (λ b. b ≡ 48) text at here z)) run.all (omega (arith, long))

        few : end - at ≤ 9 → IllFormed (between at end text)
        few short = ⊎_elim (λ z. ⊎_elim (zero z) (λ one. absurd (bad (short, λ _. one))) (cases_lt 1 (end - at))) (λ other. absurd (bad (short, λ z. absurd (other z)))) (cases_eq (get_or text at 0) 48)

-- what begins with neither a letter nor a digit, and is no symbol, is no word
module _ (names : List (List ℕ)) (b : ℕ) (bs rest : List ℕ) (no_sign : NoSign b) (no_order : FirstByte (λ c. c ≡ 61) bs → NoOrder b) (no_small : Small b → ⊥) (no_digit : Digit b → ⊥) where
  starts : (x : ℕ) (xs w : List ℕ) → b ∷ bs ≡ w ++ rest → w ≡ x ∷ xs → b ∷ bs ≡ x ∷ (xs ++ rest)
  starts x xs w e s = e ∙ ap (λ v. v ++ rest) s

  paired : (x : ℕ) (w : List ℕ) → (NoOrder b → b ≡ x → ⊥) → b ∷ bs ≡ w ++ rest → w ≡ x ∷ 61 ∷ [] → ⊥
  paired x w bad e s =
      let all = starts x (61 ∷ []) w e s in
      bad (no_order (subst (FirstByte (λ c. c ≡ 61)) (sym (tail-eq_of_cons-eq all)) refl)) (head-eq_of_cons-eq all)

  pub none_starts : (w : List ℕ) (t : Token) → b ∷ bs ≡ w ++ rest → Spells names w t → ⊥
  none_starts w Or e s = no_sign.0 (head-eq_of_cons-eq (starts 124 [] w e s))
  none_starts w And e s = no_sign.1.0 (head-eq_of_cons-eq (starts 38 [] w e s))
  none_starts w Not e s = no_sign.1.1.0 (head-eq_of_cons-eq (starts 33 [] w e s))
  none_starts w Open e s = no_sign.1.1.1.0 (head-eq_of_cons-eq (starts 40 [] w e s))
  none_starts w Close e s = no_sign.1.1.1.1.0 (head-eq_of_cons-eq (starts 41 [] w e s))
  none_starts w Left e s = no_sign.1.1.1.1.1.0 (head-eq_of_cons-eq (starts 91 [] w e s))
  none_starts w Right e s = no_sign.1.1.1.1.1.1.0 (head-eq_of_cons-eq (starts 93 [] w e s))
  none_starts w Comma e s = no_sign.1.1.1.1.1.1.1.0 (head-eq_of_cons-eq (starts 44 [] w e s))
  none_starts w Minus e s = no_sign.1.1.1.1.1.1.1.1.0 (head-eq_of_cons-eq (starts 45 [] w e s))
  none_starts w Always e s = no_sign.1.1.1.1.1.1.1.1.1.0 (head-eq_of_cons-eq (starts 71 [] w e s))
  none_starts w Eventually e s = no_sign.1.1.1.1.1.1.1.1.1.1.0 (head-eq_of_cons-eq (starts 70 [] w e s))
  none_starts w Until e s = no_sign.1.1.1.1.1.1.1.1.1.1.1.0 (head-eq_of_cons-eq (starts 85 [] w e s))
  none_starts w AtLeast e s = paired 62 w (λ n. n.0) e s
  none_starts w AtMost e s = paired 60 w (λ n. n.1.0) e s
  none_starts w (Name line) e s = no_small (subst (FirstByte Small) (sym e) (begins_more Small w rest s.0.letter))
  none_starts w (Number n) e s = no_digit (subst (FirstByte Digit) (sym e) (begins_more Digit w rest s.0.digit))

-- a symbol at a place, or none
module _ (names : List (List ℕ)) (text : List ℕ) (at : ℕ) (here : at < length text) (no_blank : FirstByte Blank (drop at text) → ⊥) (no_small : FirstByte Small (drop at text) → ⊥) (no_digit : FirstByte Digit (drop at text) → ⊥) where
  one_byte : between at (at + 1) text ≡ get_or text at 0 ∷ []
  one_byte = between_more text at at 0 (omega arith) here ∙ ap (λ w. w ++ get_or text at 0 ∷ []) (between_none text at)

  two_bytes : at + 1 < length text → get_or text (at + 1) 0 ≡ 61 → between at (at + 2) text ≡ get_or text at 0 ∷ 61 ∷ []
  two_bytes more equals =
      let next : at + 2 ≡ at + 1 + 1 = omega arith in
      ap (λ n. between at n text) next ∙ between_more text at (at + 1) 0 (omega arith) more ∙ (λ i. one_byte i ++ equals i ∷ [])

  solid : (w rest : List ℕ) → LongestWord (get_or text at 0 ∷ w) rest
  solid w rest = record { name = λ s. absurd (no_small (begins_at Small text at here s)); number = λ d. absurd (no_digit (begins_at Digit text at here d)) }

  pub sign_word : (t : Token) → Spells names (get_or text at 0 ∷ []) t → WordAt names text at t (at + 1)
  sign_word t s =
      record { on = omega arith; within = omega arith; spells = subst (λ w. Spells names w t) (sym one_byte) s; longest = subst (λ w. LongestWord w (drop (at + 1) text)) (sym one_byte) (solid [] _) }

  pub order_word : at + 1 < length text → get_or text (at + 1) 0 ≡ 61 → (t : Token) → Spells names (get_or text at 0 ∷ 61 ∷ []) t → WordAt names text at t (at + 2)
  order_word more equals t s =
      let both = two_bytes more equals in
      record { on = omega arith; within = omega arith; spells = subst (λ w. Spells names w t) (sym both) s; longest = subst (λ w. LongestWord w (drop (at + 2) text)) (sym both) (solid (61 ∷ []) _) }
