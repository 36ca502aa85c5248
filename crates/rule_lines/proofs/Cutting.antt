-- A text is answered the same over cut names, and a text that is too long by its beginning.
use Rattle.std.proofs.Common.{◌≡◌, ℕ, ◌<◌, ◌≤◌, List, [], ◌∷◌, length, get_or, take, Some, None, Option, sym, ap, ◌∙◌, subst, ⊎_elim, arith}
use Rattle.std.proofs.lemmas.List.{take_all, take-take, length-take, length-take-le, get_or_past}
use Rattle.std.proofs.lemmas.Bool.{cases_lt}
use Rattle.tokens.specs.declared.token.Token.{Token}
use Rattle.tokens.specs.declared.token.Token.TheVariants.{Or, And, Not, Open, Close, Left, Right, Comma, Minus, Always, Eventually, Until, AtLeast, AtMost, Name, Number}
use Rattle.tokens.specs.Words.{Small, FirstByte, IsName, LineOf, Spells}
use Rattle.tokens.specs.Splits.{ReadsWords, nothing, blank, word, NoToken, no_word, no_form}
use Rattle.rules.specs.Texts.{Answer, Answered, empty, long, no_token, parsed}
use Rattle.rule_lines.specs.Lines.{parts}
use Rattle.rule_lines.specs.Kept.{PartsCut}

-- nine bytes tell whether a part is a word of eight at most
same_word : (v w : List ℕ) → length w ≤ 8 → take 9 v ≡ take 9 w → v ≡ w
same_word v w short e =
    let whole = take_all 9 w (omega arith) in
    ⊎_elim
    (λ few. sym (take_all 9 v (omega arith)) ∙ e ∙ whole)
    (λ many. absurd (omega (arith, ap length (e ∙ whole), length-take-le 9 v (omega arith))))
    (cases_lt (length v) 9)

some_byte : (w : List ℕ) → FirstByte Small w → 0 < length w
some_byte [] h = elim h [ ]
some_byte (b ∷ w) h = omega arith

is_there : (ns : List (List ℕ)) (w : List ℕ) (k : ℕ) → 0 < length w → get_or ns k [] ≡ w → k < length ns
is_there ns w k some e =
    ⊎_elim (λ h. h) (λ past. absurd (omega (arith, ap length (sym (get_or_past ns k [] past) ∙ e)))) (cases_lt k (length ns))

-- the first 16 names agree in their first 9 bytes
abbrev Alike : List (List ℕ) → List (List ℕ) → Type 0
Alike ns ms = (k : ℕ) → k < 16 → take 9 (get_or ns k []) ≡ take 9 (get_or ms k [])

module _ (ns ms : List (List ℕ)) (alike : Alike ns ms) where
  same_name : (w : List ℕ) → IsName w → (k : ℕ) → k < 16 → get_or ns k [] ≡ w → get_or ms k [] ≡ w
  same_name w n k few e = same_word (get_or ms k []) w n.short (sym (alike k few) ∙ ap (take 9) e)

same_line : (ns ms : List (List ℕ)) → Alike ns ms → (w : List ℕ) → IsName w → (line : Option ℕ) → LineOf ns w line → LineOf ms w line
same_line ns ms alike w n (Some k) h =
    let back : Alike ms ns = λ j few. sym (alike j few) in
    let same = same_name ns ms alike w n k h.counts h.same in
    record {
      counts = h.counts;
      there = is_there ms w k (some_byte w n.letter) same;
      same = same;
      first = λ j lt e. h.first j lt (same_name ms ns back w n j (omega (arith, h.counts)) e);
    }
same_line ns ms alike w n None h =
    λ k few there e.
    let same = same_name ms ns (λ j lt. sym (alike j lt)) w n k few e in
    h k few (is_there ns w k (some_byte w n.letter) same) same

same_spelling : (ns ms : List (List ℕ)) → Alike ns ms → (w : List ℕ) (t : Token) → Spells ns w t → Spells ms w t
same_spelling ns ms alike w Or h = h
same_spelling ns ms alike w And h = h
same_spelling ns ms alike w Not h = h
same_spelling ns ms alike w Open h = h
same_spelling ns ms alike w Close h = h
same_spelling ns ms alike w Left h = h
same_spelling ns ms alike w Right h = h
same_spelling ns ms alike w Comma h = h
same_spelling ns ms alike w Minus h = h
same_spelling ns ms alike w Always h = h
same_spelling ns ms alike w Eventually h = h
same_spelling ns ms alike w Until h = h
same_spelling ns ms alike w AtLeast h = h
same_spelling ns ms alike w AtMost h = h
same_spelling ns ms alike w (Name line) h = (h.0, same_line ns ms alike w h.0 line h.1)
same_spelling ns ms alike w (Number n) h = h

module _ (ns ms : List (List ℕ)) (alike : Alike ns ms) where
  same_reads : {p q : ℕ} {text rest places : List ℕ} {tokens : List Token} → ReadsWords ns p text q rest places tokens → ReadsWords ms p text q rest places tokens
  same_reads nothing = nothing
  same_reads (blank b r) = blank b (same_reads r)
  same_reads (word {w = w} {token = t} e s l r) = word e (same_spelling ns ms alike w t s) l (same_reads r)

  same_none : (text : List ℕ) → NoToken ns text → NoToken ms text
  same_none text (no_word some solid none) = no_word some solid (λ w rest t e s. none w rest t e (same_spelling ms ns (λ k few. sym (alike k few)) w t s))
  same_none text (no_form e l m) = no_form e l m

  same_answer : (text : List ℕ) (r : Answer) → Answered ns text r → Answered ms text r
  same_answer text r (empty z e) = empty z e
  same_answer text r (long m e) = long m e
  same_answer text r (no_token at some few h e) = no_token at some few (record { places = h.places; tokens = h.tokens; reads = same_reads h.reads; fault = same_none _ h.fault }) e
  same_answer text r (parsed places ts some few h p) = parsed places ts some few (same_reads h) p

-- the first 1,025 bytes tell what is too long
whole_text : (names : List (List ℕ)) (text : List ℕ) (r : Answer) → Answered names (take 1025 text) r → Answered names text r
whole_text names text r h =
    ⊎_elim
    (λ few. subst (λ (t : List ℕ). Answered names t r) (take_all 1025 text (omega arith)) h)
    (λ many. too_long (length-take-le 1025 text (omega arith)) h)
    (cases_lt (length text) 1025)
  where
    too_long : length (take 1025 text) ≡ 1025 → Answered names (take 1025 text) r → Answered names text r
    too_long full (empty z e) = absurd (omega arith)
    too_long full (long m e) = long (omega (arith, length-take 1025 text)) e
    too_long full (no_token at some few s e) = absurd (omega arith)
    too_long full (parsed places ts some few s p) = absurd (omega arith)

pub answered : (line text : List ℕ) (cells : List (List ℕ)) (r : Answer) → PartsCut line cells → Answered cells (take 1025 text) r → Answered (parts line) text r
answered line text cells r cut h =
    let alike : Alike cells (parts line) = λ k few. ap (take 9) (cut k few) ∙ take-take 9 9 (get_or (parts line) k []) (omega arith) in
    whole_text (parts line) text r (same_answer cells (parts line) alike (take 1025 text) r h)
