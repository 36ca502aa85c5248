-- How a rule text falls into words from the left, and where it does not.
use Rattle.std.specs.Prelude.{◌≡◌, ℕ, ◌+◌, ◌<◌, List, [], ◌∷◌, ◌++◌, length, drop}
use Rattle.std.specs.List.{AllByRecursion}
use Rattle.tokens.specs.declared.token.Token.{Token}
use Rattle.tokens.specs.Words.{Small, Digit, Blank, NameByte, FirstByte, Spells}

-- with rest behind it, w cannot go on: behind a name stands no small letter or digit, behind a number no digit
pub record LongestWord (w rest : List ℕ) : Type 0 where
  pub name : FirstByte Small w → FirstByte NameByte rest → ⊥
  pub number : FirstByte Digit w → FirstByte Digit rest → ⊥

-- blanks and words lead from place p, where text stands, to place q, where rest stands; a word stands for its token, at the place of its first byte
pub data ReadsWords (names : List (List ℕ)) : ℕ → List ℕ → ℕ → List ℕ → List ℕ → List Token → Type 0 where
  nothing : {p : ℕ} {text : List ℕ} → ReadsWords names p text p text [] []
  blank : {p q b : ℕ} {text rest places : List ℕ} {tokens : List Token} → Blank b → ReadsWords names (p + 1) text q rest places tokens → ReadsWords names p (b ∷ text) q rest places tokens
  word : {p q : ℕ} {text w after rest places : List ℕ} {token : Token} {tokens : List Token} → text ≡ w ++ after → Spells names w token → LongestWord w after → ReadsWords names (p + length w) after q rest places tokens → ReadsWords names p text q rest (p ∷ places) (token ∷ tokens)

-- a run of name bytes or of digits that is neither a name nor a number
pub data Malformed (w : List ℕ) : Type 0 where
  long_name : FirstByte Small w → AllByRecursion NameByte w → 8 < length w → Malformed w
  long_number : FirstByte Digit w → AllByRecursion Digit w → 9 < length w → Malformed w
  leading_zero : FirstByte (λ b. b ≡ 48) w → AllByRecursion Digit w → 1 < length w → Malformed w

-- no token stands at the front of text: its first byte begins none, or it begins with a malformed run
pub data NoToken (names : List (List ℕ)) (text : List ℕ) : Type 0 where
  no_word : 0 < length text → (FirstByte Blank text → ⊥) → ((w rest : List ℕ) (token : Token) → text ≡ w ++ rest → Spells names w token → ⊥) → NoToken names text
  no_form : {w rest : List ℕ} → text ≡ w ++ rest → LongestWord w rest → Malformed w → NoToken names text

-- the whole text is blanks and words: these tokens, at these places
abbrev pub Split : List (List ℕ) → List ℕ → List ℕ → List Token → Type 0
Split names text places tokens = ReadsWords names 0 text (length text) [] places tokens

-- at is the first place at which a token should begin and none does
pub record Stuck (names : List (List ℕ)) (text : List ℕ) (at : ℕ) : Type 0 where
  pub places : List ℕ
  pub tokens : List Token
  pub reads : ReadsWords names 0 text at (drop at text) places tokens
  pub fault : NoToken names (drop at text)
