-- The grammar of rule texts over tokens: phrases as data, the tokens of each, and the place at which tokens stop being the beginning of an expression.
use Rattle.std.specs.Prelude.{◌≡◌, ℕ, ◌+◌, ◌<◌, ◌≤◌, List, [], ◌∷◌, ◌++◌, length, take, Option, ◌≢◌}
use Rattle.tokens.specs.declared.token.Token.{Token}
use Rattle.tokens.specs.declared.token.Token.TheVariants.{Or, And, Not, Open, Close, Left, Right, Comma, Minus, Always, Eventually, Until, AtLeast, AtMost, Name, Number}
use Rattle.rules.specs.declared.modality.Modality.{Modality}
use Rattle.rules.specs.declared.modality.Modality.TheVariants as modality
use Rattle.rules.specs.declared.row.Side.{Side}
use Rattle.rules.specs.declared.row.Side.TheVariants as side

-- the kinds of phrase
pub data PhraseSort : Type 0 where
  window : PhraseSort
  limit : PhraseSort
  part : PhraseSort
  meet : PhraseSort
  expr : PhraseSort

abbrev pub modal_token : Modality → Token
modal_token modality.Eventually = Eventually
modal_token modality.Always = Always

abbrev pub side_token : Side → Token
side_token side.AtLeast = AtLeast
side_token side.AtMost = AtMost

-- the grammar, one constructor for each way to write a phrase; meets and expressions group from the left
pub data Phrase : PhraseSort → Type 0 where
  span : ℕ → ℕ → Phrase window
  plain : ℕ → Phrase limit
  minus : ℕ → Phrase limit
  test : Option ℕ → Side → Phrase limit → Phrase part
  opposite : Phrase part → Phrase part
  modal : Modality → Phrase window → Phrase part → Phrase part
  brackets : Phrase expr → Phrase part
  until : Phrase expr → Phrase window → Phrase expr → Phrase part
  one_part : Phrase part → Phrase meet
  both : Phrase meet → Phrase part → Phrase meet
  one_meet : Phrase meet → Phrase expr
  either : Phrase expr → Phrase meet → Phrase expr

-- the tokens of a phrase
abbrev pub phrase_tokens : {l : PhraseSort} → Phrase l → List Token
phrase_tokens (span a b) = Left ∷ (Number a ∷ (Comma ∷ (Number b ∷ (Right ∷ []))))
phrase_tokens (plain n) = Number n ∷ []
phrase_tokens (minus n) = Minus ∷ (Number n ∷ [])
phrase_tokens (test o s v) = Name o ∷ (side_token s ∷ phrase_tokens v)
phrase_tokens (opposite p) = Not ∷ phrase_tokens p
phrase_tokens (modal m w p) = modal_token m ∷ (phrase_tokens w ++ phrase_tokens p)
phrase_tokens (brackets e) = Open ∷ (phrase_tokens e ++ (Close ∷ []))
phrase_tokens (until e w f) = Open ∷ (phrase_tokens e ++ (Until ∷ (phrase_tokens w ++ (phrase_tokens f ++ (Close ∷ [])))))
phrase_tokens (one_part p) = phrase_tokens p
phrase_tokens (both m p) = phrase_tokens m ++ (And ∷ phrase_tokens p)
phrase_tokens (one_meet m) = phrase_tokens m
phrase_tokens (either e m) = phrase_tokens e ++ (Or ∷ phrase_tokens m)

-- ts is the derivation p's list of tokens, and that of no other
pub record Derives (ts : List Token) (p : Phrase expr) : Type 0 where
  pub text : ts ≡ phrase_tokens p
  pub one : (other : Phrase expr) → ts ≡ phrase_tokens other → other ≡ p

-- the first i tokens begin some expression; with the token at i, none does; and where there is no token at i, ts is none
pub record Fails (ts : List Token) (i : ℕ) : Type 0 where
  pub within : i ≤ length ts
  pub begins : (e : Phrase expr) × (us : List Token) × (phrase_tokens e ≡ take i ts ++ us)
  pub ends : (e : Phrase expr) (us : List Token) → i < length ts → phrase_tokens e ≢ take (i + 1) ts ++ us
  pub none : (e : Phrase expr) → phrase_tokens e ≢ ts

-- two derivations with the same tokens are one
abbrev pub OneReading : Type 0
OneReading = (e f : Phrase expr) → phrase_tokens e ≡ phrase_tokens f → e ≡ f
