-- What the lexer answers of a whole text.
use Rattle.std.specs.Prelude.{ℕ, ◌<◌, ◌≤◌, List, map, length, take}
use Rattle.std.specs.Borrow.{Bor}
use Rattle.tokens.specs.declared.fault.TokenFault.{TokenFault}
use Rattle.tokens.specs.declared.fault.TokenFault.TheVariants.{TooLong, Malformed}
use Rattle.tokens.specs.declared.list.Tokens.{Tokens}
use Rattle.tokens.specs.declared.token.Token.{Token}
use Rattle.tokens.specs.Splits.{Split, Stuck}

-- the names that a slice of slices holds
abbrev pub texts : List (Bor (List ℕ)) → List (List ℕ)
texts names = map (λ x. x.now) names

-- the tokens that a list holds, and the place of each
abbrev pub tokens_of : Tokens → List Token
tokens_of ts = take ts.count ts.tokens

abbrev pub places_of : Tokens → List ℕ
places_of ts = take ts.count ts.places

-- the text has at most 1,024 bytes, and falls into the tokens of the list
pub record Tokenized (names : List (List ℕ)) (text : List ℕ) (ts : Tokens) : Type 0 where
  pub short : length text ≤ 1024
  pub split : Split names text (places_of ts) (tokens_of ts)

-- the text has more bytes, or else no token stands at this place
abbrev pub Refused : List (List ℕ) → List ℕ → TokenFault → Type 0
Refused names text TooLong = 1024 < length text
Refused names text (Malformed at) = (length text ≤ 1024) × Stuck names text at
