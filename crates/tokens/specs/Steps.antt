-- What the lexer's inner functions answer, of a byte and of a place of a text.
use Rattle.std.specs.Prelude.{◌≡◌, ℕ, ◌<◌, ◌≤◌, List, length, drop, codes, Result, MatchResult, ◌≢◌}
use Rattle.std.specs.List.{between, AllByRecursion}
use Rattle.tokens.specs.declared.fault.TokenFault.{TokenFault}
use Rattle.tokens.specs.declared.fault.TokenFault.TheVariants.{Malformed}
use Rattle.tokens.specs.declared.lexer.Word.{Word}
use Rattle.tokens.specs.declared.token.Token.{Token}
use Rattle.tokens.specs.Words.{FirstByte, Spells}
use Rattle.tokens.specs.Splits.{LongestWord, NoToken}

-- a byte that is no token alone, and one that is none with `=` behind it
abbrev pub NoSign : ℕ → Type 0
NoSign b = AllByRecursion (λ s. b ≢ s) (codes "|&!()[],-GFU")

abbrev pub NoOrder : ℕ → Type 0
NoOrder b = AllByRecursion (λ s. b ≢ s) (codes "><")

-- the longest run of such bytes from at on ends before end
pub record RunTo (P : ℕ → Type 0) (text : List ℕ) (at end : ℕ) : Type 0 where
  pub on : at ≤ end
  pub within : end ≤ length text
  pub all : AllByRecursion P (between at end text)
  pub over : FirstByte P (drop end text) → ⊥

-- the word from at on ends before end, and is this token
pub record WordAt (names : List (List ℕ)) (text : List ℕ) (at : ℕ) (token : Token) (end : ℕ) : Type 0 where
  pub on : at < end
  pub within : end ≤ length text
  pub spells : Spells names (between at end text) token
  pub longest : LongestWord (between at end text) (drop end text)

-- no token stands at this place, and the fault says so
pub record FaultAt (names : List (List ℕ)) (text : List ℕ) (at : ℕ) (fault : TokenFault) : Type 0 where
  pub place : fault ≡ Malformed at
  pub none : NoToken names (drop at text)

-- what the reading of one word at this place answers
abbrev pub ReadAt : List (List ℕ) → List ℕ → ℕ → Result Word TokenFault → Type 0
ReadAt names text at r = MatchResult r (λ w. WordAt names text at w.token w.end) (λ f. FaultAt names text at f)
