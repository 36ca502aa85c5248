-- From the lexer's answer to the whole text's.
use Rattle.std.proofs.Common.{◌≡◌, ℕ, ◌<◌, List, [], ◌∷◌, ◌++◌, length, Err, refl, subst}
use Rattle.std.specs.List.{AllByRecursion}
use Rattle.tokens.specs.declared.token.Token.{Token}
use Rattle.tokens.specs.declared.token.Token.TheVariants.{Number}
use Rattle.tokens.specs.declared.fault.TokenFault.{TokenFault}
use Rattle.tokens.specs.declared.fault.TokenFault.TheVariants.{TooLong, Malformed}
use Rattle.tokens.specs.Answers.{Refused}
use Rattle.tokens.specs.Splits.{Split}
use Rattle.tokens.proofs.Facts.{numbers_small}
use Rattle.rules.specs.declared.fault.RuleFault.TheVariants as fault
use Rattle.rules.specs.Readers.{ShortNumbers}
use Rattle.rules.specs.Texts.{Answered, long, no_token}

pub refused : (names : List (List ℕ)) (text : List ℕ) (f : TokenFault) → 0 < length text → Refused names text f → Answered names text (Err (fault.Token f))
refused names text TooLong some h = long h refl
refused names text (Malformed at) some h = no_token at some h.0 h.1 refl

in_all : (P : Token → Type 0) (t : Token) (before after : List Token) → AllByRecursion P (before ++ (t ∷ after)) → P t
in_all P t [] after h = h.0
in_all P t (b ∷ before) after h = in_all P t before after h.1

pub short : {names : List (List ℕ)} {text places : List ℕ} {ts : List Token} → Split names text places ts → ShortNumbers ts
short {names} {text} {places} {ts} s n before after e = in_all (λ t. (m : ℕ) → t ≡ Number m → m < 1000000000) (Number n) before after (subst (λ (v : List Token). AllByRecursion (λ t. (m : ℕ) → t ≡ Number m → m < 1000000000) v) e (numbers_small names text places ts s)) n refl
