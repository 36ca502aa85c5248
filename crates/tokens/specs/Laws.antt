-- What holds of every text: it has one list of tokens, or one place at which it has none.
use Rattle.std.specs.Prelude.{◌≡◌, ℕ, List}
use Rattle.tokens.specs.declared.token.Token.{Token}
use Rattle.tokens.specs.Splits.{Split}

-- the places and the tokens together
abbrev pub TokensAre : List (List ℕ) → List ℕ → List ℕ × List Token → Type 0
TokensAre names text r = Split names text r.0 r.1

-- a text has one answer at most
abbrev pub OneAnswer : {A : Type 0} → (List (List ℕ) → List ℕ → A → Type 0) → Type 0
OneAnswer {A} R = (names : List (List ℕ)) (text : List ℕ) (x y : A) → R names text x → R names text y → x ≡ y

-- no text has answers of both kinds
abbrev pub NeverBoth : {A B : Type 0} → (List (List ℕ) → List ℕ → A → Type 0) → (List (List ℕ) → List ℕ → B → Type 0) → Type 0
NeverBoth {A} {B} R S = (names : List (List ℕ)) (text : List ℕ) (x : A) (y : B) → R names text x → S names text y → ⊥
