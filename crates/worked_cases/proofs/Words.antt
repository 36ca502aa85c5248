-- The words of a text one by one: signs, names and numbers.
use Rattle.std.proofs.Common.{◌≡◌, ℕ, ◌+◌, List, ◌∷◌, ◌++◌, length, Some, refl}
use Rattle.tokens.specs.declared.token.Token.{Token}
use Rattle.tokens.specs.declared.token.Token.TheVariants.{Name, Number}
use Rattle.tokens.specs.Words.{Small, Digit, NameByte, FirstByte, IsName, IsNumber, number_written, Named, Spells}
use Rattle.tokens.specs.Splits.{ReadsWords, word}

-- a word whose first byte is no small letter and no digit
pub sign_word : {names : List (List ℕ)} {q : ℕ} {rest places : List ℕ} {tokens : List Token} (p c : ℕ) (cs after : List ℕ) (token : Token) → Spells names (c ∷ cs) token → (Small c → ⊥) → (Digit c → ⊥) → ReadsWords names (p + length (c ∷ cs)) after q rest places tokens → ReadsWords names p ((c ∷ cs) ++ after) q rest (p ∷ places) (token ∷ tokens)
sign_word p c cs after token s small digit more = word {w = c ∷ cs} {after = after} {token = token} refl s (record { name = λ a b. small a; number = λ a b. digit a }) more

pub name_word : {names : List (List ℕ)} {q : ℕ} {rest places : List ℕ} {tokens : List Token} (p k : ℕ) (w after : List ℕ) → IsName w → Named names w k → (FirstByte Digit w → ⊥) → (FirstByte NameByte after → ⊥) → ReadsWords names (p + length w) after q rest places tokens → ReadsWords names p (w ++ after) q rest (p ∷ places) (Name (Some k) ∷ tokens)
name_word p k w after is named digit over more = word {w = w} {after = after} {token = Name (Some k)} refl (is, named) (record { name = λ a b. over b; number = λ a b. digit a }) more

pub number_word : {names : List (List ℕ)} {q : ℕ} {rest places : List ℕ} {tokens : List Token} (p n : ℕ) (w after : List ℕ) → IsNumber w → n ≡ number_written w → (FirstByte Small w → ⊥) → (FirstByte Digit after → ⊥) → ReadsWords names (p + length w) after q rest places tokens → ReadsWords names p (w ++ after) q rest (p ∷ places) (Number n ∷ tokens)
number_word p n w after is writes small over more = word {w = w} {after = after} {token = Number n} refl (is, writes) (record { name = λ a b. small a; number = λ a b. over b }) more
