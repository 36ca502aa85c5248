-- The token at a place, and what is left behind it.
use Rattle.std.proofs.Common.{◌≡◌, ℕ, suc, ◌+◌, ◌<◌, ◌≤◌, List, [], ◌∷◌, ◌++◌, length, get_or, take, drop, sym, ap, ◌∙◌, subst, add-one, drop-cons}
use Rattle.std.proofs.lemmas.List.{drop_all, take-append-drop}
use Rattle.tokens.specs.declared.token.Token.{Token}
use Rattle.tokens.specs.declared.token.Token.TheVariants.{Or, Number}
use Rattle.rules.specs.Readers.{IsAt, ShortNumbers}

pub here : (ts : List Token) (e : ℕ) (t : Token) → e < length ts → get_or ts e Or ≡ t → drop e ts ≡ t ∷ drop (e + 1) ts
here ts e t lt is = rw add-one (drop-cons ts e Or lt ∙ ap (λ (v : Token). v ∷ drop (suc e) ts) is)

-- a fact of the tokens that are left, at the end of the tokens and at a token
pub at_end : (P : List Token → Type 0) (ts : List Token) (e : ℕ) → length ts ≤ e → P [] → P (drop e ts)
at_end P ts e h p = subst P (sym (drop_all e ts h)) p

pub at_token : (P : List Token → Type 0) (ts : List Token) (e : ℕ) (t : Token) → IsAt t ts e → P (t ∷ drop (e + 1) ts) → P (drop e ts)
at_token P ts e t h p = subst P (sym (here ts e t h.there h.is)) p

-- a number that stands at a place is short
pub short_from : (ts : List Token) (a e n : ℕ) → ShortNumbers ts → drop a ts ≡ Number n ∷ drop e ts → n < 1000000000
short_from ts a e n h is = h n (take a ts) (drop e ts) (sym (take-append-drop a ts) ∙ ap (λ (v : List Token). take a ts ++ v) is)

pub short_here : (ts : List Token) (a n : ℕ) → ShortNumbers ts → a < length ts → get_or ts a Or ≡ Number n → n < 1000000000
short_here ts a n h lt is = short_from ts a (a + 1) n h (here ts a (Number n) lt is)
