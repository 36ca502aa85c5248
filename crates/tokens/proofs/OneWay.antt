-- Readings of one text that cannot go on are one.
use Rattle.std.proofs.Common.{◌≡◌, ℕ, ◌+◌, ◌<◌, ◌⊎◌, List, [], ◌∷◌, ◌++◌, length, sym, refl, ap, ◌∙◌, subst, inl, inr, arith}
use mathlib.Core.List.{cons≢nil, append_cancel_left}
use Rattle.std.proofs.lemmas.List.{drop_all}
use Rattle.tokens.specs.declared.token.Token.{Token}
use Rattle.tokens.specs.Words.{Small, Digit, Blank, FirstByte, Spells}
use Rattle.tokens.specs.Splits.{LongestWord, ReadsWords, nothing, blank, word, Malformed, NoToken, no_word, no_form, Stuck}
use Rattle.tokens.specs.Laws.{TokensAre, OneAnswer, NeverBoth}
use Rattle.tokens.proofs.Pieces.{Strange, Piece, sign_piece, name_piece, digit_piece, View, view, word_piece, bad_piece, same_piece, same_token, bad_word, begins_more, begins_some, clash}

-- a piece has bytes, and begins with no blank
Solid : ℕ → Type 0
Solid b = Blank b → ⊥

begins_each : {P Q : ℕ → Type 0} → ((b : ℕ) → P b → Q b) → (w : List ℕ) → FirstByte P w → FirstByte Q w
begins_each h [] p = elim p [ ]
begins_each h (b ∷ w) p = h b p

solid : {w rest : List ℕ} → Piece w rest → FirstByte Solid w
unfolding Solid
solid {w} (sign_piece t s l) = begins_each {P = Strange} (λ b h. h.2) w s
solid {w} (name_piece s a n) = begins_each {P = Small} (λ b h e. omega arith) w s
solid {w} (digit_piece s a n) = begins_each {P = Digit} (λ b h e. omega arith) w s

pub piece_some : {w rest : List ℕ} → Piece w rest → 0 < length w
piece_some {w} p = begins_some Solid w (solid p)

-- what begins with a piece is neither empty nor begins with a blank
not_empty : {w rest : List ℕ} → Piece w rest → w ++ rest ≡ [] → ⊥
not_empty {w} {rest} p e = subst (FirstByte Solid) e (begins_more Solid w rest (solid p))

not_blank : {w rest : List ℕ} → Piece w rest → FirstByte Blank (w ++ rest) → ⊥
unfolding Solid
not_blank {w} {rest} p b = clash Solid Blank (λ c h. h) (w ++ rest) (begins_more Solid w rest (solid p)) b

-- where a reading may end for good: at the text's end, or where no token stands
abbrev Over : List (List ℕ) → List ℕ → Type 0
Over names rest = (rest ≡ []) ⊎ NoToken names rest

over_blank : {names : List (List ℕ)} (b : ℕ) (rest : List ℕ) → Blank b → Over names (b ∷ rest) → ⊥
over_blank b rest h (inl e) = cons≢nil e
over_blank b rest h (inr (no_word some clear none)) = clear h
over_blank b rest h (inr (no_form {w} {rest = after} e l m)) = not_blank (bad_piece m after l) (subst (FirstByte Blank) e h)

over_word : (names : List (List ℕ)) (text w rest : List ℕ) (t : Token) → text ≡ w ++ rest → Spells names w t → LongestWord w rest → Over names text → ⊥
over_word names text w rest t e s l (inl none) = not_empty (word_piece (view names w t s) rest l) (sym e ∙ none)
over_word names text w rest t e s l (inr (no_word some clear none)) = none w rest t e s
over_word names text w rest t e s l (inr (no_form {w = v} {rest = tail} d m bad)) =
    let same_words = same_piece (bad_piece bad tail m) (word_piece (view names w t s) rest l) (sym d ∙ e) in
    bad_word (subst Malformed same_words bad) (view names w t s)

-- two readings that end for good end at one place, with the same tokens
pub record Same (q q' : ℕ) (ps ps' : List ℕ) (ts ts' : List Token) : Type 0 where
  pub place : q ≡ q'
  pub places : ps ≡ ps'
  pub tokens : ts ≡ ts'

module _ (names : List (List ℕ)) where
  -- the second reading, from where the first goes on
  moved : (p : ℕ) {q : ℕ} {w rest v tail end ps : List ℕ} {ts : List Token} → w ≡ v → w ++ rest ≡ v ++ tail → ReadsWords names (p + length v) tail q end ps ts → ReadsWords names (p + length w) rest q end ps ts
  moved p {q} {w} {rest} {v} {tail} {end} {ps} {ts} e all r =
      let behind : rest ≡ tail = append_cancel_left w rest tail (all ∙ ap (λ x. x ++ tail) (sym e)) in
      subst (λ x. ReadsWords names (p + length w) x q end ps ts) (sym behind) (subst (λ x. ReadsWords names (p + length x) tail q end ps ts) (sym e) r)

  same : {p q q' : ℕ} {text rest rest' ps ps' : List ℕ} {ts ts' : List Token} → ReadsWords names p text q rest ps ts → ReadsWords names p text q' rest' ps' ts' → Over names rest → Over names rest' → Same q q' ps ps' ts ts'
  same nothing nothing o o' = record { place = refl; places = refl; tokens = refl }
  same nothing (blank {b = b} {text = text} h r) o o' = absurd (over_blank b text h o)
  same {text = text} nothing (word {w = w} {after = after} {token = t} e s l r) o o' = absurd (over_word names text w after t e s l o)
  same (blank {b = b} {text = text} h r) nothing o o' = absurd (over_blank b text h o')
  same (blank h r) (blank h' r') o o' = same r r' o o'
  same (blank h r) (word {w = w} {after = after} {token = t} e s l r') o o' = absurd (not_blank (word_piece (view names w t s) after l) (subst (FirstByte Blank) e h))
  same {text = text} (word {w = w} {after = after} {token = t} e s l r) nothing o o' = absurd (over_word names text w after t e s l o')
  same (word {w = w} {after = after} {token = t} e s l r) (blank h r') o o' = absurd (not_blank (word_piece (view names w t s) after l) (subst (FirstByte Blank) e h))
  same {p = p} (word {w = w} {after = after} {token = t} e s l r) (word {w = v} {after = tail} {token = u} e' s' l' r') o o' =
      let all = sym e ∙ e' in
      let same_words = same_piece (word_piece (view names w t s) after l) (word_piece (view names v u s') tail l') all in
      let same_tokens = same_token (view names w t s) (subst (λ x. View names x u) (sym same_words) (view names v u s')) in
      let more = same r (moved p same_words all r') o o' in
      record { place = more.place; places = ap (λ x. p ∷ x) more.places; tokens = λ i. same_tokens i ∷ more.tokens i }

no_token_in_none : {names : List (List ℕ)} → NoToken names [] → ⊥
no_token_in_none (no_word some clear none) = omega arith
no_token_in_none (no_form {rest = rest} e l m) = not_empty (bad_piece m rest l) (sym e)

pub one_split : OneAnswer TokensAre
one_split names text x y r s = let h = same names r s (inl refl) (inl refl) in λ i. (h.places i, h.tokens i)

pub one_place : OneAnswer Stuck
one_place names text x y r s = (same names r.reads s.reads (inr r.fault) (inr s.fault)).place

pub never_both : NeverBoth TokensAre Stuck
never_both names text x y r s =
    let h = same names r s.reads (inl refl) (inr s.fault) in
    no_token_in_none (subst (NoToken names) (drop_all y text (omega (arith, h.place))) s.fault)
