-- What stands at the front of a text, word or malformed run, is one piece only.
use Rattle.std.proofs.Common.{◌≡◌, ℕ, ◌<◌, cond, eqb, List, [], ◌∷◌, ◌++◌, length, codes, Option, sym, refl, ap, ◌∙◌, subst, arith}
use mathlib.Core.List.{head-eq_of_cons-eq, tail-eq_of_cons-eq}
use Rattle.std.specs.List.{AllByRecursion}
use Rattle.tokens.specs.declared.token.Token.{Token}
use Rattle.tokens.specs.declared.token.Token.TheVariants.{Or, And, Not, Open, Close, Left, Right, Comma, Minus, Always, Eventually, Until, AtLeast, AtMost, Name, Number}
use Rattle.tokens.specs.Words.{Small, Digit, Blank, NameByte, FirstByte, IsName, IsNumber, number_written, LineOf, Spells}
use Rattle.tokens.specs.Splits.{LongestWord, Malformed, long_name, long_number, leading_zero}
use Rattle.tokens.proofs.Lines.{same_line}

-- a byte of no class
abbrev pub Strange : ℕ → Type 0
Strange b = (Small b → ⊥) × (Digit b → ⊥) × (Blank b → ⊥)

pub begins_more : (P : ℕ → Type 0) (w rest : List ℕ) → FirstByte P w → FirstByte P (w ++ rest)
begins_more P [] rest h = elim h [ ]
begins_more P (b ∷ w) rest h = h

pub begins_front : (P : ℕ → Type 0) (w rest : List ℕ) → 0 < length w → FirstByte P (w ++ rest) → FirstByte P w
begins_front P [] rest some h = absurd (omega arith)
begins_front P (b ∷ w) rest some h = h

pub begins_some : (P : ℕ → Type 0) (w : List ℕ) → FirstByte P w → 0 < length w
begins_some P [] h = elim h [ ]
begins_some P (b ∷ w) h = omega arith

pub clash : (P Q : ℕ → Type 0) → ((b : ℕ) → P b → Q b → ⊥) → (w : List ℕ) → FirstByte P w → FirstByte Q w → ⊥
clash P Q apart [] p q = elim p [ ]
clash P Q apart (b ∷ w) p q = apart b p q

pub small_digit : (b : ℕ) → Small b → Digit b → ⊥
small_digit b s d = omega arith

-- two fronts of one text begin alike
fronts : (P Q : ℕ → Type 0) → ((b : ℕ) → P b → Q b → ⊥) → (w rest v tail : List ℕ) → w ++ rest ≡ v ++ tail → FirstByte P w → FirstByte Q v → ⊥
fronts P Q apart w rest v tail e p q = clash P Q apart (v ++ tail) (subst (FirstByte P) e (begins_more P w rest p)) (begins_more Q v tail q)

-- a longest run is one only
same_run : (P : ℕ → Type 0) (w rest v tail : List ℕ) → AllByRecursion P w → (FirstByte P rest → ⊥) → AllByRecursion P v → (FirstByte P tail → ⊥) → w ++ rest ≡ v ++ tail → w ≡ v
same_run P [] rest [] tail a n b m e = refl
same_run P [] rest (y ∷ v) tail a n b m e = absurd (n (subst (FirstByte P) (sym e) b.0))
same_run P (x ∷ w) rest [] tail a n b m e = absurd (m (subst (FirstByte P) e a.0))
same_run P (x ∷ w) rest (y ∷ v) tail a n b m e =
    let first = head-eq_of_cons-eq e in
    let more = same_run P w rest v tail a.1 n b.1 m (tail-eq_of_cons-eq e) in
    λ i. first i ∷ more i

-- the symbol at the front of a text, with its bytes
pub data Front : Type 0 where
  none : Front
  front : List ℕ → Token → Front

abbrev pub paired : Token → ℕ → List ℕ → Front
paired t b [] = none
paired t b (c ∷ cs) = cond (eqb c 61) (front (b ∷ 61 ∷ []) t) none

abbrev pub lead : List ℕ → Front
lead [] = none
lead (b ∷ bs) =
    cond (eqb b 124) (front (codes "|") Or) (
    cond (eqb b 38) (front (codes "&") And) (
    cond (eqb b 33) (front (codes "!") Not) (
    cond (eqb b 40) (front (codes "(") Open) (
    cond (eqb b 41) (front (codes ")") Close) (
    cond (eqb b 91) (front (codes "[") Left) (
    cond (eqb b 93) (front (codes "]") Right) (
    cond (eqb b 44) (front (codes ",") Comma) (
    cond (eqb b 45) (front (codes "-") Minus) (
    cond (eqb b 71) (front (codes "G") Always) (
    cond (eqb b 70) (front (codes "F") Eventually) (
    cond (eqb b 85) (front (codes "U") Until) (
    cond (eqb b 62) (paired AtLeast 62 bs) (cond (eqb b 60) (paired AtMost 60 bs) none)))))))))))))

-- a token is a symbol, a name or a number
pub data View (names : List (List ℕ)) (w : List ℕ) (t : Token) : Type 0 where
  symbol : FirstByte Strange w → ((rest : List ℕ) → lead (w ++ rest) ≡ front w t) → View names w t
  name : (line : Option ℕ) → t ≡ Name line → IsName w → LineOf names w line → View names w t
  number : t ≡ Number (number_written w) → IsNumber w → View names w t

sign : (names : List (List ℕ)) (w v : List ℕ) (t : Token) → FirstByte Strange v → ((rest : List ℕ) → lead (v ++ rest) ≡ front v t) → w ≡ v → View names w t
sign names w v t strange leads e = subst (λ u. View names u t) (sym e) (symbol strange leads)

pub view : (names : List (List ℕ)) (w : List ℕ) (t : Token) → Spells names w t → View names w t
view names w Or e = sign names w (codes "|") Or (omega arith) (λ rest. refl) e
view names w And e = sign names w (codes "&") And (omega arith) (λ rest. refl) e
view names w Not e = sign names w (codes "!") Not (omega arith) (λ rest. refl) e
view names w Open e = sign names w (codes "(") Open (omega arith) (λ rest. refl) e
view names w Close e = sign names w (codes ")") Close (omega arith) (λ rest. refl) e
view names w Left e = sign names w (codes "[") Left (omega arith) (λ rest. refl) e
view names w Right e = sign names w (codes "]") Right (omega arith) (λ rest. refl) e
view names w Comma e = sign names w (codes ",") Comma (omega arith) (λ rest. refl) e
view names w Minus e = sign names w (codes "-") Minus (omega arith) (λ rest. refl) e
view names w Always e = sign names w (codes "G") Always (omega arith) (λ rest. refl) e
view names w Eventually e = sign names w (codes "F") Eventually (omega arith) (λ rest. refl) e
view names w Until e = sign names w (codes "U") Until (omega arith) (λ rest. refl) e
view names w AtLeast e = sign names w (codes ">=") AtLeast (omega arith) (λ rest. refl) e
view names w AtMost e = sign names w (codes "<=") AtMost (omega arith) (λ rest. refl) e
view names w (Name line) h = name line refl h.0 h.1
view names w (Number n) h = number (ap Number h.1) h.0

-- a piece of a text: a symbol, or a longest run of name bytes or of digits
pub data Piece (w rest : List ℕ) : Type 0 where
  sign_piece : (t : Token) → FirstByte Strange w → ((rest : List ℕ) → lead (w ++ rest) ≡ front w t) → Piece w rest
  name_piece : FirstByte Small w → AllByRecursion NameByte w → (FirstByte NameByte rest → ⊥) → Piece w rest
  digit_piece : FirstByte Digit w → AllByRecursion Digit w → (FirstByte Digit rest → ⊥) → Piece w rest

pub word_piece : {names : List (List ℕ)} {w : List ℕ} {t : Token} → View names w t → (rest : List ℕ) → LongestWord w rest → Piece w rest
word_piece {names} {w} {t} (symbol strange leads) rest long = sign_piece t strange leads
word_piece (name line e n l) rest long = name_piece n.letter n.all (long.name n.letter)
word_piece (number e n) rest long = digit_piece n.digit n.all (long.number n.digit)

zero_digit : (w : List ℕ) → FirstByte (λ b. b ≡ 48) w → FirstByte Digit w
zero_digit [] e = elim e [ ]
zero_digit (b ∷ w) e = (omega arith, omega arith)

pub bad_piece : {w : List ℕ} → Malformed w → (rest : List ℕ) → LongestWord w rest → Piece w rest
bad_piece (long_name b a l) rest long = name_piece b a (long.name b)
bad_piece (long_number b a l) rest long = digit_piece b a (long.number b)
bad_piece {w} (leading_zero b a l) rest long = digit_piece (zero_digit w b) a (long.number (zero_digit w b))

digit_small : (b : ℕ) → Digit b → Small b → ⊥
digit_small b d s = small_digit b s d

strange_small : (b : ℕ) → Strange b → Small b → ⊥
strange_small b h s = h.0 s

strange_digit : (b : ℕ) → Strange b → Digit b → ⊥
strange_digit b h d = h.1 d

small_strange : (b : ℕ) → Small b → Strange b → ⊥
small_strange b s h = h.0 s

digit_strange : (b : ℕ) → Digit b → Strange b → ⊥
digit_strange b d h = h.1 d

pub same_piece : {w rest v tail : List ℕ} → Piece w rest → Piece v tail → w ++ rest ≡ v ++ tail → w ≡ v
same_piece {w} {rest} {v} {tail} (sign_piece t a l) (sign_piece u b m) e =
    let both : front w t ≡ front v u = sym (l rest) ∙ ap lead e ∙ m tail in
    cc
same_piece {w} {rest} {v} {tail} (sign_piece t a l) (name_piece b bs n) e = absurd (fronts Strange Small strange_small w rest v tail e a b)
same_piece {w} {rest} {v} {tail} (sign_piece t a l) (digit_piece b bs n) e = absurd (fronts Strange Digit strange_digit w rest v tail e a b)
same_piece {w} {rest} {v} {tail} (name_piece a al m) (sign_piece t b l) e = absurd (fronts Small Strange small_strange w rest v tail e a b)
same_piece {w} {rest} {v} {tail} (name_piece a al m) (name_piece b bs n) e = same_run NameByte w rest v tail al m bs n e
same_piece {w} {rest} {v} {tail} (name_piece a al m) (digit_piece b bs n) e = absurd (fronts Small Digit small_digit w rest v tail e a b)
same_piece {w} {rest} {v} {tail} (digit_piece a al m) (sign_piece t b l) e = absurd (fronts Digit Strange digit_strange w rest v tail e a b)
same_piece {w} {rest} {v} {tail} (digit_piece a al m) (name_piece b bs n) e = absurd (fronts Digit Small digit_small w rest v tail e a b)
same_piece {w} {rest} {v} {tail} (digit_piece a al m) (digit_piece b bs n) e = same_run Digit w rest v tail al m bs n e

pub same_token : {names : List (List ℕ)} {w : List ℕ} {t u : Token} → View names w t → View names w u → t ≡ u
same_token {names} {w} {t} {u} (symbol a l) (symbol b m) = let both : front w t ≡ front w u = sym (l []) ∙ m [] in cc
same_token {names} {w} (symbol a l) (name line e n k) = absurd (clash Strange Small strange_small w a n.letter)
same_token {names} {w} (symbol a l) (number e n) = absurd (clash Strange Digit strange_digit w a n.digit)
same_token {names} {w} (name line e n k) (symbol b m) = absurd (clash Strange Small strange_small w b n.letter)
same_token {names} {w} (name line e n k) (name other d m j) = e ∙ ap Name (same_line names w line other k j) ∙ sym d
same_token {names} {w} (name line e n k) (number d m) = absurd (clash Small Digit small_digit w n.letter m.digit)
same_token {names} {w} (number e n) (symbol b m) = absurd (clash Strange Digit strange_digit w b n.digit)
same_token {names} {w} (number e n) (name line d m k) = absurd (clash Small Digit small_digit w m.letter n.digit)
same_token (number e n) (number d m) = e ∙ sym d

-- a malformed run is no word
pub bad_word : {names : List (List ℕ)} {w : List ℕ} {t : Token} → Malformed w → View names w t → ⊥
bad_word {names} {w} (long_name b a l) (symbol s m) = clash Strange Small strange_small w s b
bad_word (long_name b a l) (name line e n k) = omega (arith, n.short)
bad_word {names} {w} (long_name b a l) (number e n) = clash Small Digit small_digit w b n.digit
bad_word {names} {w} (long_number b a l) (symbol s m) = clash Strange Digit strange_digit w s b
bad_word {names} {w} (long_number b a l) (name line e n k) = clash Small Digit small_digit w n.letter b
bad_word (long_number b a l) (number e n) = omega (arith, n.short)
bad_word {names} {w} (leading_zero b a l) (symbol s m) = clash Strange Digit strange_digit w s (zero_digit w b)
bad_word {names} {w} (leading_zero b a l) (name line e n k) = clash Small Digit small_digit w n.letter (zero_digit w b)
bad_word (leading_zero b a l) (number e n) = omega (arith, n.plain b)
