-- The rows of a derivation, and the depth that its tokens make.
use Rattle.std.specs.Prelude.{ℕ, ◌+◌, ◌-◌, cond, List, [], ◌∷◌, ◌++◌, length, ℤ, pos, neg_ℤ, Some, None, Option, nat_lt}
use Rattle.rules.specs.declared.row.Row.{Row}
use Rattle.rules.specs.declared.row.Row.TheVariants.{Test, Not, And, Or, Eventually, Always, Until}
use Rattle.rules.specs.declared.modality.Modality.{Modality}
use Rattle.rules.specs.declared.modality.Modality.TheVariants as modality
use Rattle.rules.specs.Grammar.{PhraseSort, window, limit, Phrase, span, plain, minus, test, opposite, modal, brackets, until, one_part, both, one_meet, either, phrase_tokens}

-- how many rows a phrase has: brackets make none
abbrev pub size : {l : PhraseSort} → Phrase l → ℕ
size (span a b) = 0
size (plain n) = 0
size (minus n) = 0
size (test o s v) = 1
size (opposite p) = size p + 1
size (modal m w p) = size p + 1
size (brackets e) = size e
size (until e w f) = (size e + size f) + 1
size (one_part p) = size p
size (both m p) = (size m + size p) + 1
size (one_meet m) = size m
size (either e m) = (size e + size m) + 1

abbrev pub limit_of : Phrase limit → ℤ
limit_of (plain n) = pos n
limit_of (minus n) = neg_ℤ (pos n)

-- the line of a name; a name that no line has is refused elsewhere
abbrev pub line_of : Option ℕ → ℕ
line_of None = 0
line_of (Some k) = k

abbrev pub modal_row : Modality → Phrase window → ℕ → Row
modal_row modality.Eventually (span a b) c = Eventually a b c
modal_row modality.Always (span a b) c = Always a b c

abbrev pub until_row : Phrase window → ℕ → ℕ → Row
until_row (span a b) l r = Until a b l r

-- the rows of a phrase whose first row has the number b: left child, right child, parent
abbrev pub rows_of : {l : PhraseSort} → ℕ → Phrase l → List Row
rows_of b (span a c) = []
rows_of b (plain n) = []
rows_of b (minus n) = []
rows_of b (test o s v) = Test (line_of o) s (limit_of v) ∷ []
rows_of b (opposite p) = rows_of b p ++ (Not ((b + size p) - 1) ∷ [])
rows_of b (modal m w p) = rows_of b p ++ (modal_row m w ((b + size p) - 1) ∷ [])
rows_of b (brackets e) = rows_of b e
rows_of b (until e w f) = rows_of b e ++ (rows_of (b + size e) f ++ (until_row w ((b + size e) - 1) (((b + size e) + size f) - 1) ∷ []))
rows_of b (one_part p) = rows_of b p
rows_of b (both m p) = rows_of b m ++ (rows_of (b + size m) p ++ (And ((b + size m) - 1) (((b + size m) + size p) - 1) ∷ []))
rows_of b (one_meet m) = rows_of b m
rows_of b (either e m) = rows_of b e ++ (rows_of (b + size e) m ++ (Or ((b + size e) - 1) (((b + size e) + size m) - 1) ∷ []))

-- the tokens that make the depth rise, each with its place and the depth that it makes, where d of them are around the phrase, which begins at place p
abbrev pub rises : {l : PhraseSort} → ℕ → ℕ → Phrase l → List (ℕ × ℕ)
rises d p (span a b) = []
rises d p (plain n) = []
rises d p (minus n) = []
rises d p (test o s v) = []
rises d p (opposite q) = (p, d + 1) ∷ rises (d + 1) (p + 1) q
rises d p (modal m w q) = (p, d + 1) ∷ rises (d + 1) ((p + 1) + length (phrase_tokens w)) q
rises d p (brackets e) = (p, d + 1) ∷ rises (d + 1) (p + 1) e
rises d p (until e w f) = (p, d + 1) ∷ (rises (d + 1) (p + 1) e ++ rises (d + 1) ((((p + 1) + length (phrase_tokens e)) + 1) + length (phrase_tokens w)) f)
rises d p (one_part q) = rises d p q
rises d p (both m q) = rises d p m ++ rises d ((p + length (phrase_tokens m)) + 1) q
rises d p (one_meet m) = rises d p m
rises d p (either e m) = rises d p e ++ rises d ((p + length (phrase_tokens e)) + 1) m

-- the first place at which the depth is above 16
abbrev pub deep_place : List (ℕ × ℕ) → Option ℕ
deep_place [] = None
deep_place (r ∷ rs) = cond (nat_lt 16 r.1) (Some r.0) (deep_place rs)
