-- The words of a rule text: which bytes they are written with, and which token each of them is.
use Rattle.std.specs.Prelude.{◌≡◌, ℕ, ◌+◌, ◌-◌, ◌*◌, ◌^◌, ◌<◌, ◌≤◌, ◌⊎◌, List, [], ◌∷◌, length, get_or, Some, None, codes, Option, ◌≢◌, slice_index_or}
use Rattle.std.specs.List.{AllByRecursion}
use Rattle.tokens.specs.declared.token.Token.{Token}
use Rattle.tokens.specs.declared.token.Token.TheVariants.{Or, And, Not, Open, Close, Left, Right, Comma, Minus, Always, Eventually, Until, AtLeast, AtMost, Name, Number}

-- a to z, 0 to 9, and the space and the end of a line, by their codes
abbrev pub Small : ℕ → Type 0
Small b = (97 ≤ b) × (b ≤ 122)

abbrev pub Digit : ℕ → Type 0
Digit b = (48 ≤ b) × (b ≤ 57)

abbrev pub Blank : ℕ → Type 0
Blank b = (b ≡ 32) ⊎ (b ≡ 10)

-- what a name goes on with
abbrev pub NameByte : ℕ → Type 0
NameByte b = Small b ⊎ Digit b

-- the first byte is such a one
abbrev pub FirstByte : (ℕ → Type 0) → List ℕ → Type 0
FirstByte P [] = ⊥
FirstByte P (b ∷ bs) = P b

-- a small letter and up to seven small letters and digits
pub record IsName (w : List ℕ) : Type 0 where
  pub letter : FirstByte Small w
  pub all : AllByRecursion NameByte w
  pub short : length w ≤ 8

-- one to nine digits, of which the first is 0 only in 0 itself
pub record IsNumber (w : List ℕ) : Type 0 where
  pub digit : FirstByte Digit w
  pub all : AllByRecursion Digit w
  pub short : length w ≤ 9
  pub plain : FirstByte (λ b. b ≡ 48) w → length w ≡ 1

-- the number that digits write in base ten
abbrev pub number_written : List ℕ → ℕ
number_written [] = 0
number_written (d ∷ ds) = (d - 48) * 10 ^ length ds + number_written ds

-- digits alone, and at most nineteen of them, so that what they write fits 64 bits
abbrev pub FewDigits : List ℕ → Type 0
FewDigits w = AllByRecursion Digit w × (length w ≤ 19)

-- line k is the first that has this name; only sixteen names count
pub record Named (names : List (List ℕ)) (w : List ℕ) (k : ℕ) : Type 0 where
  pub counts : k < 16
  pub there : k < length names
  pub same : get_or names k [] ≡ w
  pub first : (j : ℕ) → j < k → slice_index_or names j [] ≢ w

-- the line that these bytes name, if there is one
abbrev pub LineOf : List (List ℕ) → List ℕ → Option ℕ → Type 0
LineOf names w (Some k) = Named names w k
LineOf names w None = (k : ℕ) → k < 16 → k < length names → slice_index_or names k [] ≢ w

-- the bytes w are this token
abbrev pub Spells : List (List ℕ) → List ℕ → Token → Type 0
Spells names w Or = w ≡ codes "|"
Spells names w And = w ≡ codes "&"
Spells names w Not = w ≡ codes "!"
Spells names w Open = w ≡ codes "("
Spells names w Close = w ≡ codes ")"
Spells names w Left = w ≡ codes "["
Spells names w Right = w ≡ codes "]"
Spells names w Comma = w ≡ codes ","
Spells names w Minus = w ≡ codes "-"
Spells names w Always = w ≡ codes "G"
Spells names w Eventually = w ≡ codes "F"
Spells names w Until = w ≡ codes "U"
Spells names w AtLeast = w ≡ codes ">="
Spells names w AtMost = w ≡ codes "<="
Spells names w (Name line) = IsName w × LineOf names w line
Spells names w (Number n) = IsNumber w × (n ≡ number_written w)
