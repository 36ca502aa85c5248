-- The words of a line: whole numbers, readings, and names that were given.
use Rattle.std.specs.Prelude.{◌≡◌, ℕ, ◌<◌, ◌≤◌, List, [], ◌∷◌, length, ℤ, pos, neg_ℤ, ◌≢◌, slice_index_or}
use Rattle.std.specs.List.{AllByRecursion}
use Rattle.tokens.specs.Words.{Digit, number_written}
use Rattle.cases.specs.declared.field.Entry.{Entry}
use Rattle.case_text.specs.Pieces.{words_of}

-- 1 to 10 digits; zeros may lead
pub record Digits (w : List ℕ) : Type 0 where
  pub all : AllByRecursion Digit w
  pub some : 0 < length w
  pub short : length w ≤ 10

-- w writes the whole number n, which is below 2^32
pub record WholeNumber (w : List ℕ) (n : ℕ) : Type 0 where
  pub digits : Digits w
  pub value : n ≡ number_written w
  pub fits : n ≤ 4294967295

-- a reading is written with digits, or with `-` and digits, and fits 32 bits
pub record PlainNumber (w : List ℕ) (z : ℤ) : Type 0 where
  pub digits : Digits w
  pub fits : number_written w ≤ 2147483647
  pub value : z ≡ pos (number_written w)

pub record MinusNumber (w : List ℕ) (z : ℤ) : Type 0 where
  pub digits : Digits w
  pub fits : number_written w ≤ 2147483648
  pub value : z ≡ neg_ℤ (pos (number_written w))

pub data WritesReading (w : List ℕ) (z : ℤ) : Type 0 where
  plain : PlainNumber w z → WritesReading w z
  minus : {ds : List ℕ} → w ≡ 45 ∷ ds → MinusNumber ds z → WritesReading w z

-- number k, from 0, is the first of the names that is w, and one of the first 256
pub record FirstNamed (names : List (List ℕ)) (w : List ℕ) (k : ℕ) : Type 0 where
  pub byte : k < 256
  pub there : k < length names
  pub same : slice_index_or names k [] ≡ w
  pub first : (j : ℕ) → j < k → slice_index_or names j [] ≢ w

-- five words: a name, two whole numbers and two readings
pub record WordsEnter (names : List (List ℕ)) (words : List ℕ) (e : Entry) : Type 0 where
  pub which : List ℕ
  pub begin : List ℕ
  pub end : List ℕ
  pub low : List ℕ
  pub high : List ℕ
  pub five : words_of words ≡ which ∷ (begin ∷ (end ∷ (low ∷ (high ∷ []))))
  pub line_is : FirstNamed names which e.line
  pub from_is : WholeNumber begin e.from
  pub to_is : WholeNumber end e.to
  pub lower_is : WritesReading low e.lower
  pub upper_is : WritesReading high e.upper
