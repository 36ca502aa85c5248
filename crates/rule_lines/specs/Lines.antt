-- How the input is split: names on the first line, and behind it the rule text.
use Rattle.std.specs.Prelude.{◌≡◌, ℕ, ◌<◌, Bool, true, false, cond, ◌⊎◌, List, [], ◌∷◌, ◌++◌, length, ◌==◌}
use Rattle.std.specs.List.{AllByRecursion}
use Rattle.tokens.specs.Bytes.{Without}

-- what stands before the first c, or all
abbrev pub before : ℕ → List ℕ → List ℕ
before c [] = []
before c (b ∷ bs) = cond (b == c) [] (b ∷ before c bs)

-- what stands behind the first c, or nothing
abbrev pub behind : ℕ → List ℕ → List ℕ
behind c [] = []
behind c (b ∷ bs) = cond (b == c) bs (behind c bs)

abbrev pub has : ℕ → List ℕ → Bool
has c [] = false
has c (b ∷ bs) = cond (b == c) true (has c bs)

-- the parts of a line behind its first space, and all parts
abbrev pub later_parts : List ℕ → List (List ℕ)
later_parts [] = []
later_parts (b ∷ bs) = cond (b == 32) (before 32 bs ∷ later_parts bs) (later_parts bs)

abbrev pub parts : List ℕ → List (List ℕ)
parts line = before 32 line ∷ later_parts line

-- the names are the parts of the first line, and the text is what stands behind it
abbrev pub names_in : List ℕ → List (List ℕ)
names_in bytes = parts (before 10 bytes)

abbrev pub text_in : List ℕ → List ℕ
text_in bytes = behind 10 bytes

-- the same by what is put together again: names with a space between, a line end, the text
abbrev pub spaced : List (List ℕ) → List ℕ
spaced [] = []
spaced (n ∷ []) = n
spaced (n ∷ (m ∷ ns)) = n ++ (32 ∷ spaced (m ∷ ns))

pub record InputSays (bytes : List ℕ) (names : List (List ℕ)) (text : List ℕ) : Type 0 where
  pub whole : (bytes ≡ spaced names ++ (10 ∷ text)) ⊎ ((bytes ≡ spaced names) × (text ≡ []))
  pub one_line : Without 10 (spaced names)
  pub no_space : AllByRecursion (Without 32) names
  pub some_name : 0 < length names
