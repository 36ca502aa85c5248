-- The same over tokens alone: a limit is the number behind >=, <= or -, and a window's numbers are the first and the third token behind [.
use Rattle.std.specs.Prelude.{ℕ, ◌+◌, Bool, true, false, cond, List, [], ◌∷◌, drop, Some, None, Option}
use Rattle.tokens.specs.declared.token.Token.{Token}
use Rattle.tokens.specs.declared.token.Token.TheVariants.{Or, And, Not, Open, Close, Left, Right, Comma, Minus, Always, Eventually, Until, AtLeast, AtMost, Name, Number}
use Rattle.rules.specs.Checks.{bad_window, bad_limit}

-- the first place from k on at which the test holds of the tokens from there on
abbrev pub first_from : (List Token → Bool) → ℕ → List Token → Option ℕ
first_from holds k [] = None
first_from holds k (t ∷ r) = cond (holds (t ∷ r)) (Some k) (first_from holds (k + 1) r)

abbrev pub nameless : Token → Bool
nameless Or = false
nameless And = false
nameless Not = false
nameless Open = false
nameless Close = false
nameless Left = false
nameless Right = false
nameless Comma = false
nameless Minus = false
nameless Always = false
nameless Eventually = false
nameless Until = false
nameless AtLeast = false
nameless AtMost = false
nameless (Name None) = true
nameless (Name (Some line)) = false
nameless (Number x) = false

-- the tokens begin with a name that no line has
abbrev pub unknown_here : List Token → Bool
unknown_here [] = false
unknown_here (t ∷ r) = nameless t

abbrev pub number_of : Token → Option ℕ
number_of Or = None
number_of And = None
number_of Not = None
number_of Open = None
number_of Close = None
number_of Left = None
number_of Right = None
number_of Comma = None
number_of Minus = None
number_of Always = None
number_of Eventually = None
number_of Until = None
number_of AtLeast = None
number_of AtMost = None
number_of (Name x) = None
number_of (Number x) = Some x

-- the number that the tokens begin with, if it is one
abbrev pub first_number : List Token → Option ℕ
first_number [] = None
first_number (t ∷ r) = number_of t

abbrev pub is_far_number : Option ℕ → Bool
is_far_number None = false
is_far_number (Some n) = bad_limit n

abbrev pub askew : Option ℕ → Option ℕ → Bool
askew None o = false
askew (Some a) None = false
askew (Some a) (Some b) = bad_window a b

-- the number behind this token, with which r begins, is a limit or a window's first number, and out of bounds
abbrev pub wrong_by : Token → List Token → Bool
wrong_by Or r = false
wrong_by And r = false
wrong_by Not r = false
wrong_by Open r = false
wrong_by Close r = false
wrong_by Left r = askew (first_number r) (first_number (drop 2 r))
wrong_by Right r = false
wrong_by Comma r = false
wrong_by Minus r = is_far_number (first_number r)
wrong_by Always r = false
wrong_by Eventually r = false
wrong_by Until r = false
wrong_by AtLeast r = is_far_number (first_number r)
wrong_by AtMost r = is_far_number (first_number r)
wrong_by (Name x) r = false
wrong_by (Number x) r = false

-- the same of the tokens behind the first
abbrev pub wrong_here : List Token → Bool
wrong_here [] = false
wrong_here (t ∷ r) = wrong_by t r
