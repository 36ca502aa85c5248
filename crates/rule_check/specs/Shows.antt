-- What the program makes of its input: it shows the rows of the one rule that stands there, or the refusal.
use Rattle.std.specs.Prelude.{◌≡◌, ℕ, Bool, List, ◌++◌, Ok, Err, Option, Result, is_ok}
use Rattle.std.specs.Io.KnownBytes.{Appends}
use Rattle.rules.specs.Texts.{Answer, Answered}
use Rattle.rule_lines.specs.Lines.{names_in, text_in}
use Rattle.rule_lines.specs.Listing.{listing_of}

-- the answer to a whole input
abbrev pub InputAnswer : List ℕ → Answer → Type 0
InputAnswer input answer = Answered (names_in input) (text_in input) answer

-- at Ok the listing of the answer is appended, and it is told whether the text is a rule; at Err a beginning of the listing is
abbrev pub ShowsRule : {E : Type 0} → Option (List ℕ) → Option (List ℕ) → List ℕ → Result Bool E → Type 0
ShowsRule old new input (Ok is_rule) = (answer : Answer) × InputAnswer input answer × (is_rule ≡ is_ok answer) × Appends old new (listing_of answer)
ShowsRule old new input (Err e) = (answer : Answer) → InputAnswer input answer → (front : List ℕ) × (rest : List ℕ) × (listing_of answer ≡ front ++ rest) × Appends old new front
