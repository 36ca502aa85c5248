-- What a rule text is answered: the rows of its one derivation, or the first check that finds something.
use Rattle.std.specs.Prelude.{◌≡◌, ℕ, ◌<◌, ◌≤◌, cond, List, length, take, Some, None, Ok, Err, Option, Result, nat_lt, slice_index_or}
use Rattle.tokens.specs.declared.token.Token.{Token}
use Rattle.tokens.specs.declared.fault.TokenFault.TheVariants.{TooLong, Malformed}
use Rattle.tokens.specs.Splits.{Split, Stuck}
use Rattle.rules.specs.declared.row.Row.{Row}
use Rattle.rules.specs.declared.rule.Rule.{Rule}
use Rattle.rules.specs.declared.table.Table.{Table}
use Rattle.rules.specs.declared.fault.RuleFault.{RuleFault}
use Rattle.rules.specs.declared.fault.RuleFault.TheVariants.{Empty, Grammar, UnknownName, OutOfBounds, TooDeep, TooManyRows, TooFar}
use Rattle.rules.specs.declared.fault.RuleFault.TheVariants as fault
use Rattle.rules.specs.Rows.{reach}
use Rattle.rules.specs.Grammar.{expr, Phrase, Derives, Fails}
use Rattle.rules.specs.Tables.{size, rows_of, rises, deep_place}
use Rattle.rules.specs.Checks.{unknown_place, wrong}
use Rattle.rules.specs.Readers.{TableHolds}

abbrev pub Answer : Type 0
Answer = Result (List Row) RuleFault

-- the rows of a rule
abbrev pub table_of : Rule → List Row
table_of r = take r.count r.rows

abbrev pub answer_of : Result Rule RuleFault → Answer
answer_of (Ok rule) = Ok (table_of rule)
answer_of (Err f) = Err f

-- the byte at which token i begins; behind the last token, the length of the text
abbrev pub place_in : List ℕ → ℕ → ℕ → ℕ
place_in places end i = slice_index_or places i end

-- a check that found something answers; otherwise the next one does
abbrev pub unless : Option ℕ → (ℕ → RuleFault) → Answer → Answer
unless None f next = next
unless (Some i) f next = Err (f i)

-- the checks of a derivation from the last to the first: reach, rows, depth, numbers, names
abbrev pub near_enough : Phrase expr → Answer
near_enough p = cond (nat_lt 500000000 (reach (rows_of 0 p))) (Err TooFar) (Ok (rows_of 0 p))

abbrev pub few_enough : Phrase expr → Answer
few_enough p = cond (nat_lt 64 (size p)) (Err TooManyRows) (near_enough p)

abbrev pub shallow_enough : (ℕ → ℕ) → Phrase expr → Answer
shallow_enough place p = unless (deep_place (rises 0 0 p)) (λ i. TooDeep (place i)) (few_enough p)

abbrev pub in_bounds : (ℕ → ℕ) → Phrase expr → Answer
in_bounds place p = unless (wrong p) (λ i. OutOfBounds (place i)) (shallow_enough place p)

abbrev pub checked : (ℕ → ℕ) → Phrase expr → Answer
checked place p = unless (unknown_place p) (λ i. UnknownName (place i)) (in_bounds place p)

-- tokens are answered by the grammar, and if they are an expression by the checks
pub data Parsed (ts : List Token) (place : ℕ → ℕ) (r : Answer) : Type 0 where
  no_grammar : (i : ℕ) → Fails ts i → r ≡ Err (Grammar (place i)) → Parsed ts place r
  derived : (p : Phrase expr) → Derives ts p → r ≡ checked place p → Parsed ts place r

-- a text is answered by its length, then by its tokens, and then as these are
pub data Answered (names : List (List ℕ)) (text : List ℕ) (r : Answer) : Type 0 where
  empty : length text ≡ 0 → r ≡ Err Empty → Answered names text r
  long : 1024 < length text → r ≡ Err (fault.Token TooLong) → Answered names text r
  no_token : (at : ℕ) → 0 < length text → length text ≤ 1024 → Stuck names text at → r ≡ Err (fault.Token (Malformed at)) → Answered names text r
  parsed : (places : List ℕ) (ts : List Token) → 0 < length text → length text ≤ 1024 → Split names text places ts → Parsed ts (place_in places (length text)) r → Answered names text r

-- a text has one answer
abbrev pub OneRuleAnswer : Type 0
OneRuleAnswer = (names : List (List ℕ)) (text : List ℕ) (r s : Answer) → Answered names text r → Answered names text s → r ≡ s

-- tokens stop being the beginning of an expression at one place
abbrev pub OneFaultPlace : Type 0
OneFaultPlace = (ts : List Token) (i j : ℕ) → Fails ts i → Fails ts j → i ≡ j

-- the table holds the rows and the rises of the one derivation of ts
pub record Derived (ts : List Token) (t : Table) : Type 0 where
  pub phrase : Phrase expr
  pub derives : Derives ts phrase
  pub holds : TableHolds t (rows_of 0 phrase) (rises 0 0 phrase)
