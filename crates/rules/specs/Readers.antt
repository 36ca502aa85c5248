-- What the readers have read from a token on, what they add to the table, and where they stop.
use Rattle.std.specs.Prelude.{◌≡◌, ℕ, ◌+◌, ◌<◌, ◌≤◌, List, [], ◌∷◌, ◌++◌, length, take, drop, ℤ, Option, ◌≢◌, slice_index_or}
use Rattle.tokens.specs.declared.token.Token.{Token}
use Rattle.tokens.specs.declared.token.Token.TheVariants.{Or, And, Not, Open, Close, Left, Right, Comma, Minus, Always, Eventually, Until, AtLeast, AtMost, Name, Number}
use Rattle.rules.specs.declared.row.Row.{Row}
use Rattle.rules.specs.declared.table.Table.{Table}
use Rattle.rules.specs.declared.modality.Modality.{Modality}
use Rattle.rules.specs.Grammar.{PhraseSort, window, limit, part, meet, expr, modal_token, side_token, Phrase, phrase_tokens}
use Rattle.rules.specs.Tables.{limit_of, rows_of, rises, deep_place}
use Rattle.rules.specs.declared.row.Side.{Side}

-- the tokens that are left do not begin with this token, with a side, with a number, with a limit, with a part, with the end of brackets
abbrev pub Isnt : Token → List Token → Type 0
Isnt k [] = Unit {0}
Isnt k (t ∷ r) = t ≡ k → ⊥

abbrev pub NoSide : List Token → Type 0
NoSide [] = Unit {0}
NoSide (t ∷ r) = (t ≢ AtLeast) × (t ≢ AtMost)

abbrev pub NoNumber : List Token → Type 0
NoNumber [] = Unit {0}
NoNumber (t ∷ r) = (n : ℕ) → t ≢ Number n

abbrev pub NoLimit : List Token → Type 0
NoLimit [] = Unit {0}
NoLimit (t ∷ r) = ((n : ℕ) → t ≢ Number n) × (t ≢ Minus)

abbrev pub NoStart : List Token → Type 0
NoStart [] = Unit {0}
NoStart (t ∷ r) = ((o : Option ℕ) → t ≢ Name o) × (t ≢ Not) × (t ≢ Eventually) × (t ≢ Always) × (t ≢ Open)

abbrev pub NoEnd : List Token → Type 0
NoEnd [] = Unit {0}
NoEnd (t ∷ r) = (t ≢ Close) × (t ≢ Until)

-- a phrase of this kind cannot go on with the tokens that follow
abbrev pub Over : PhraseSort → List Token → Type 0
Over window ts = Unit {0}
Over limit ts = Unit {0}
Over part ts = Unit {0}
Over meet [] = Unit {0}
Over meet (t ∷ r) = t ≡ And → ⊥
Over expr [] = Unit {0}
Over expr (t ∷ r) = (t ≢ And) × (t ≢ Or)

-- ts begins with a phrase, after which rest is left, and which cannot go on with rest
pub record Read (l : PhraseSort) (ts rest : List Token) : Type 0 where
  pub phrase : Phrase l
  pub text : ts ≡ phrase_tokens phrase ++ rest
  pub over : Over l rest

-- a phrase is begun by us, and rest is left where it cannot go on
pub data Stops : PhraseSort → List Token → List Token → Type 0 where
  no_left : {rest : List Token} → Isnt Left rest → Stops window rest rest
  no_from : {us rest : List Token} → us ≡ Left ∷ rest → NoNumber rest → Stops window us rest
  no_comma : {us rest : List Token} (a : ℕ) → us ≡ Left ∷ (Number a ∷ rest) → Isnt Comma rest → Stops window us rest
  no_to : {us rest : List Token} (a : ℕ) → us ≡ Left ∷ (Number a ∷ (Comma ∷ rest)) → NoNumber rest → Stops window us rest
  no_right : {us rest : List Token} (a b : ℕ) → us ≡ Left ∷ (Number a ∷ (Comma ∷ (Number b ∷ rest))) → Isnt Right rest → Stops window us rest
  no_limit : {rest : List Token} → NoLimit rest → Stops limit rest rest
  no_minus : {us rest : List Token} → us ≡ Minus ∷ rest → NoNumber rest → Stops limit us rest
  no_start : {rest : List Token} → NoStart rest → Stops part rest rest
  no_side : {us rest : List Token} (o : Option ℕ) → us ≡ Name o ∷ rest → NoSide rest → Stops part us rest
  in_test : {us ts rest : List Token} (o : Option ℕ) (s : Side) → us ≡ Name o ∷ (side_token s ∷ ts) → Stops limit ts rest → Stops part us rest
  in_not : {us ts rest : List Token} → us ≡ Not ∷ ts → Stops part ts rest → Stops part us rest
  in_window : {us ts rest : List Token} (m : Modality) → us ≡ modal_token m ∷ ts → Stops window ts rest → Stops part us rest
  in_modal : {us ts rest : List Token} (m : Modality) (w : Phrase window) → us ≡ modal_token m ∷ (phrase_tokens w ++ ts) → Stops part ts rest → Stops part us rest
  in_open : {us ts rest : List Token} → us ≡ Open ∷ ts → Stops expr ts rest → Stops part us rest
  no_end : {us ts rest : List Token} → us ≡ Open ∷ ts → Read expr ts rest → NoEnd rest → Stops part us rest
  in_until : {us ts rest : List Token} (e : Phrase expr) → us ≡ Open ∷ (phrase_tokens e ++ (Until ∷ ts)) → Stops window ts rest → Stops part us rest
  in_second : {us ts rest : List Token} (e : Phrase expr) (w : Phrase window) → us ≡ Open ∷ (phrase_tokens e ++ (Until ∷ (phrase_tokens w ++ ts))) → Stops expr ts rest → Stops part us rest
  no_close : {us ts rest : List Token} (e : Phrase expr) (w : Phrase window) → us ≡ Open ∷ (phrase_tokens e ++ (Until ∷ (phrase_tokens w ++ ts))) → Read expr ts rest → Isnt Close rest → Stops part us rest
  first_part : {ts rest : List Token} → Stops part ts rest → Stops meet ts rest
  next_part : {ts us rest : List Token} (m : Phrase meet) → us ≡ phrase_tokens m ++ (And ∷ ts) → Stops part ts rest → Stops meet us rest
  first_meet : {ts rest : List Token} → Stops meet ts rest → Stops expr ts rest
  next_meet : {ts us rest : List Token} (e : Phrase expr) → us ≡ phrase_tokens e ++ (Or ∷ ts) → Stops meet ts rest → Stops expr us rest

-- from place at the phrase p is read, which ends before place e
pub record ReadAs {l : PhraseSort} (p : Phrase l) (ts : List Token) (at e : ℕ) : Type 0 where
  pub on : at < e
  pub within : e ≤ length ts
  pub text : drop at ts ≡ phrase_tokens p ++ drop e ts
  pub over : Over l (drop e ts)

-- from place at a phrase is begun, and cannot go on at place i
pub record StopsAt (l : PhraseSort) (ts : List Token) (at i : ℕ) : Type 0 where
  pub on : at ≤ i
  pub within : i ≤ length ts
  pub stops : Stops l (drop at ts) (drop i ts)

-- the token at place at is k
pub record IsAt (k : Token) (ts : List Token) (at : ℕ) : Type 0 where
  pub there : at < length ts
  pub is : slice_index_or ts at Or ≡ k

-- the token at place at is k, and e is the place behind it
pub record TookToken (k : Token) (ts : List Token) (at e : ℕ) : Type 0 where
  pub next : e ≡ at + 1
  pub within : e ≤ length ts
  pub text : drop at ts ≡ k ∷ drop e ts

-- what is left at the place at is not what was looked for
pub record Missed (P : List Token → Type 0) (ts : List Token) (at i : ℕ) : Type 0 where
  pub same : i ≡ at
  pub isnt : P (drop at ts)

-- a limit is read, and its value is known
pub record ReadLimit (ts : List Token) (at e : ℕ) (value : ℤ) : Type 0 where
  pub phrase : Phrase limit
  pub read : ReadAs phrase ts at e
  pub is : value ≡ limit_of phrase

-- the table stands for these rows and these rises in depth: it counts the rows, keeps them while there are 64 at most, and keeps the first place that is too deep
pub record TableHolds (t : Table) (rows : List Row) (rs : List (ℕ × ℕ)) : Type 0 where
  pub count : t.count ≡ length rows
  pub kept : length rows ≤ 64 → take t.count t.rows ≡ rows
  pub deep : t.deep ≡ deep_place rs

-- rows and rises are added behind what the table stands for; the new rows may say where they begin
abbrev pub Grows : Table → Table → (ℕ → List Row) → List (ℕ × ℕ) → Type 0
Grows before after rows rs = (old : List Row) (deeper : List (ℕ × ℕ)) → TableHolds before old deeper → TableHolds after (old ++ rows (length old)) (deeper ++ rs)

-- one row more, whose number is at
pub record Pushed (row : Row) (before after : Table) (at : ℕ) : Type 0 where
  pub at_end : at ≡ before.count
  pub count : after.count ≡ before.count + 1
  pub grows : Grows before after (λ b. row ∷ []) []

-- one rise in depth more
pub record Risen (at depth : ℕ) (before after : Table) : Type 0 where
  pub count : after.count ≡ before.count
  pub grows : Grows before after (λ b. []) ((at, depth) ∷ [])

-- from place at a phrase of kind l is read at this depth, which ends before place next, and its rows are added to the table, the last at root
pub record Built (l : PhraseSort) (ts : List Token) (at depth : ℕ) (before after : Table) (next root : ℕ) : Type 0 where
  pub phrase : Phrase l
  pub read : ReadAs phrase ts at next
  pub grows : Grows before after (λ b. rows_of b phrase) (rises depth at phrase)
  pub last : root + 1 ≡ after.count
  -- no more rows than tokens
  pub few : after.count + at ≤ before.count + next

-- a phrase may be read from place at on, at this depth: as many tokens stand before it as rows are in the table, and as tokens are around it
pub record ReaderReady (ts : List Token) (at depth : ℕ) (table : Table) : Type 0 where
  pub within : at ≤ length ts
  pub few : table.count ≤ at
  pub shallow : depth ≤ at

-- numbers have nine digits at most
abbrev pub ShortNumbers : List Token → Type 0
ShortNumbers ts = (n : ℕ) (before after : List Token) → ts ≡ before ++ (Number n ∷ after) → n < 1000000000
