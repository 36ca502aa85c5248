-- What the lines of a text say: nothing, or an item of a case that may stand there; or a line is bad.
use Rattle.std.specs.Prelude.{◌≡◌, ℕ, ◌+◌, ◌≤◌, Bool, true, false, List, [], ◌∷◌, ◌++◌, length, codes}
use Rattle.cases.specs.declared.field.Entry.{Entry}
use Rattle.cases.specs.Contents.{Item, name, rule, entry, tick}
use Rattle.cases.specs.Orders.{MayStand, MayFollow}
use Rattle.case_text.specs.Pieces.{spoken, words_of, from_word, first_word, behind_word}
use Rattle.case_text.specs.Words.{WholeNumber, WordsEnter}

-- a line with no words
abbrev pub Silent : List ℕ → Type 0
Silent line = words_of (spoken line) ≡ []

-- what the words of a line say behind lines that gave these names; a rule's text goes from its first word to the last, with the bytes between them
pub data LineSays (names : List (List ℕ)) (line : List ℕ) (item : Item) : Type 0 where
  a_name : {w : List ℕ} → first_word (spoken line) ≡ codes "line" → words_of (behind_word (spoken line)) ≡ w ∷ [] → item ≡ name w → LineSays names line item
  a_rule : first_word (spoken line) ≡ codes "rule" → item ≡ rule (from_word (behind_word (spoken line))) → LineSays names line item
  an_entry : {e : Entry} → first_word (spoken line) ≡ codes "enter" → WordsEnter names (behind_word (spoken line)) e → item ≡ entry e → LineSays names line item
  a_tick : {w : List ℕ} {n : ℕ} → first_word (spoken line) ≡ codes "tick" → words_of (behind_word (spoken line)) ≡ w ∷ [] → WholeNumber w n → item ≡ tick n → LineSays names line item

-- what stands before a line: the names that were given, whether the rule was, and the bytes of the fields
pub record Foregone : Type 0 where
  pub names : List (List ℕ)
  pub ruled : Bool
  pub size : ℕ

-- where a case's field may stand: names, one rule, and then entries and ticks
abbrev pub PlacedBy : Bool → List (List ℕ) → Item → Type 0
PlacedBy false names i = MayStand names i
PlacedBy true names i = MayFollow i

-- a field's tag and length have three bytes
abbrev pub field_size : Item → ℕ
field_size (name w) = length w + 3
field_size (rule text) = length text + 3
field_size (entry e) = 20
field_size (tick t) = 7

-- an item may stand where its field may, and within the bytes of a case
abbrev pub MayCome : Foregone → Item → Type 0
MayCome f i = PlacedBy f.ruled f.names i × (f.size + field_size i ≤ 16384)

-- what stands before the next line
abbrev pub and_names : List (List ℕ) → Item → List (List ℕ)
and_names names (name w) = names ++ (w ∷ [])
and_names names (rule text) = names
and_names names (entry e) = names
and_names names (tick t) = names

abbrev pub and_ruled : Bool → Item → Bool
and_ruled ruled (name w) = ruled
and_ruled ruled (rule text) = true
and_ruled ruled (entry e) = ruled
and_ruled ruled (tick t) = ruled

abbrev pub and_then : Foregone → Item → Foregone
and_then f i = record { names = and_names f.names i; ruled = and_ruled f.ruled i; size = f.size + field_size i }

abbrev pub and_all : Foregone → List Item → Foregone
and_all f [] = f
and_all f (i ∷ items) = and_all (and_then f i) items

abbrev pub at_first : Foregone
at_first = record { names = []; ruled = false; size = 0 }

pub record Speaks (f : Foregone) (line : List ℕ) (i : Item) : Type 0 where
  pub says : LineSays f.names line i
  pub place : MayCome f i

abbrev pub SpeaksNot : Foregone → List ℕ → Type 0
SpeaksNot f line = (i : Item) → Speaks f line i → ⊥

pub record Bad (f : Foregone) (line : List ℕ) : Type 0 where
  pub loud : Silent line → ⊥
  pub none : SpeaksNot f line

-- with this before them, the lines say these items in order
pub data LinesSay : Foregone → List (List ℕ) → List Item → Type 0 where
  nothing : {f : Foregone} {lines : List (List ℕ)} {items : List Item} → lines ≡ [] → items ≡ [] → LinesSay f lines items
  silent : {f : Foregone} {lines more : List (List ℕ)} {line : List ℕ} {items : List Item} → lines ≡ line ∷ more → Silent line → LinesSay f more items → LinesSay f lines items
  item : {f : Foregone} {lines more : List (List ℕ)} {line : List ℕ} {i : Item} {items rest : List Item} → lines ≡ line ∷ more → Speaks f line i → items ≡ i ∷ rest → LinesSay (and_then f i) more rest → LinesSay f lines items
