-- What the inner functions answer: of a word, of a line, and of one more field.
use Rattle.std.specs.Prelude.{◌≡◌, ℕ, ◌+◌, ◌<◌, ◌≤◌, List, [], ◌∷◌, ◌++◌, length, Some, None, Option}
use Rattle.cases.specs.declared.field.Entry.{Entry}
use Rattle.cases.specs.declared.field.Content.{Content}
use Rattle.cases.specs.Contents.{Item, name, rule, entry, tick, Says, item_of}
use Rattle.cases.specs.Laws.{packed}
use Rattle.case_text.specs.declared.fault.BadLine.{BadLine}
use Rattle.case_text.specs.declared.line.EntryWords.{EntryWords}
use Rattle.case_text.specs.declared.split.Split.{Split}
use Rattle.std.specs.Borrow.{Bor}
use Rattle.tokens.specs.Answers.{texts}
use Rattle.case_text.specs.declared.packing.PackedSoFar.{PackedSoFar}
use Rattle.case_text.specs.Pieces.{words_of, first_word, behind_word}
use Rattle.case_text.specs.Words.{WholeNumber, WordsEnter}
use Rattle.case_text.specs.Sayings.{Silent, LineSays, Foregone, and_then, Speaks, Bad}

-- the first word of the bytes and what stands behind it, or there is no word
pub record Begins (bytes front rest : List ℕ) : Type 0 where
  pub word : front ≡ first_word bytes
  pub behind : rest ≡ behind_word bytes
  pub words : words_of bytes ≡ front ∷ words_of rest

abbrev pub Cuts : List ℕ → Option Split → Type 0
Cuts bytes None = words_of bytes ≡ []
Cuts bytes (Some s) = Begins bytes s.front.now s.rest.now

-- the bytes have this one word, or another number of words
abbrev pub Only : List ℕ → Option (Bor (List ℕ)) → Type 0
Only bytes None = (w : List ℕ) → words_of bytes ≡ w ∷ [] → ⊥
Only bytes (Some w) = words_of bytes ≡ w.now ∷ []

-- the value that a word has, if it has one
abbrev pub ValueRead : {A : Type 0} → (A → Type 0) → Option A → Type 0
ValueRead {A} R None = (x : A) → R x → ⊥
ValueRead R (Some x) = R x

-- the text has five words, or another number of them
abbrev pub words_in : EntryWords → List (List ℕ)
words_in f = f.which.now ∷ (f.begin.now ∷ (f.end.now ∷ (f.low.now ∷ (f.high.now ∷ []))))

abbrev pub Five : List ℕ → Option EntryWords → Type 0
Five words None = length (words_of words) ≡ 5 → ⊥
Five words (Some f) = words_of words ≡ words_in f

-- what stands behind the first word of a line, as an item of each kind
abbrev pub NameContent : List ℕ → Option Content → Type 0
NameContent bytes None = (w : List ℕ) → words_of bytes ≡ w ∷ [] → ⊥
NameContent bytes (Some c) = (w : List ℕ) × (words_of bytes ≡ w ∷ []) × (item_of c ≡ name w)

abbrev pub EntryContent : List (List ℕ) → List ℕ → Option Content → Type 0
EntryContent names words None = (e : Entry) → WordsEnter names words e → ⊥
EntryContent names words (Some c) = (e : Entry) × WordsEnter names words e × (item_of c ≡ entry e)

abbrev pub TickContent : List ℕ → Option Content → Type 0
TickContent bytes None = (w : List ℕ) (n : ℕ) → words_of bytes ≡ w ∷ [] → WholeNumber w n → ⊥
TickContent bytes (Some c) = (w : List ℕ) × (n : ℕ) × (words_of bytes ≡ w ∷ []) × WholeNumber w n × (item_of c ≡ tick n)

-- what a line says, if it says something
abbrev pub ContentOf : List (List ℕ) → List ℕ → Option Content → Type 0
ContentOf names line None = (i : Item) → LineSays names line i → ⊥
ContentOf names line (Some c) = LineSays names line (item_of c)

-- what stands before a line, as the program holds it
abbrev pub foregone : PackedSoFar → Foregone
foregone b = record { names = texts b.names.items; ruled = b.ruled; size = length b.case.items }

-- small enough for a field, and for the bytes that a case has left
abbrev pub FitsField : ℕ → Item → Type 0
FitsField n (name w) = (0 < length w) × (length w ≤ 8) × (n + length w + 3 ≤ 16384)
FitsField n (rule text) = n + length text + 3 ≤ 16384
FitsField n (entry e) = n + 20 ≤ 16384
FitsField n (tick t) = n + 7 ≤ 16384

-- one more field stands behind the bytes, and says the item
pub record AddsField (bytes : List ℕ) (i : Item) (after : List ℕ) : Type 0 where
  pub tag : ℕ
  pub body : List ℕ
  pub put : after ≡ bytes ++ packed tag body
  pub says : Says tag body i

-- a line was taken: it was silent, and nothing changed, or it said an item
pub record TookLine (f : Foregone) (bytes line : List ℕ) (i : Item) (g : Foregone) (after : List ℕ) : Type 0 where
  pub speaks : Speaks f line i
  pub kept : g ≡ and_then f i
  pub adds : AddsField bytes i after

pub data LineTaken (f : Foregone) (bytes line : List ℕ) (g : Foregone) (after : List ℕ) : Type 0 where
  passed : Silent line → g ≡ f → after ≡ bytes → LineTaken f bytes line g after
  took : (i : Item) → TookLine f bytes line i g after → LineTaken f bytes line g after

abbrev pub LineRefused : Foregone → List ℕ → ℕ → BadLine → Type 0
LineRefused f line number b = Bad f line × (b.number ≡ number)
