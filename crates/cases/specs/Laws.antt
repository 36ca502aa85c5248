-- What holds of every case: its bytes are read in one way only, and fields that are put into bytes are read again.
use Rattle.std.specs.Prelude.{◌≡◌, ℕ, ◌-◌, ◌/◌, ◌%◌, ◌<◌, ◌≤◌, List, [], ◌∷◌, ◌++◌, length, ℤ, pos, negsuc, ◌≤ℤ◌, Option, Result}
use Rattle.cases.specs.declared.fault.CaseRefusal.{CaseRefusal}
use Rattle.cases.specs.declared.field.Entry.{Entry}
use Rattle.cases.specs.Fields.{Leads}
use Rattle.cases.specs.Contents.{Item, name, rule, entry, tick, Says}
use Rattle.cases.specs.Readers.{GoesTo}
use Rattle.cases.specs.Headings.{OpenedCase, Opens}
use Rattle.cases.specs.Steps.{Stepped, Steps}

abbrev pub OneField : Type 0
OneField = (bytes : List ℕ) (tag other : ℕ) (body rest more behind : List ℕ) → Leads bytes tag body rest → Leads bytes other more behind → (tag ≡ other) × (body ≡ more) × (rest ≡ behind)

abbrev pub OneItem : Type 0
OneItem = (tag : ℕ) (body : List ℕ) (i j : Item) → Says tag body i → Says tag body j → i ≡ j

abbrev pub OneOpening : Type 0
OneOpening = (n : ℕ) (names : List (List ℕ)) (bytes : List ℕ) (r s : Result OpenedCase CaseRefusal) → Opens n names bytes r → Opens n names bytes s → r ≡ s

abbrev pub OneStep : Type 0
OneStep = (n : ℕ) (bytes : List ℕ) (r s : Result (Option Stepped) CaseRefusal) → Steps n bytes r → Steps n bytes s → r ≡ s

-- asked for the fields up to one, reading stands at one place
abbrev pub OneReadingPlace : Type 0
OneReadingPlace = (k n m o : ℕ) (bytes rest more : List ℕ) → GoesTo k n bytes m rest → GoesTo k n bytes o more → (m ≡ o) × (rest ≡ more)

-- a field in bytes, and a number in four bytes
abbrev pub packed : ℕ → List ℕ → List ℕ
packed tag body = tag ∷ (length body / 256 ∷ (length body % 256 ∷ body))

abbrev pub four_bytes : ℕ → List ℕ
four_bytes n = n / 16777216 ∷ (n / 65536 % 256 ∷ (n / 256 % 256 ∷ (n % 256 ∷ [])))

-- the 32 bits of a number in two's complement
abbrev pub bits_of : ℤ → ℕ
bits_of (pos n) = n
bits_of (negsuc n) = 4294967295 - n

abbrev pub entry_bytes : Entry → List ℕ
entry_bytes e = e.line ∷ (four_bytes e.from ++ (four_bytes e.to ++ (four_bytes (bits_of e.lower) ++ four_bytes (bits_of e.upper))))

abbrev pub FieldsRead : Type 0
FieldsRead = (tag : ℕ) (body rest : List ℕ) → Leads (packed tag body ++ rest) tag body rest

abbrev pub NamesRead : Type 0
NamesRead = (w : List ℕ) → 0 < length w → length w ≤ 8 → Says 0x4C w (name w)

abbrev pub RulesRead : Type 0
RulesRead = (text : List ℕ) → Says 0x52 text (rule text)

-- a reading fits 32 bits
abbrev pub Fits32 : ℤ → Type 0
Fits32 z = (negsuc 2147483647 ≤ℤ z) × (z ≤ℤ pos 2147483647)

abbrev pub EntriesRead : Type 0
EntriesRead = (e : Entry) → Fits32 e.lower → Fits32 e.upper → Says 0x45 (entry_bytes e) (entry e)

abbrev pub TicksRead : Type 0
TicksRead = (t : ℕ) → Says 0x54 (four_bytes t) (tick t)
