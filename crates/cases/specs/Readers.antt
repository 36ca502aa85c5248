-- What a reader of fields has left, what it answers, and where it stands then.
use Rattle.std.specs.Prelude.{◌≡◌, ℕ, ◌+◌, List, [], drop, Some, None, Ok, Err, Option, Result}
use Rattle.cases.specs.declared.fault.CaseFault.TheVariants.{BadField}
use Rattle.cases.specs.declared.fault.CaseRefusal.{CaseRefusal}
use Rattle.cases.specs.declared.field.Field.{Field}
use Rattle.cases.specs.declared.reader.CaseReader.{CaseReader}
use Rattle.cases.specs.Fields.{Leads, CutShort}

-- the bytes from its place on
abbrev pub left_of : CaseReader → List ℕ
left_of r = drop r.at r.bytes.now

-- the number of the next field
abbrev pub next_of : CaseReader → ℕ
next_of r = r.number + 1

-- the field that the bytes begin with is taken, with the next number: the reader stands behind it, in the same bytes
pub record TookField (before : CaseReader) (f : Field) (after : CaseReader) : Type 0 where
  pub leads : Leads (left_of before) f.tag f.bytes.now (left_of after)
  pub number : f.number ≡ next_of before
  pub count : after.number ≡ f.number
  pub same : after.bytes ≡ before.bytes

-- one step: a field is taken; where no byte is left, there is none; and one that is cut short is refused. The latter two leave the reader as it was
abbrev pub NextField : CaseReader → Result (Option Field) CaseRefusal → CaseReader → Type 0
NextField before (Ok None) after = (left_of before ≡ []) × (after ≡ before)
NextField before (Ok (Some f)) after = TookField before f after
NextField before (Err e) after = CutShort (left_of before) × (e ≡ record { field = next_of before; fault = BadField }) × (after ≡ before)

-- the bytes begin with no whole field: there are none, or the field is cut short
abbrev pub NoField : List ℕ → Type 0
NoField bytes = (tag : ℕ) (body rest : List ℕ) → Leads bytes tag body rest → ⊥

-- asked for field n, reading goes behind it if it is whole, whatever it says; otherwise it stays before it. The next field is m then, and rest is left
pub data Goes (n : ℕ) (bytes : List ℕ) (m : ℕ) (rest : List ℕ) : Type 0 where
  passes : {tag : ℕ} {body : List ℕ} → Leads bytes tag body rest → m ≡ n + 1 → Goes n bytes m rest
  stays : NoField bytes → m ≡ n → rest ≡ bytes → Goes n bytes m rest

-- the same of the fields from n up to k in turn, of which all but the last are whole
pub data GoesTo (k : ℕ) : ℕ → List ℕ → ℕ → List ℕ → Type 0 where
  last : {n m : ℕ} {bytes rest : List ℕ} → n ≡ k → Goes n bytes m rest → GoesTo k n bytes m rest
  over : {n m tag : ℕ} {bytes body between rest : List ℕ} → Leads bytes tag body between → GoesTo k (n + 1) between m rest → GoesTo k n bytes m rest

-- where a reader stands once it was asked for its next field, or for each up to field k: in the same bytes, so that what is left says the place
abbrev pub Asked : CaseReader → CaseReader → Type 0
Asked before after = (after.bytes ≡ before.bytes) × Goes (next_of before) (left_of before) (next_of after) (left_of after)

abbrev pub AskedTo : ℕ → CaseReader → CaseReader → Type 0
AskedTo k before after = (after.bytes ≡ before.bytes) × GoesTo k (next_of before) (left_of before) (next_of after) (left_of after)
