-- What a case's fields behind the rule answer, one by one.
use Rattle.std.specs.Prelude.{◌≡◌, ℕ, ◌+◌, ◌<◌, ◌≤◌, List, [], length, Some, None, Ok, Err, Option, Result}
use Rattle.std.specs.Borrow.{Bor}
use Rattle.cases.specs.declared.call.Call.{Call}
use Rattle.cases.specs.declared.call.Call.TheVariants.{Enter, Judge}
use Rattle.cases.specs.declared.call.Step.{Step}
use Rattle.cases.specs.declared.fault.CaseFault.{CaseFault}
use Rattle.cases.specs.declared.fault.CaseFault.TheVariants.{TooLong, BadField, Misplaced}
use Rattle.cases.specs.declared.fault.CaseRefusal.{CaseRefusal}
use Rattle.cases.specs.declared.reader.CaseReader.{CaseReader}
use Rattle.cases.specs.Fields.{Leads, CutShort}
use Rattle.cases.specs.Contents.{Item, entry, tick, Says, Wrong}
use Rattle.cases.specs.Orders.{MayFollow}
use Rattle.cases.specs.Headings.{refusal}
use Rattle.cases.specs.Readers.{left_of, next_of}

-- a case has at most 16,384 bytes; a longer one is refused as a whole
abbrev pub Sized : List ℕ → Result (Unit {0}) CaseRefusal → Type 0
Sized case (Ok u) = length case ≤ 16384
Sized case (Err e) = (16384 < length case) × (e ≡ refusal 0 TooLong)

-- a reader of a case stands before its first field
pub record BeforeFirst (case : Bor (List ℕ)) (r : CaseReader) : Type 0 where
  pub sized : Sized case.now (Ok tt)
  pub same : r.bytes ≡ case
  pub left : left_of r ≡ case.now
  pub number : r.number ≡ 0

-- a case of at most 16,384 bytes has such a reader, and a longer one none
abbrev pub StandsFirst : Bor (List ℕ) → Result CaseReader CaseRefusal → Type 0
StandsFirst case (Ok r) = BeforeFirst case r
StandsFirst case (Err e) = Sized case.now (Err e)

-- an entry or a tick, the number of its field and of the next one, and the bytes from there on
pub record Stepped : Type 0 where
  pub field : ℕ
  pub item : Item
  pub next : ℕ
  pub rest : List ℕ

-- field n is asked whether it is whole and right, and then whether it may stand behind the rule; where no byte is left, the case ends
pub data Steps (n : ℕ) (bytes : List ℕ) (r : Result (Option Stepped) CaseRefusal) : Type 0 where
  ended : bytes ≡ [] → r ≡ Ok None → Steps n bytes r
  cut : CutShort bytes → r ≡ Err (refusal n BadField) → Steps n bytes r
  wrong : {tag : ℕ} {body rest : List ℕ} → Leads bytes tag body rest → Wrong tag body → r ≡ Err (refusal n BadField) → Steps n bytes r
  misplaced : {tag : ℕ} {body rest : List ℕ} {i : Item} → Leads bytes tag body rest → Says tag body i → (MayFollow i → ⊥) → r ≡ Err (refusal n Misplaced) → Steps n bytes r
  step : {tag : ℕ} {body rest : List ℕ} {i : Item} → Leads bytes tag body rest → Says tag body i → MayFollow i → r ≡ Ok (Some (record { field = n; item = i; next = n + 1; rest = rest })) → Steps n bytes r

abbrev pub call_item : Call → Item
call_item (Enter e) = entry e
call_item (Judge t) = tick t

abbrev pub step_reply : Result (Option Step) CaseRefusal → CaseReader → Result (Option Stepped) CaseRefusal
step_reply (Ok None) after = Ok None
step_reply (Ok (Some s)) after = Ok (Some (record { field = s.field; item = call_item s.call; next = next_of after; rest = left_of after }))
step_reply (Err e) after = Err e

-- what a field says as a call
abbrev pub Called : ℕ → List ℕ → Result Call CaseFault → Type 0
Called tag body (Ok c) = Says tag body (call_item c)
Called tag body (Err f) = (n : ℕ) (bytes rest : List ℕ) → Leads bytes tag body rest → Steps n bytes (Err (refusal n f))
