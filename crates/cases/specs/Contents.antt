-- What a field says, by its tag and its body.
use Rattle.std.specs.Prelude.{◌≡◌, ℕ, ◌<◌, ◌≤◌, List, length, Ok, Err, Result, slice_index}
use Rattle.cases.specs.declared.fault.CaseFault.{CaseFault}
use Rattle.cases.specs.declared.fault.CaseFault.TheVariants.{BadField}
use Rattle.cases.specs.declared.field.Entry.{Entry}
use Rattle.cases.specs.declared.field.Content.{Content}
use Rattle.cases.specs.declared.field.Content.TheVariants as content
use Rattle.cases.specs.Numbers.{four_byte_number, signed_at}

pub data Item : Type 0 where
  name : List ℕ → Item
  rule : List ℕ → Item
  entry : Entry → Item
  tick : ℕ → Item

-- a name has 1 to 8 bytes and a rule any number; an entry has its line in byte 0, and from bytes 1, 5, 9 and 13 on where it begins, where it ends, its lower and its upper number; a tick has 4 bytes
pub data Says (tag : ℕ) (body : List ℕ) (item : Item) : Type 0 where
  a_name : tag ≡ 0x4C → 0 < length body → length body ≤ 8 → item ≡ name body → Says tag body item
  a_rule : tag ≡ 0x52 → item ≡ rule body → Says tag body item
  an_entry : tag ≡ 0x45 → length body ≡ 17 → item ≡ entry (record { line = slice_index body 0; from = four_byte_number 1 body; to = four_byte_number 5 body; lower = signed_at 9 body; upper = signed_at 13 body }) → Says tag body item
  a_tick : tag ≡ 0x54 → length body ≡ 4 → item ≡ tick (four_byte_number 0 body) → Says tag body item

-- the tag is unknown, or the length is not one that the tag may have
abbrev pub Wrong : ℕ → List ℕ → Type 0
Wrong tag body = (item : Item) → Says tag body item → ⊥

abbrev pub item_of : Content → Item
item_of (content.Name w) = name w.now
item_of (content.Rule text) = rule text.now
item_of (content.Entry e) = entry e
item_of (content.Tick t) = tick t

-- what the field says, or that it is wrong
abbrev pub ContentRead : ℕ → List ℕ → Result Content CaseFault → Type 0
ContentRead tag body (Ok c) = Says tag body (item_of c)
ContentRead tag body (Err f) = Wrong tag body × (f ≡ BadField)

-- the tick is in the entry's stretch on the line
abbrev pub Covers : Entry → ℕ → ℕ → Type 0
Covers e line t = (line ≡ e.line) × (e.from ≤ t) × (t < e.to)
