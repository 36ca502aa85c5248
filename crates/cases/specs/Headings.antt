-- What a case's fields up to the rule answer.
use Rattle.std.specs.Prelude.{◌≡◌, ℕ, ◌+◌, ◌<◌, List, [], ◌∷◌, ◌++◌, length, Some, None, Ok, Err, Option, Result}
use Rattle.rules.specs.declared.fault.RuleFault.{RuleFault}
use Rattle.rules.specs.declared.row.Row.{Row}
use Rattle.rules.specs.declared.rule.Rule.{Rule as RuleTable}
use Rattle.rules.specs.Texts.{table_of, Answered}
use Rattle.cases.specs.declared.fault.CaseFault.{CaseFault}
use Rattle.cases.specs.declared.fault.CaseFault.TheVariants.{BadField, Misplaced, Rule}
use Rattle.cases.specs.declared.fault.CaseRefusal.{CaseRefusal}
use Rattle.cases.specs.declared.field.Field.{Field}
use Rattle.cases.specs.declared.heading.Heading.{Heading}
use Rattle.cases.specs.declared.reader.CaseReader.{CaseReader}
use Rattle.cases.specs.Fields.{Leads, CutShort}
use Rattle.cases.specs.Contents.{Item, name, rule, Says, Wrong}
use Rattle.cases.specs.Orders.{Admits, MayStand}
use Rattle.cases.specs.Readers.{left_of, next_of, TookField, NoField}

abbrev pub refusal : ℕ → CaseFault → CaseRefusal
refusal n f = record { field = n; fault = f }

-- how many lines there are, the rows of the rule, the number of the next field, and the bytes from there on
pub record OpenedCase : Type 0 where
  pub lines : ℕ
  pub rows : List Row
  pub next : ℕ
  pub rest : List ℕ

-- fields are read from number n on, behind these names; each is asked whether it is whole and right, then whether it may stand there, and then what it does
pub data Opens : ℕ → List (List ℕ) → List ℕ → Result OpenedCase CaseRefusal → Type 0 where
  missing : {n : ℕ} {names : List (List ℕ)} {bytes : List ℕ} {r : Result OpenedCase CaseRefusal} → bytes ≡ [] → r ≡ Err (refusal n Misplaced) → Opens n names bytes r
  cut : {n : ℕ} {names : List (List ℕ)} {bytes : List ℕ} {r : Result OpenedCase CaseRefusal} → CutShort bytes → r ≡ Err (refusal n BadField) → Opens n names bytes r
  wrong : {n tag : ℕ} {names : List (List ℕ)} {bytes body rest : List ℕ} {r : Result OpenedCase CaseRefusal} → Leads bytes tag body rest → Wrong tag body → r ≡ Err (refusal n BadField) → Opens n names bytes r
  misplaced : {n tag : ℕ} {names : List (List ℕ)} {bytes body rest : List ℕ} {r : Result OpenedCase CaseRefusal} {i : Item} → Leads bytes tag body rest → Says tag body i → (MayStand names i → ⊥) → r ≡ Err (refusal n Misplaced) → Opens n names bytes r
  named : {n tag : ℕ} {names : List (List ℕ)} {bytes body rest w : List ℕ} {r : Result OpenedCase CaseRefusal} → Leads bytes tag body rest → Says tag body (name w) → MayStand names (name w) → Opens (n + 1) (names ++ (w ∷ [])) rest r → Opens n names bytes r
  no_rule : {n tag : ℕ} {names : List (List ℕ)} {bytes body rest text : List ℕ} {r : Result OpenedCase CaseRefusal} (f : RuleFault) → Leads bytes tag body rest → Says tag body (rule text) → MayStand names (rule text) → Answered names text (Err f) → r ≡ Err (refusal n (Rule f)) → Opens n names bytes r
  ruled : {n tag : ℕ} {names : List (List ℕ)} {bytes body rest text : List ℕ} {r : Result OpenedCase CaseRefusal} (rows : List Row) → Leads bytes tag body rest → Says tag body (rule text) → MayStand names (rule text) → Answered names text (Ok rows) → r ≡ Ok (record { lines = length names; rows = rows; next = n + 1; rest = rest }) → Opens n names bytes r

-- the answer, with what the reader has left then
abbrev pub heading_reply : Result Heading CaseRefusal → CaseReader → Result OpenedCase CaseRefusal
heading_reply (Ok h) after = Ok (record { lines = h.lines; rows = table_of h.rule; next = next_of after; rest = left_of after })
heading_reply (Err e) after = Err e

-- the last field that was asked for: the rule's, or the one that is refused
abbrev pub last_field : Result Heading CaseRefusal → CaseReader → ℕ
last_field (Ok h) after = after.number
last_field (Err e) after = e.field

-- the next field, which has to be there and whole; otherwise it is refused, and the reader is as it was
pub record Lacks (before : CaseReader) (e : CaseRefusal) (after : CaseReader) : Type 0 where
  pub answer : (names : List (List ℕ)) → Opens (next_of before) names (left_of before) (Err e)
  pub none : NoField (left_of before)
  pub number : e.field ≡ next_of before
  pub kept : after ≡ before

abbrev pub NeededField : CaseReader → Result Field CaseRefusal → CaseReader → Type 0
NeededField before (Ok f) after = TookField before f after
NeededField before (Err e) after = Lacks before e after

-- what one field does before the rule: it is one more name, it is the rule, or it is refused
abbrev pub Head : List (List ℕ) → ℕ → List ℕ → Option RuleTable → Type 0
Head names tag body None = Says tag body (name body) × Admits names body
Head names tag body (Some r) = (text : List ℕ) × Says tag body (rule text) × (0 < length names) × Answered names text (Ok (table_of r))

abbrev pub Refuses : List (List ℕ) → ℕ → ℕ → List ℕ → CaseRefusal → Type 0
Refuses names n tag body e = (bytes rest : List ℕ) → Leads bytes tag body rest → Opens n names bytes (Err e)

abbrev pub Heads : List (List ℕ) → ℕ → List ℕ → Result (Option RuleTable) CaseFault → Type 0
Heads names tag body (Ok o) = Head names tag body o
Heads names tag body (Err f) = (n : ℕ) → Refuses names n tag body (refusal n f)
