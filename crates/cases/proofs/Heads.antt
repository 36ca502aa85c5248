-- What the fields up to the rule answer, one by one.
use Rattle.std.proofs.Common.{◌≡◌, ℕ, ◌+◌, ◌<◌, List, [], ◌∷◌, ◌++◌, length, Some, None, Ok, Err, Option, Result, sym, refl, ap, ◌∙◌, subst, Bor}
use Rattle.std.specs.Option.{ok_or}
use Rattle.std.proofs.lemmas.List.{map_push, length-map}
use Rattle.tokens.specs.Answers.{texts}
use Rattle.rules.specs.declared.fault.RuleFault.{RuleFault}
use Rattle.rules.specs.declared.rule.Rule.{Rule as RuleTable}
use Rattle.rules.specs.Texts.{table_of, Answered}
use Rattle.cases.specs.declared.fault.CaseFault.{CaseFault}
use Rattle.cases.specs.declared.fault.CaseRefusal.{CaseRefusal}
use Rattle.cases.specs.declared.fault.CaseFault.TheVariants.{BadField, Misplaced, Rule}
use Rattle.cases.specs.declared.field.Field.{Field}
use Rattle.cases.specs.declared.reader.CaseReader.{CaseReader}
use Rattle.cases.specs.Fields.{Leads}
use Rattle.cases.specs.Contents.{Item, name, rule, entry, tick, Says, Wrong}
use Rattle.cases.specs.Orders.{MayStand}
use Rattle.cases.specs.Readers.{left_of, next_of, NextField}
use Rattle.cases.specs.Headings.{refusal, OpenedCase, Opens, missing, wrong, misplaced, named, no_rule, ruled, Head, Refuses, NeededField}
use Rattle.cases.proofs.OneReading.{nothing_leads}

-- a name's field holds the name
word : Item → List ℕ
word (name w) = w
word (rule text) = []
word (entry e) = []
word (tick t) = []

module _ (names : List (List ℕ)) (tag : ℕ) (body : List ℕ) (n : ℕ) where
  pub wrong_refused : (f : CaseFault) → Wrong tag body → f ≡ BadField → Refuses names n tag body (refusal n f)
  wrong_refused f w e bytes rest l = wrong l w (ap (λ (g : CaseFault). Err (refusal n g)) e)

  pub out_of_place : (f : CaseFault) (i : Item) → Says tag body i → (MayStand names i → ⊥) → f ≡ Misplaced → Refuses names n tag body (refusal n f)
  out_of_place f i s off e bytes rest l = misplaced l s off (ap (λ (g : CaseFault). Err (refusal n g)) e)

  pub rule_refused : (f : RuleFault) (text : List ℕ) → Says tag body (rule text) → 0 < length names → Answered names text (Err f) → Refuses names n tag body (refusal n (Rule f))
  rule_refused f text s some t bytes rest l = no_rule f l s some t refl

-- where the next field has to follow
pub waits : (before after : CaseReader) (o : Option Field) (e : CaseRefusal) → NextField before (Ok o) after → e ≡ refusal (next_of after) Misplaced → NeededField before (ok_or o e) after
waits before after None e h is = record {
  answer = λ names. missing h.0 (ap Err is ∙ ap (λ (r : CaseReader). Err (refusal (next_of r) Misplaced)) h.1);
  none = λ tag body rest. nothing_leads (left_of before) h.0;
  number = ap (λ (r : CaseRefusal). r.field) is ∙ ap next_of h.1;
  kept = h.1;
}
waits before after (Some f) e h is = h

-- the names so far are those of the cells
module _ (refs : List (Bor (List ℕ))) (n m tag : ℕ) (bytes rest : List ℕ) (same : m ≡ n) where
  pub finished : (body : List ℕ) (k : ℕ) → Leads bytes tag body rest → k ≡ length refs → (r : RuleTable) → Head (texts refs) tag body (Some r) → Opens n (texts refs) bytes (Ok (record { lines = k; rows = table_of r; next = m + 1; rest = rest }))
  finished body k l size r h =
      ruled (table_of r) l h.1 h.2 h.3 (ap (λ (i : ℕ). Ok (record { lines = i; rows = table_of r; next = m + 1; rest = rest })) (size ∙ sym (length-map refs (λ x. x.now))) ∙ ap (λ (i : ℕ). Ok (record { lines = length (texts refs); rows = table_of r; next = i + 1; rest = rest })) same)

  pub onward : (b : Bor (List ℕ)) → Leads bytes tag b.now rest → Head (texts refs) tag b.now None → (more : List (Bor (List ℕ))) → more ≡ refs ++ (b ∷ []) → (r : Result OpenedCase CaseRefusal) → Opens (m + 1) (texts more) rest r → Opens n (texts refs) bytes r
  onward b l h more pushed r o =
      let grown : texts more ≡ texts refs ++ (b.now ∷ []) = ap texts pushed ∙ map_push (λ x. x.now) refs b in
      named l h.0 h.1 (subst (λ (i : ℕ). Opens (i + 1) (texts refs ++ (b.now ∷ [])) rest r) same (subst (λ (v : List (List ℕ)). Opens (m + 1) v rest r) grown o))
