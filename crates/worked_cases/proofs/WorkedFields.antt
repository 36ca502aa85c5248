-- The worked case's fields, one by one.
use Rattle.std.proofs.Common.{◌≡◌, ℕ, ◌+◌, ◌<◌, ◌≤◌, List, [], ◌∷◌, ◌++◌, length, ℤ, pos, Some, None, Ok, codes, refl, ap, subst, arith}
use Rattle.std.specs.Prelude.{slice_index_or}
use Rattle.cases.specs.declared.field.Entry.{Entry}
use Rattle.cases.specs.Fields.{Leads}
use Rattle.cases.specs.Contents.{Item, entry, tick, Says, a_name, a_rule, an_entry, a_tick}
use Rattle.cases.specs.Orders.{Admits}
use Rattle.cases.specs.Headings.{OpenedCase, Opens, named, ruled}
use Rattle.cases.specs.Steps.{Stepped, Steps, ended, step}
use Rattle.meaning.specs.Cases.{guard}
use Rattle.worked_cases.specs.RuleTexts.{guard_text}
use Rattle.worked_cases.specs.WorkedCase.{flow_field, rule_field, hot_entry, dry_entry, flow_entry, tick_field, finer_entry, wider_entry, worked_bytes}
use Rattle.worked_cases.proofs.GuardText.{name_hot, name_flow, guard_read}

-- what is left behind each field, from the last to the first
abbrev pub behind_finer : List ℕ
behind_finer = tick_field ++ wider_entry

abbrev pub behind_tick : List ℕ
behind_tick = finer_entry ++ behind_finer

abbrev pub behind_flow_entry : List ℕ
behind_flow_entry = tick_field ++ behind_tick

abbrev pub behind_dry : List ℕ
behind_dry = flow_entry ++ behind_flow_entry

abbrev pub behind_hot_entry : List ℕ
behind_hot_entry = dry_entry ++ behind_dry

abbrev pub behind_rule : List ℕ
behind_rule = hot_entry ++ behind_hot_entry

abbrev pub behind_flow : List ℕ
behind_flow = rule_field ++ behind_rule

abbrev pub behind_hot : List ℕ
behind_hot = flow_field ++ behind_flow

abbrev hot_name : List ℕ
hot_name = codes "hot"

abbrev flow_name : List ℕ
flow_name = codes "flow"

hot_leads : Leads worked_bytes 0x4C hot_name behind_hot
hot_leads = record { high = 0; low = 3; whole = refl; size = refl }

flow_leads : Leads behind_hot 0x4C flow_name behind_flow
flow_leads = record { high = 0; low = 4; whole = refl; size = refl }

rule_leads : Leads behind_flow 0x52 guard_text behind_rule
rule_leads = record { high = 0; low = 25; whole = refl; size = refl }

three_few : 3 ≤ 8
three_few = omega arith

four_few : 4 ≤ 8
four_few = omega arith

hot_admitted : Admits [] hot_name
hot_admitted = record { few = omega arith; formed = name_hot; fresh = λ r. let l : r.0 < 0 = r.1 in omega arith }

flow_admitted : Admits (hot_name ∷ []) flow_name
flow_admitted = record {
  few = omega arith;
  formed = name_flow;
  fresh = λ r.
      let l : r.0 < 1 = r.1 in
      let z : r.0 ≡ 0 = omega arith in
      let d : hot_name ≡ flow_name = subst (λ i. slice_index_or (hot_name ∷ []) i [] ≡ flow_name) z r.2 in
      let h : ◌≡◌ {A = ℕ} 3 4 = ap (λ (xs : List ℕ). length xs) d in
      omega arith;
}

abbrev pub worked_opened : OpenedCase
worked_opened = record { lines = 2; rows = guard; next = 4; rest = behind_rule }

pub worked_opens : Opens 1 [] worked_bytes (Ok worked_opened)
worked_opens =
    named hot_leads (a_name refl (omega arith) three_few refl) hot_admitted
    (named flow_leads (a_name refl (omega arith) four_few refl) flow_admitted
    (ruled guard rule_leads (a_rule refl refl) (omega arith) guard_read refl))

abbrev call : ℕ → Item → List ℕ → Stepped
call n i rest = record { field = n; item = i; next = n + 1; rest = rest }

abbrev pub entry_of : ℕ → ℕ → ℕ → ℤ → ℤ → Entry
entry_of line from to lower upper = record { line = line; from = from; to = to; lower = lower; upper = upper }

abbrev hot_body : List ℕ
hot_body = 0 ∷ 0 ∷ 0 ∷ 0 ∷ 0 ∷ 0 ∷ 0 ∷ 0 ∷ 0x0A ∷ 0 ∷ 0 ∷ 6 ∷ 0xD6 ∷ 0 ∷ 0 ∷ 7 ∷ 0x6C ∷ []

abbrev pub hot_call : Stepped
hot_call = call 4 (entry (entry_of 0 0 10 (pos 1750) (pos 1900))) behind_hot_entry

hot_entry_leads : Leads behind_rule 0x45 hot_body behind_hot_entry
hot_entry_leads = record { high = 0; low = 17; whole = refl; size = refl }

hot_says : Says 0x45 hot_body (entry (entry_of 0 0 10 (pos 1750) (pos 1900)))
hot_says = an_entry refl refl refl

pub hot_step : Steps 4 behind_rule (Ok (Some hot_call))
hot_step = step hot_entry_leads hot_says tt refl

abbrev dry_body : List ℕ
dry_body = 1 ∷ 0 ∷ 0 ∷ 0 ∷ 0 ∷ 0 ∷ 0 ∷ 0 ∷ 2 ∷ 0 ∷ 0 ∷ 0 ∷ 0 ∷ 0 ∷ 0 ∷ 0 ∷ 0 ∷ []

abbrev pub dry_call : Stepped
dry_call = call 5 (entry (entry_of 1 0 2 (pos 0) (pos 0))) behind_dry

dry_leads : Leads behind_hot_entry 0x45 dry_body behind_dry
dry_leads = record { high = 0; low = 17; whole = refl; size = refl }

dry_says : Says 0x45 dry_body (entry (entry_of 1 0 2 (pos 0) (pos 0)))
dry_says = an_entry refl refl refl

pub dry_step : Steps 5 behind_hot_entry (Ok (Some dry_call))
dry_step = step dry_leads dry_says tt refl

abbrev flow_body : List ℕ
flow_body = 1 ∷ 0 ∷ 0 ∷ 0 ∷ 2 ∷ 0 ∷ 0 ∷ 0 ∷ 0x0A ∷ 0 ∷ 0 ∷ 0 ∷ 0 ∷ 0 ∷ 0 ∷ 0 ∷ 0x28 ∷ []

abbrev pub flow_call : Stepped
flow_call = call 6 (entry (entry_of 1 2 10 (pos 0) (pos 40))) behind_flow_entry

flow_entry_leads : Leads behind_dry 0x45 flow_body behind_flow_entry
flow_entry_leads = record { high = 0; low = 17; whole = refl; size = refl }

flow_says : Says 0x45 flow_body (entry (entry_of 1 2 10 (pos 0) (pos 40)))
flow_says = an_entry refl refl refl

pub flow_step : Steps 6 behind_dry (Ok (Some flow_call))
flow_step = step flow_entry_leads flow_says tt refl

abbrev first_tick_body : List ℕ
first_tick_body = 0 ∷ 0 ∷ 0 ∷ 0 ∷ []

abbrev pub first_tick_call : Stepped
first_tick_call = call 7 (tick 0) behind_tick

first_tick_leads : Leads behind_flow_entry 0x54 first_tick_body behind_tick
first_tick_leads = record { high = 0; low = 4; whole = refl; size = refl }

first_tick_says : Says 0x54 first_tick_body (tick 0)
first_tick_says = a_tick refl refl refl

pub first_tick_step : Steps 7 behind_flow_entry (Ok (Some first_tick_call))
first_tick_step = step first_tick_leads first_tick_says tt refl

abbrev finer_body : List ℕ
finer_body = 0 ∷ 0 ∷ 0 ∷ 0 ∷ 2 ∷ 0 ∷ 0 ∷ 0 ∷ 4 ∷ 0 ∷ 0 ∷ 7 ∷ 8 ∷ 0 ∷ 0 ∷ 7 ∷ 0x3A ∷ []

abbrev pub finer_call : Stepped
finer_call = call 8 (entry (entry_of 0 2 4 (pos 1800) (pos 1850))) behind_finer

finer_leads : Leads behind_tick 0x45 finer_body behind_finer
finer_leads = record { high = 0; low = 17; whole = refl; size = refl }

finer_says : Says 0x45 finer_body (entry (entry_of 0 2 4 (pos 1800) (pos 1850)))
finer_says = an_entry refl refl refl

pub finer_step : Steps 8 behind_tick (Ok (Some finer_call))
finer_step = step finer_leads finer_says tt refl

abbrev second_tick_body : List ℕ
second_tick_body = 0 ∷ 0 ∷ 0 ∷ 0 ∷ []

abbrev pub second_tick_call : Stepped
second_tick_call = call 9 (tick 0) wider_entry

second_tick_leads : Leads behind_finer 0x54 second_tick_body wider_entry
second_tick_leads = record { high = 0; low = 4; whole = refl; size = refl }

second_tick_says : Says 0x54 second_tick_body (tick 0)
second_tick_says = a_tick refl refl refl

pub second_tick_step : Steps 9 behind_finer (Ok (Some second_tick_call))
second_tick_step = step second_tick_leads second_tick_says tt refl

abbrev wider_body : List ℕ
wider_body = 0 ∷ 0 ∷ 0 ∷ 0 ∷ 2 ∷ 0 ∷ 0 ∷ 0 ∷ 4 ∷ 0 ∷ 0 ∷ 6 ∷ 0xA4 ∷ 0 ∷ 0 ∷ 7 ∷ 0x6C ∷ []

abbrev pub wider_call : Stepped
wider_call = call 10 (entry (entry_of 0 2 4 (pos 1700) (pos 1900))) []

wider_leads : Leads wider_entry 0x45 wider_body []
wider_leads = record { high = 0; low = 17; whole = refl; size = refl }

wider_says : Says 0x45 wider_body (entry (entry_of 0 2 4 (pos 1700) (pos 1900)))
wider_says = an_entry refl refl refl

pub wider_step : Steps 10 wider_entry (Ok (Some wider_call))
wider_step = step wider_leads wider_says tt refl

pub fields_end : Steps 11 [] (Ok None)
fields_end = ended refl refl
