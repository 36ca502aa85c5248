-- The bytes of the worked case, field by field, and the lines of its listing.
use Rattle.std.specs.Prelude.{ℕ, List, [], ◌∷◌, ◌++◌, codes}
use Rattle.worked_cases.specs.RuleTexts.{guard_text}

-- the name `hot`, line 0
abbrev pub hot_field : List ℕ
hot_field = 0x4C ∷ 0 ∷ 3 ∷ codes "hot"

-- the name `flow`, line 1
abbrev pub flow_field : List ℕ
flow_field = 0x4C ∷ 0 ∷ 4 ∷ codes "flow"

-- the rule
abbrev pub rule_field : List ℕ
rule_field = 0x52 ∷ 0 ∷ 25 ∷ guard_text

-- hot reads 1750..1900 from tick 0 up to 10, which is not counted
abbrev pub hot_entry : List ℕ
hot_entry = 0x45 ∷ 0 ∷ 17 ∷ 0 ∷ 0 ∷ 0 ∷ 0 ∷ 0 ∷ 0 ∷ 0 ∷ 0 ∷ 0x0A ∷ 0 ∷ 0 ∷ 6 ∷ 0xD6 ∷ 0 ∷ 0 ∷ 7 ∷ 0x6C ∷ []

-- flow reads 0..0 from 0 up to 2
abbrev pub dry_entry : List ℕ
dry_entry = 0x45 ∷ 0 ∷ 17 ∷ 1 ∷ 0 ∷ 0 ∷ 0 ∷ 0 ∷ 0 ∷ 0 ∷ 0 ∷ 2 ∷ 0 ∷ 0 ∷ 0 ∷ 0 ∷ 0 ∷ 0 ∷ 0 ∷ 0 ∷ []

-- flow reads 0..40 from 2 up to 10
abbrev pub flow_entry : List ℕ
flow_entry = 0x45 ∷ 0 ∷ 17 ∷ 1 ∷ 0 ∷ 0 ∷ 0 ∷ 2 ∷ 0 ∷ 0 ∷ 0 ∷ 0x0A ∷ 0 ∷ 0 ∷ 0 ∷ 0 ∷ 0 ∷ 0 ∷ 0 ∷ 0x28 ∷ []

-- tick 0
abbrev pub tick_field : List ℕ
tick_field = 0x54 ∷ 0 ∷ 4 ∷ 0 ∷ 0 ∷ 0 ∷ 0 ∷ []

-- hot reads 1800..1850 from 2 up to 4
abbrev pub finer_entry : List ℕ
finer_entry = 0x45 ∷ 0 ∷ 17 ∷ 0 ∷ 0 ∷ 0 ∷ 0 ∷ 2 ∷ 0 ∷ 0 ∷ 0 ∷ 4 ∷ 0 ∷ 0 ∷ 7 ∷ 8 ∷ 0 ∷ 0 ∷ 7 ∷ 0x3A ∷ []

-- hot reads 1700..1900 from 2 up to 4
abbrev pub wider_entry : List ℕ
wider_entry = 0x45 ∷ 0 ∷ 17 ∷ 0 ∷ 0 ∷ 0 ∷ 0 ∷ 2 ∷ 0 ∷ 0 ∷ 0 ∷ 4 ∷ 0 ∷ 0 ∷ 6 ∷ 0xA4 ∷ 0 ∷ 0 ∷ 7 ∷ 0x6C ∷ []

-- two names, the rule, and seven fields behind it
abbrev pub worked_bytes : List ℕ
worked_bytes = hot_field ++ (flow_field ++ (rule_field ++ (hot_entry ++ (dry_entry ++ (flow_entry ++ (tick_field ++ (finer_entry ++ (tick_field ++ (wider_entry)))))))))

abbrev pub worked_lines : List ℕ
worked_lines = codes "0 unsure -40 100 2" ++ (10 ∷ codes "0 2 4" ++ (10 ∷ codes "1 2 4" ++ (10 ∷ codes "0 pass 0 50 0" ++ (10 ∷ codes "refused 5 field 10" ++ (10 ∷ [])))))
