-- The lines of a listing.
use Rattle.std.specs.Prelude.{ℕ, List, [], ◌∷◌, ◌++◌, ℤ, Some, None, Ok, Err, codes, decimal, Option, Result}
use Rattle.std.specs.Fmt.{signed_decimal}
use Rattle.meaning.specs.declared.mark.Mark.{Mark}
use Rattle.meaning.specs.declared.outcome.Outcome.{Outcome}
use Rattle.meaning.specs.declared.outcome.Outcome.TheVariants.{Pass, Fail, Unsure}
use Rattle.runs.specs.Jobs.{JobAnswer}
use Rattle.cases.specs.declared.fault.CaseRefusal.{CaseRefusal}
use Rattle.cases.specs.Faults.{case_number, case_place}

-- refusal n of field k
abbrev pub refused_line : ℕ → ℕ → List ℕ
refused_line n k = codes "refused " ++ (decimal n ++ (codes " field " ++ (decimal k ++ (10 ∷ []))))

-- the same with a byte of the rule
abbrev pub rule_line : ℕ → ℕ → ℕ → List ℕ
rule_line n k p = codes "refused " ++ (decimal n ++ (codes " field " ++ (decimal k ++ (codes " byte " ++ (decimal p ++ (10 ∷ []))))))

abbrev pub line_at : ℕ → ℕ → Option ℕ → List ℕ
line_at n k None = refused_line n k
line_at n k (Some p) = rule_line n k p

-- what is printed of a refusal of the case
abbrev pub refusal_line : CaseRefusal → List ℕ
refusal_line e = line_at (case_number e.fault) e.field (case_place e.fault)

abbrev pub outcome_text : Outcome → List ℕ
outcome_text Pass = codes "pass"
outcome_text Fail = codes "fail"
outcome_text Unsure = codes "unsure"

-- the tick, the outcome, the two ends of the margin, and how many marks follow
abbrev pub verdict_line : ℕ → Outcome → ℤ → ℤ → ℕ → List ℕ
verdict_line t o low high count =
    decimal t ++ (codes " " ++ (outcome_text o ++ (codes " " ++ (signed_decimal low ++ (codes " " ++ (signed_decimal high ++ (codes " " ++ (decimal count ++ (10 ∷ [])))))))))

abbrev pub mark_line : Mark → List ℕ
mark_line m = decimal m.row ++ (codes " " ++ (decimal m.first ++ (codes " " ++ (decimal m.after ++ (10 ∷ [])))))

abbrev pub mark_lines : List Mark → List ℕ
mark_lines [] = []
mark_lines (m ∷ ms) = mark_line m ++ mark_lines ms

-- an accepted entry prints nothing
abbrev pub entry_text : ℕ → Result JobAnswer ℕ → List ℕ
entry_text k (Ok a) = []
entry_text k (Err n) = refused_line n k
