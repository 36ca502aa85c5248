-- Which calls on a job the steps of a script are.
use Rattle.std.specs.Prelude.{◌≡◌, ℕ, List, [], ◌∷◌, Some, None, Option, slice_get}
use Rattle.rules.specs.declared.rule.Rule.{Rule}
use Rattle.cases.specs.declared.field.Entry.{Entry}
use Rattle.scripts.specs.declared.call.Call.{Call}
use Rattle.scripts.specs.declared.call.Call.TheVariants as call
use Rattle.scripts.specs.declared.call.Portion.{Portion}
use Rattle.script_lines.specs.declared.step.Step.{Step}
use Rattle.script_lines.specs.declared.step.Step.TheVariants.{Enter, Known, Tally, Seal, Judge, Mark}
use Rattle.script_lines.specs.declared.step.GradeKind.TheVariants.{Truth, Margin}

-- the step s is the call c; a rule goes by its number
pub data IsCall (rules : List Rule) (s : Step) (c : Call) : Type 0 where
  entering : (e : Entry) → s ≡ Enter e → c ≡ call.Enter e.line e.from e.to e.lower e.upper → IsCall rules s c
  asking_known : (line : ℕ) → s ≡ Known line → c ≡ call.Known line → IsCall rules s c
  asking_tally : s ≡ Tally → c ≡ call.Tally → IsCall rules s c
  sealing : s ≡ Seal → c ≡ call.Seal → IsCall rules s c
  judging_truth : (k t rows : ℕ) (rule : _) → s ≡ Judge Truth k t rows → c ≡ call.JudgeTruth rule t rows → slice_get rules k ≡ Some rule.now → IsCall rules s c
  judging_margin : (k t rows : ℕ) (rule : _) → s ≡ Judge Margin k t rows → c ≡ call.JudgeMargin rule t rows → slice_get rules k ≡ Some rule.now → IsCall rules s c
  marking_truth : (k t : ℕ) (p : Portion) (rule : _) → s ≡ Mark Truth k t p → c ≡ call.MarkTruth rule t p → slice_get rules k ≡ Some rule.now → IsCall rules s c
  marking_margin : (k t : ℕ) (p : Portion) (rule : _) → s ≡ Mark Margin k t p → c ≡ call.MarkMargin rule t p → slice_get rules k ≡ Some rule.now → IsCall rules s c

-- the call that the step is, if it is one
abbrev pub CallOf : List Rule → Step → Option Call → Type 0
CallOf rules s None = (c : Call) → IsCall rules s c → ⊥
CallOf rules s (Some c) = IsCall rules s c

-- the calls that the steps are, in their order
pub data AreCalls (rules : List Rule) : List Step → List Call → Type 0 where
  no_steps : {ss : List Step} {cs : List Call} → ss ≡ [] → cs ≡ [] → AreCalls rules ss cs
  a_call : {ss : List Step} {cs : List Call} (s : Step) (c : Call) (steps : List Step) (calls : List Call) → ss ≡ s ∷ steps → cs ≡ c ∷ calls → IsCall rules s c → AreCalls rules steps calls → AreCalls rules ss cs
  no_call : {ss : List Step} {cs : List Call} (s : Step) (steps : List Step) → ss ≡ s ∷ steps → CallOf rules s None → AreCalls rules steps cs → AreCalls rules ss cs
