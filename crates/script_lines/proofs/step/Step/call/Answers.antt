use Rattle.std.proofs.Common.{refl, to_z-of_z, w32, SFits, rules, arith}
use Rattle.std.proofs.lemmas.Grind.{common_steps}
use Rattle.std.proofs.lemmas.Option.{gets}
use Rattle.scripts.specs.declared.call.Call.TheVariants as call
use Rattle.script_lines.specs.Makes.{entering, asking_known, judging_truth, judging_margin, marking_truth, marking_margin}
use Rattle.script_lines.proofs.step.Step.call.Goals as goal

pub returns-in-Enter : goal.returns-in-Enter
returns-in-Enter c =
    let low : SFits w32 c.in-Enter.entry.lower = search rules in
    let high : SFits w32 c.in-Enter.entry.upper = search rules in
    entering c.in-Enter.entry c.in-Enter.is (λ i. call.Enter c.in-Enter.entry.line c.in-Enter.entry.from c.in-Enter.entry.to (to_z-of_z low i) (to_z-of_z high i))

pub returns-in-Known : goal.returns-in-Known
returns-in-Known c = asking_known c.in-Known.line c.in-Known.is refl

pub returns-in_ok-get-in-Judge-Truth-default-default-default : goal.returns-in_ok-get-in-Judge-Truth-default-default-default
returns-in_ok-get-in-Judge-Truth-default-default-default c =
    let s = c.in-Judge-Truth-default-default-default in
    judging_truth s.rule s.tick s.rows c.in_ok-get-in-Judge-Truth-default-default-default.field-0 (search rules) refl (grind (arith, common_steps, gets))

pub returns-in_ok-get-in-Judge-Margin-default-default-default : goal.returns-in_ok-get-in-Judge-Margin-default-default-default
returns-in_ok-get-in-Judge-Margin-default-default-default c =
    let s = c.in-Judge-Margin-default-default-default in
    judging_margin s.rule s.tick s.rows c.in_ok-get-in-Judge-Margin-default-default-default.field-0 (search rules) refl (grind (arith, common_steps, gets))

pub returns-in_ok-get-in-Mark-Truth-default-default-default : goal.returns-in_ok-get-in-Mark-Truth-default-default-default
returns-in_ok-get-in-Mark-Truth-default-default-default c =
    let s = c.in-Mark-Truth-default-default-default in
    marking_truth s.rule s.tick s.portion c.in_ok-get-in-Mark-Truth-default-default-default.field-0 (search rules) refl (grind (arith, common_steps, gets))

pub returns-in_ok-get-in-Mark-Margin-default-default-default : goal.returns-in_ok-get-in-Mark-Margin-default-default-default
returns-in_ok-get-in-Mark-Margin-default-default-default c =
    let s = c.in-Mark-Margin-default-default-default in
    marking_margin s.rule s.tick s.portion c.in_ok-get-in-Mark-Margin-default-default-default.field-0 (search rules) refl (grind (arith, common_steps, gets))
