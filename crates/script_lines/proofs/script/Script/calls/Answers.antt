use Rattle.std.proofs.Common.{◌+◌, take, pos, sym, refl, ap, ◌∙◌, subst}
use Rattle.script_lines.specs.declared.step.Step.{Step}
use Rattle.script_lines.specs.declared.step.Step.TheVariants.{Enter}
use Rattle.script_lines.specs.Makes.{AreCalls, no_steps}
use Rattle.script_lines.proofs.Making.{call_more, other_more}
use Rattle.script_lines.proofs.script.Script.calls.Goals as goal
use Rattle.script_lines.proofs.script.Script.calls.Goals.{in-Some+in_ok-push, in_default}

pub loop-step-init : goal.loop-step-init
loop-step-init c = no_steps refl c.new-calls.ensures.items

pub loop-step-preserved : goal.loop-step-preserved
loop-step-preserved c =
    let rules = c.args.self.now.rules.items in
    let steps = c.as_slice-step-items.result.now in
    let before = c.loop-step.calls.items in
    let i = c.loop-step.step-index in
    let lt = c.loop-step-test.true in
    -- what stands for a step beyond the last
    let blank : Step = Enter (record { line = 0; from = 0; to = 0; lower = pos 0; upper = pos 0 }) in
    let over = c.as_slice.ensures.value in
    elim c.match-call.branch [
      | in-Some+in_ok-push w ↦ subst (λ v. AreCalls rules (take (i + 1) steps) v) (sym (ap (λ v. v.items) w.calls-is ∙ w.in_ok-push.ensures.items))
          (call_more rules c.as_slice.result.now steps before i w.in-Some.call blank lt c.loop-step.invariant over w.in-Some.ensures)
      | in_default w ↦ subst (λ v. AreCalls rules (take (i + 1) steps) v) (sym (ap (λ v. v.items) w.calls-is)) (other_more rules c.as_slice.result.now steps before i blank lt c.loop-step.invariant over w.in_default.ensures)
    ]
