use Rattle.std.proofs.Common.{rules, ◌≡◌, Some, length, true, refl, ap, sym, subst, ◌∙◌, arith}
use Rattle.std.specs.Option.{option_eq}
use Rattle.std.proofs.lemmas.Grind.{common_steps}
use Rattle.rules.specs.Texts.{table_of}
use Rattle.jobs.specs.Jobs.{state_of}
use Rattle.judge.specs.contracts.fault.JudgeFaultPartialEq.TheImpl as fault
use Rattle.compare.specs.Found.{JudgeAnswers}
use Rattle.compare.proofs.Found.{always, refused}
use Rattle.compare.proofs.question.Question.check_bar.Goals as goal

pub returns : goal.returns
returns g c =
    let q = c.args.self.now in
    let judges : _ → Type 0 = λ r. JudgeAnswers g.G.Grade.kind g.G.Grade.value (state_of q.job.now) (table_of q.rule.now) q.tick 8 r in
    let room : length c.as_mut_slice.result.now ≡ 8 = grind (arith, common_steps) in
    let judged : judges c.judge-answer.result = subst (λ n. JudgeAnswers g.G.Grade.kind g.G.Grade.value (state_of q.job.now) (table_of q.rule.now) q.tick n c.judge-answer.result) room c.judge-answer.ensures in
    let same : _ ≡ true = ap (λ o. option_eq fault.ghosts.eq o (Some c.args.fault)) (sym c.err.ensures.value) ∙ sym c.eq.ensures ∙ c.in_ok-ensure.ensures in
    always c.ensure-2.result _ (refused fault.ghosts.eq (λ x y e. search rules) judges c.judge-answer.result (Some c.args.fault) c.args.fault judged same refl)
