use Rattle.std.proofs.Common.{rules, ◌≡◌, length, true, ap, sym, subst, ◌∙◌, arith}
use Rattle.std.specs.Option.{option_eq}
use Rattle.std.proofs.lemmas.Grind.{common_steps}
use Rattle.rules.specs.Texts.{table_of}
use Rattle.jobs.specs.Jobs.{state_of}
use Rattle.judge.specs.declared.fault.JudgeFault.TheVariants.{RowCells}
use Rattle.judge.specs.contracts.fault.JudgeFaultPartialEq.TheImpl as fault
use Rattle.compare.specs.Found.{JudgeAnswers}
use Rattle.compare.proofs.Found.{always, refused, given}
use Rattle.compare.proofs.question.Question.judge_in.Goals as goal

pub returns : goal.returns
returns g c =
    let q = c.args.self.now in
    let judges : _ → Type 0 = λ r. JudgeAnswers g.G.Grade.kind g.G.Grade.value (state_of q.job.now) (table_of q.rule.now) q.tick c.args.room r in
    let room : length c.as_mut_slice.result.now ≡ c.args.room = grind (arith, common_steps) in
    let judged : judges c.judge-answer.result = subst (λ n. JudgeAnswers g.G.Grade.kind g.G.Grade.value (state_of q.job.now) (table_of q.rule.now) q.tick n c.judge-answer.result) room c.judge-answer.ensures in
    let same : _ ≡ true = ap (λ o. option_eq fault.ghosts.eq o c.then_some-refusal.result) (sym c.err.ensures.value) ∙ sym c.eq.ensures ∙ c.in_ok-ensure.ensures in
    always c.ensure-3.result _ (record {
      short = λ less. refused fault.ghosts.eq (λ x y e. search rules) judges c.judge-answer.result c.then_some-refusal.result RowCells judged same (grind (arith, common_steps));
      enough = λ fits. given fault.ghosts.eq (λ x y e. search rules) judges c.judge-answer.result c.then_some-refusal.result judged same (grind (arith, common_steps));
    })
