use Rattle.std.proofs.Common.{◌≡◌, Ok, length, subst, ◌∙◌, arith}
use Rattle.std.proofs.lemmas.Grind.{common_steps}
use Rattle.rules.specs.Texts.{table_of}
use Rattle.jobs.specs.Jobs.{state_of}
use Rattle.compare.specs.Found.{JudgeAnswers}
use Rattle.compare.proofs.Found.{same_ends}
use Rattle.compare.proofs.question.Question.check_judge.Goals as goal

pub returns : goal.returns
returns g c =
    let q = c.args.self.now in
    let judges : _ → _ → Type 0 = λ n r. JudgeAnswers g.G.Grade.kind g.G.Grade.value (state_of q.job.now) (table_of q.rule.now) q.tick n r in
    let room : length c.as_mut_slice.result.now ≡ 2048 = grind (arith, common_steps) in
    record {
      range = c.in-Ok.range;
      judged = subst (λ n. judges n (Ok c.in-Ok.range)) room (subst (judges (length c.as_mut_slice.result.now)) c.in-Ok.is c.judge.ensures);
      is = c.ends_of-verdict.ensures;
      agrees = same_ends c.ends_of-verdict.result c.verdict.result c.eq.result c.eq.ensures c.in_ok-ensure.ensures ∙ c.verdict.ensures;
    }
