use Rattle.std.proofs.Common.{◌∙◌}
use Rattle.std.proofs.lemmas.Result.{err_from_is_err_and}
use Rattle.rules.specs.Texts.{answer_of}
use Rattle.rule_check.proofs.Shown.{told, shown, unshown}
use Rattle.rule_check.proofs.running.run.Goals as goal

pub returns-in_err-write_answer : goal.returns-in_err-write_answer
returns-in_err-write_answer g c =
    let q = c.from_residual-in_err-write_answer in
    let p = err_from_is_err_and q.result q.ensures.1 in
    unshown (g.W.Write.contents c.args.sink.now) _ c.in_ok-input.input (answer_of c.answer-answer.result) c.answer-answer.ensures.whole (g.R.Read.remaining c.args.source.now) c.in_ok-input.ensures q.result p.0 p.1 c.in_err-write_answer.ensures

pub returns : goal.returns
returns g c =
    shown (g.W.Write.contents c.args.sink.now) _ c.in_ok-input.input (answer_of c.answer-answer.result) c.answer-answer.ensures.whole (g.R.Read.remaining c.args.source.now) c.in_ok-input.ensures c.is_ok.result (c.is_ok.ensures.value ∙ told c.answer-answer.result) c.in_ok-write_answer.ensures
