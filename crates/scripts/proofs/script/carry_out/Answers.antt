use Rattle.std.proofs.Common.{drop, Ok, Err, ap, ◌∙◌, arith}
use Rattle.std.proofs.lemmas.List.{drop_all}
use Rattle.std.proofs.lemmas.Result.{err_from_is_err_and}
use Rattle.scripts.specs.Moments.{moment}
use Rattle.scripts.specs.Heard.{HeardOne}
use Rattle.scripts.proofs.Going.{onward, failed, done, ran_of}
use Rattle.scripts.proofs.script.carry_out.Goals as goal

pub returns-in_err-hear-clause-run : goal.returns-in_err-hear-clause-run
returns-in_err-hear-clause-run g c =
    let plays = c.play-reply.ensures.plays in
    let p = err_from_is_err_and c.from_residual.result c.from_residual.ensures.1 in
    let one : HeardOne g.L.Listener.hears c.call-item.result (moment c.loop-call.job c.loop-call.cells) c.loop-call.listener plays.0 (moment c.play-reply.new.job c.play-reply.new.cells) c.hear.new.self (Err c.in_err-hear.field-0.0) =
    record { reply = c.play-reply.result; plays = plays.1; heard = c.in_err-hear.ensures } in
    let w =
    failed g.L.Listener.hears c.args.calls.now (moment c.args.job.now c.args.cells.now) (moment c.loop-call.job c.loop-call.cells) (moment c.play-reply.new.job c.play-reply.new.cells) c.args.listener.now c.loop-call.listener c.hear.new.self c.loop-call.call-index
    c.call-item.result c.loop-call-test.true c.call-item.is c.loop-call.invariant.0 plays.0 c.from_residual.result c.in_err-hear.field-0.0 (p.1 ∙ ap (λ v. Err v) p.2) one in
    (w.0, (ran_of g.L.Listener.hears w.1, w.1))

pub loop-call-preserved : goal.loop-call-preserved
loop-call-preserved g c =
    let plays = c.play-reply.ensures.plays in
    let one : HeardOne g.L.Listener.hears c.call-item.result (moment c.loop-call.job c.loop-call.cells) c.loop-call.listener plays.0 (moment c.play-reply.new.job c.play-reply.new.cells) c.hear.new.self (Ok tt) =
    record { reply = c.play-reply.result; plays = plays.1; heard = c.in_ok-hear.ensures } in
    let kept = c.play-reply.ensures.loans in
    let before = c.loop-call.invariant.3 in (
      onward g.L.Listener.hears c.args.calls.now (moment c.args.job.now c.args.cells.now) (moment c.loop-call.job c.loop-call.cells) (moment c.play-reply.new.job c.play-reply.new.cells) c.args.listener.now c.loop-call.listener c.hear.new.self c.loop-call.call-index
          c.call-item.result c.loop-call-test.true c.call-item.is c.loop-call.invariant.0 plays.0 one,
      c.play-reply.ensures.kept ∙ c.loop-call.invariant.1,
      c.play-reply.ensures.loan ∙ c.loop-call.invariant.2,
      (kept.0 ∙ before.0, kept.1 ∙ before.1, kept.2 ∙ before.2, kept.3 ∙ before.3),
    )

pub returns-clause-run : goal.returns-clause-run
returns-clause-run g c =
    let w =
    done g.L.Listener.hears c.args.calls.now (moment c.args.job.now c.args.cells.now) (moment c.loop-call.job c.loop-call.cells) c.args.listener.now c.loop-call.listener (drop c.loop-call.call-index c.args.calls.now)
    (drop_all c.loop-call.call-index c.args.calls.now (omega (arith, c.loop-call-test.false))) c.loop-call.invariant.0 in
    (w.0, (ran_of g.L.Listener.hears w.1, w.1))
