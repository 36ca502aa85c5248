use Rattle.std.proofs.Common.{refl, ◌∙◌}
use Rattle.std.proofs.lemmas.Result.{err_from_is_err_and}
use Rattle.case_lines.specs.LineTexts.{line_text}
use Rattle.streams.specs.Buffers.{buffered}
use Rattle.case_lines.specs.Rests.{RestPrints}
use Rattle.case_lines.proofs.Left.{carried_twice, same_twice}
use Rattle.streams.proofs.Resting.{Unsent, start, one_more, unsent_on, unsent_back, broken, failed, at_last}
use Rattle.case_lines.proofs.listing.write_rest.Goals as goal

pub loop-line-init : goal.loop-line-init
loop-line-init g c =
    (start (g.W.Write.contents c.args.sink.now) (RestPrints c.args.lister.now) (buffered c.new-buffer.result) c.new-buffer.ensures, λ z after h. h, record { many = refl; behind = refl }, refl, refl, (refl, refl, refl, refl), refl, refl)

pub loop-line-preserved : goal.loop-line-preserved
loop-line-preserved g c =
    let inv = c.loop-line.invariant in
    let put = c.in_ok-put_line.ensures in
    let here = c.in-Some.ensures in
    let buf = buffered c.loop-line.buffer in
    let later = buffered c.put_line.new.buffer in (
      one_more (g.W.Write.contents c.args.sink.now) (RestPrints c.args.lister.now) (g.W.Write.contents c.loop-line.sink) (Unsent buf (RestPrints c.loop-line.lister)) inv.0
          (g.W.Write.contents c.put_line.new.sink) put.0 (Unsent later (RestPrints c.next.new.self))
          (unsent_on buf put.0 later (line_text c.in-Some.line) put.2 (RestPrints c.loop-line.lister) (RestPrints c.next.new.self) here.prints)
          (unsent_back buf put.0 later (line_text c.in-Some.line) put.2 (RestPrints c.loop-line.lister) (RestPrints c.next.new.self) here.only) put.1,
      λ z after h. inv.1 z after (here.leaves z after h),
      carried_twice c.args.lister.now.job.now c.loop-line.lister.job.now c.next.new.self.job.now inv.2 here.pieces,
      here.loan ∙ inv.3,
      here.kept ∙ inv.4,
      same_twice c.args.lister.now.cells.now c.loop-line.lister.cells.now c.next.new.self.cells.now inv.5 here.loans,
      here.same_job ∙ inv.6,
      here.same_cells ∙ inv.7,
    )

pub returns-in_err-put_line-clause-prints : goal.returns-in_err-put_line-clause-prints
returns-in_err-put_line-clause-prints g c =
    let p = err_from_is_err_and c.from_residual.result c.from_residual.ensures.1 in
    let buf = buffered c.loop-line.buffer in
    failed (g.W.Write.contents c.args.sink.now) (g.W.Write.contents c.put_line.new.sink) (RestPrints c.args.lister.now) c.from_residual.result p.0 p.1
    (broken (g.W.Write.contents c.args.sink.now) (RestPrints c.args.lister.now) (g.W.Write.contents c.loop-line.sink) (Unsent buf (RestPrints c.loop-line.lister)) c.loop-line.invariant.0
    (g.W.Write.contents c.put_line.new.sink) buf (RestPrints c.loop-line.lister) (λ text h. h) c.in_err-put_line.ensures)

pub returns-clause-prints : goal.returns-clause-prints
returns-clause-prints g c =
    at_last (g.W.Write.contents c.args.sink.now) (RestPrints c.args.lister.now) (buffered c.loop-line.buffer) (g.W.Write.contents c.loop-line.sink) (g.W.Write.contents c.send.new.sink) (RestPrints c.loop-line.lister) c.send.result c.loop-line.invariant.0
    c.in_default.ensures.prints c.send.ensures.sends
