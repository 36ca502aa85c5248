use Rattle.std.proofs.lemmas.Result.{err_from_is_err_and}
use Rattle.case_lines.specs.LineTexts.{line_text}
use Rattle.streams.specs.Buffers.{buffered}
use Rattle.streams.proofs.Sunk.{line_fails, line_sent}
use Rattle.case_lines.proofs.listing.write_line.Goals as goal

pub returns-in_err-put_line : goal.returns-in_err-put_line
returns-in_err-put_line g c =
    let p = err_from_is_err_and c.from_residual.result c.from_residual.ensures.1 in
    line_fails (g.W.Write.contents c.args.sink.now) (buffered c.new-buffer.result) (line_text c.args.line) c.new-buffer.ensures (g.W.Write.contents c.put_line.new.sink) c.from_residual.result p.0 p.1 c.in_err-put_line.ensures

pub returns : goal.returns
returns g c =
    let put = c.in_ok-put_line.ensures in
    line_sent (g.W.Write.contents c.args.sink.now) (buffered c.new-buffer.result) (line_text c.args.line) c.new-buffer.ensures (g.W.Write.contents c.put_line.new.sink) (g.W.Write.contents c.send.new.sink) put.0 (buffered c.put_line.new.buffer) c.send.result put.1 put.2 c.send.ensures.sends
