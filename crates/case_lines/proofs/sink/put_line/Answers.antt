use Rattle.std.proofs.Common.{}
use Rattle.std.proofs.lemmas.Result.{err_from_is_err_and}
use Rattle.case_lines.specs.LineTexts.{line_text}
use Rattle.streams.specs.Buffers.{buffered}
use Rattle.streams.proofs.Sunk.{none_sent, all_sent, broke}
use Rattle.case_lines.proofs.sink.put_line.Goals as goal
use Rattle.case_lines.proofs.sink.put_line.Goals.{then-room-lt-LINE_BYTES+in_ok-send, else-room-lt-LINE_BYTES}

pub returns-in_err-hold_line : goal.returns-in_err-hold_line
returns-in_err-hold_line g c =
    let p = err_from_is_err_and c.from_residual-in_err-hold_line.result c.from_residual-in_err-hold_line.ensures.1 in
    let a = g.W.Write.contents c.args.sink.now in
    let before = buffered c.args.buffer.now in
    broke a (g.W.Write.contents c.if-room-lt-LINE_BYTES.sink) before (line_text c.args.line) (buffered c.hold_line.new.buffer) c.from_residual-in_err-hold_line.result p.0 p.1
    (elim c.if-room-lt-LINE_BYTES.branch [
      | then-room-lt-LINE_BYTES+in_ok-send w ↦ rw w.sink-is (all_sent a (g.W.Write.contents w.send.new.sink) before w.in_ok-send.ensures.sends)
      | else-room-lt-LINE_BYTES w ↦ rw w.sink-is (none_sent a before)
    ])
