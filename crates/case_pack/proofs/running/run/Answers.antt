use Rattle.std.proofs.lemmas.Result.{err_from_is_err_and}
use Rattle.case_pack.proofs.Breaking.{broken_off}
use Rattle.case_pack.proofs.running.run.Goals as goal

pub returns-in_err-write_front-in-Ok : goal.returns-in_err-write_front-in-Ok
returns-in_err-write_front-in-Ok g c =
    let p = err_from_is_err_and c.from_residual-in_err-write_front-in-Ok.result c.from_residual-in_err-write_front-in-Ok.ensures.1 in
    broken_off (g.R.Read.remaining c.args.source.now) (g.W.Write.contents c.args.sink.now) (g.W.Write.contents c.write_front.new.sink) c.new-text.result.items c.read_to_end.new.buf.items c.as_slice.result.now c.in-Ok.case.items c.as_slice-in-Ok.result.now c.from_residual-in_err-write_front-in-Ok.result p.0 p.1 c.new-text.ensures.items c.in_ok-read_to_end.ensures.bytes c.as_slice.ensures.value c.in-Ok.ensures c.as_slice-in-Ok.ensures.value c.in_err-write_front-in-Ok.ensures
