use Rattle.std.proofs.Common.{take}
use Rattle.std.proofs.lemmas.Result.{err_from_is_err_and}
use Rattle.case_lines.specs.Listings.{Listing, lent_cells}
use Rattle.streams.proofs.Resting.{nothing}
use Rattle.forecast_check.proofs.running.run.Goals as goal

pub returns-in_err-size : goal.returns-in_err-size
returns-in_err-size g c =
    let p = err_from_is_err_and c.from_residual.result c.from_residual.ensures.1 in
    nothing (g.R.Read.remaining c.args.source.now) (g.W.Write.contents c.args.sink.now) (λ xs. Listing (lent_cells 1024 1024 1024 1024 256) (take 16385 xs)) c.from_residual.result p.0 p.1
