use Rattle.std.proofs.Common.{◌≡◌, length, rules}
use Rattle.streams.proofs.Filled.{first_read}
use Rattle.forecast_check.proofs.reading.read_case.Goals as goal

pub returns-clause-bytes : goal.returns-clause-bytes
returns-clause-bytes g c =
    let same : length c.args.case.now ≡ 16385 = search rules in
    first_read c.fill.result (g.R.Read.remaining c.args.source.now) (g.R.Read.remaining c.fill.new.source) c.fill.new.buffer (length c.args.case.now) 16385 c.fill.auto.buffer same c.fill.ensures.fits c.fill.ensures.bytes c.fill.ensures.end
