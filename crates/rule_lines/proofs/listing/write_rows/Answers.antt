use Rattle.std.proofs.Common.{true, refl}
use Rattle.rule_lines.proofs.Listed.{more}
use Rattle.rule_lines.proofs.listing.write_rows.Goals as goal

pub loop-number-preserved : goal.loop-number-preserved
loop-number-preserved g c plain =
    let sofar = c.loop-number.invariant plain in
    let line = c.in_ok-write_row.ensures sofar.plain (refl {a = true}) in
    more g.W.Write.write_str_gives c.args.f.now c.loop-number.f c.write_row.new.f c.args.rows.now c.loop-number.number _ c.loop-number-test.true sofar line
