use Rattle.std.proofs.Common.{◌+◌, arith}
use Rattle.pieces.proofs.Holders.{count_within, count_more}
use Rattle.jobs.proofs.plan.touched.Goals as goal

pub returns : goal.returns
returns c =
    let ps = c.args.line.now.pieces.now in
    let low = c.started_before.ensures in
    let high = c.started.ensures.count in
    record {
      low = low;
      high = high;
      order = (omega (arith, low, high, c.requires, count_more c.args.from (c.args.to + 1) ps (omega arith)), omega (arith, c.started.ensures.some), omega (arith, high, count_within (c.args.to + 1) ps));
    }
