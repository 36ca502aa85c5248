use Rattle.jobs.proofs.Stretches.{plan_lists}
use Rattle.jobs.proofs.plan.plan.Goals as goal

pub returns : goal.returns
returns c =
    let t = c.touched-keep in
    record {
      order = (t.ensures.order.0, t.ensures.order.2);
      lists = plan_lists c.args.line.now.pieces.now c.args.from c.args.to t.result.0 t.result.1 c.args.value c.following.result c.unless_same.result c.index-pieces-skip.result
          c.requires.canonical c.requires.order t.ensures.low t.ensures.high c.following.ensures c.unless_same.ensures;
    }
