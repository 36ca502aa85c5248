use Rattle.jobs.proofs.Stretches.{follows_is}
use Rattle.jobs.proofs.plan.following.Goals as goal

pub returns : goal.returns
returns c = follows_is c.args.pieces.now c.args.keep c.index-pieces-keep.result c.args.start c.args.value c.unless_same.result c.if-keep-eq0.false c.requires c.unless_same.ensures
