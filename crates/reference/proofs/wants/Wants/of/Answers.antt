use Rattle.std.proofs.Common.{refl, sym, subst, arith}
use Rattle.reference.specs.RowWants.{AskedAt}
use Rattle.reference.proofs.Spreading.{asked_first, asked_none}
use Rattle.reference.proofs.wants.Wants.of.Goals as goal
use Rattle.reference.proofs.wants.Wants.of.Goals.{in-Some, in_default}

pub loop-k-init : goal.loop-k-init
loop-k-init g c = elim c.match-checked_sub.branch [
  | in-Some w ↦ let is : _ = w.in-Some.ensures in subst (AskedAt c.args.rows.now c.args.tick) (sym w.wants-is) (asked_first c.args.rows.now c.args.tick w.in-Some.last _ w.want.new.self refl (omega (arith, is.0, is.1)) w.want.ensures.spread (λ few kept. w.want.ensures.there c.args.tick few (omega arith) (omega (arith, w.saturating_add.ensures)) kept))
  | in_default w ↦ subst (AskedAt c.args.rows.now c.args.tick) (sym w.wants-is) (asked_none c.args.rows.now c.args.tick _ refl (omega (arith, w.in_default.ensures)))
]
