use Rattle.std.proofs.Common.{◌*◌, length, get_or, take, pos}
use Rattle.std.proofs.lemmas.List.{take_more}
use Rattle.rules.specs.declared.row.Row.{Row}
use Rattle.rules.specs.declared.row.Row.TheVariants.{Test}
use Rattle.rules.specs.declared.row.Side.TheVariants.{AtLeast}
use Rattle.rules.proofs.Reaches.{again}
use Rattle.rules.proofs.reach.reach_of.Goals as goal

pub loop-row-preserved : goal.loop-row-preserved
loop-row-preserved c =
    let k = c.loop-row.row-index in
    let rows = c.args.rows.now in
    let inv = c.loop-row.invariant in
    let same = c.as_slice.ensures.value in
    let any : Row = Test 0 AtLeast (pos 0) in
    rw (take_more rows k any c.loop-row-test.true) (again (take k rows) c.loop-row.found.items c.push.new.self.items (get_or rows k any) c.row_reach-reach.result inv (rw same at c.row_reach-reach.ensures.value) (c.row_reach-reach.ensures.bound (length (take k rows) * 4294967296) (rw same inv.bound)) c.push.ensures.items)
