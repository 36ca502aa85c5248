use Rattle.std.proofs.Common.{subst}
use Rattle.pieces.specs.Ticks.{FirstTick}
use Rattle.pieces.specs.Pieces.{at_list}
use Rattle.jobs.proofs.Looks.{some_wide, first_reads}
use Rattle.jobs.proofs.look.first_wide.Goals as goal

pub unreachable-requires : goal.unreachable-requires
unreachable-requires c =
    let line = c.args.line.now in
    let w = c.widest.result in
    some_wide line.pieces.now line.ok w c.widest.ensures c.requires (subst (λ o. FirstTick (at_list line.pieces.now line.ok) w o) c.in_default.is c.first_tick.ensures)

pub returns : goal.returns
returns c =
    let line = c.args.line.now in
    let w = c.widest.result in
    first_reads line.pieces.now line.ok w c.in-Some.t c.widest.ensures (subst (λ o. FirstTick (at_list line.pieces.now line.ok) w o) c.in-Some.is c.first_tick.ensures)
