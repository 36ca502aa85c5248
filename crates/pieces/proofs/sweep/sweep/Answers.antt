use Rattle.std.proofs.Common.{◌+◌, ◌^◌, ◌<◌, set, ◌∙◌, arith, length-set}
use Rattle.pieces.proofs.Tellings.{same_seen, other_seen}
use Rattle.pieces.proofs.Steadies.{falls}
use Rattle.pieces.proofs.Sweeps.{piece, going_first, going_same, going_push, going_whole, going_short, no_room}
use Rattle.pieces.proofs.sweep.sweep.Goals as goal

pub returns-then-used-cells : goal.returns-then-used-cells
returns-then-used-cells g c = no_room g.S.Signal.value (g.S.Signal.f c.args.source.now) c.args.cells.now c.args.used c.if-used-cells.true

pub loop-next-init : goal.loop-next-init
loop-next-init g c =
    let cells = set c.args.cells.now c.args.used (piece 0 c.step_near-first.result.0) in
    going_first g.S.Signal.value (g.S.Signal.f c.args.source.now) cells (c.args.used + 1) c.step_near-first.result.0 c.step_near-first.result.1 (simp length-set (omega arith)) c.step_near-first.ensures.steady

pub loop-next-preserved : goal.loop-next-preserved
loop-next-preserved g c =
    let first = c.step_near-first.result.0 in
    let v = c.step_near-value.result.0 in
    going_same g.S.Signal.value (g.S.Signal.f c.args.source.now) (set c.args.cells.now c.args.used (piece 0 first)) (c.args.used + 1) first c.loop-next.cells c.loop-next.end c.loop-next.last c.loop-next.next c.loop-next.invariant c.in-Some.t v c.step_near-value.result.1 c.in-Some.is
    (same_seen g.V.Same.value g.S.Signal.value v c.loop-next.last c.same.result c.step_near-value.ensures.agree c.same.ensures c.if-not-same.false) c.step_near-value.ensures.steady

pub loop-next-preserved-else-end-cells : goal.loop-next-preserved-else-end-cells
loop-next-preserved-else-end-cells g c =
    let first = c.step_near-first.result.0 in
    let v = c.step_near-value.result.0 in
    going_push g.S.Signal.value (g.S.Signal.f c.args.source.now) (set c.args.cells.now c.args.used (piece 0 first)) (c.args.used + 1) first c.loop-next.cells c.loop-next.end c.loop-next.last c.loop-next.next c.loop-next.invariant c.in-Some.t v c.step_near-value.result.1 c.in-Some.is
    (other_seen g.V.Same.value g.S.Signal.value v c.loop-next.last c.same.result c.step_near-value.ensures.agree c.same.ensures c.if-not-same.true) (omega arith) c.step_near-value.ensures.steady

pub loop-next-smaller : goal.loop-next-smaller
loop-next-smaller g c =
    let fits : c.in-Some.t < 2 ^ 32 = omega arith in
    falls c.loop-next.next c.in-Some.t c.step_near-value.result.1 c.in-Some.is fits c.step_near-value.ensures.steady.0

pub returns : goal.returns
returns g c =
    let first = c.step_near-first.result.0 in
    going_whole g.S.Signal.value (g.S.Signal.f c.args.source.now) c.args.cells.now c.args.used c.if-used-cells.false first c.loop-next.cells c.loop-next.end c.loop-next.last c.loop-next.next
    (c.loop-next.auto.cells ∙ length-set c.args.cells.now c.args.used (piece 0 first)) c.loop-next.invariant c.in_default.is

pub returns-then-end-cells : goal.returns-then-end-cells
returns-then-end-cells g c =
    let first = c.step_near-first.result.0 in
    let v = c.step_near-value.result.0 in
    going_short g.S.Signal.value (g.S.Signal.f c.args.source.now) c.args.cells.now c.args.used c.if-used-cells.false first c.loop-next.cells c.loop-next.end c.loop-next.last c.loop-next.next
    (c.loop-next.auto.cells ∙ length-set c.args.cells.now c.args.used (piece 0 first)) c.loop-next.invariant c.in-Some.t v c.step_near-value.result.1 c.in-Some.is
    (other_seen g.V.Same.value g.S.Signal.value v c.loop-next.last c.same.result c.step_near-value.ensures.agree c.same.ensures c.if-not-same.true) (omega arith) c.step_near-value.ensures.steady
