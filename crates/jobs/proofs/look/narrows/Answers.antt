use Rattle.std.proofs.Common.{⊎_elim, arith}
use Rattle.std.proofs.lemmas.Bool.{cases_lt}
use Rattle.jobs.proofs.Looks.{narrow_here, narrow_step}
use Rattle.jobs.proofs.look.narrows.Goals as goal

pub loop-t-init : goal.loop-t-init
loop-t-init c = (omega arith, λ u a b. absurd (omega arith))

pub returns-then-not-inside : goal.returns-then-not-inside
returns-then-not-inside c =
    let l = c.lookup-next in
    λ all. c.if-not-inside.ensures
    (narrow_here c.args.line.now.pieces.now c.args.line.now.ok c.args.reading l.result.0 l.result.1 c.loop-t.t l.ensures
    (all c.loop-t.t c.loop-t.invariant.0 c.loop-t-test.true))

pub loop-t-smaller : goal.loop-t-smaller
loop-t-smaller c =
    let l = c.lookup-next in
    let s = narrow_step c.args.line.now.pieces.now c.args.line.now.ok c.args.reading l.result.0 l.result.1 c.loop-t.t l.ensures
    c.args.to c.unwrap_or-t.result c.unwrap_or-t.ensures c.loop-t-test.true c.if-not-inside.ensures in
    omega (arith, s.0, c.loop-t-test.true)

pub loop-t-preserved : goal.loop-t-preserved
loop-t-preserved c =
    let l = c.lookup-next in
    let s = narrow_step c.args.line.now.pieces.now c.args.line.now.ok c.args.reading l.result.0 l.result.1 c.loop-t.t l.ensures
    c.args.to c.unwrap_or-t.result c.unwrap_or-t.ensures c.loop-t-test.true c.if-not-inside.ensures in
    (omega (arith, s.0, c.loop-t.invariant.0), λ u a b. ⊎_elim (λ h. c.loop-t.invariant.1 u a h) (λ h. s.1 u h b) (cases_lt u c.loop-t.t))

pub returns : goal.returns
returns c = λ u a b. c.loop-t.invariant.1 u a (omega arith)
