use Rattle.std.proofs.Common.{◌+◌, false, length, eqb, refl, ap, arith, rules, tests}
use Rattle.std.proofs.lemmas.List.{length_push}
use Rattle.std.proofs.lemmas.List.FromFn.{length-enumerate_from}
use Rattle.std.proofs.lemmas.Result.{err_from_is_err_and}
use Rattle.std.proofs.lemmas.Iterator.Consumers.{YieldsList-at, YieldsList-from_enumerate}
use Rattle.std.proofs.lemmas.Iterator.Splits.{YieldsList-from_slice_split}
use Rattle.tokens.specs.Answers.{texts}
use Rattle.case_text.specs.Pieces.{lines_of}
use Rattle.case_text.proofs.Turns.{turn, end_of}
use Rattle.case_text.proofs.Growing.{none_held, next_line, gone_on, ended, stopped}
use Rattle.case_text.proofs.packing.pack.Goals as goal

pub loop-index-init : goal.loop-index-init
loop-index-init c = none_held (λ i. record { names = texts (c.new.ensures i); ruled = false; size = length (c.new-2.ensures i) }) c.new-2.ensures

pub loop-index-preserved : goal.loop-index-preserved
loop-index-preserved c =
    let t = turn c.loop-index.yielded _ c.loop-index.yielded_by _ _ c.next.ensures.steps (c.in-Some.index, c.in-Some.line) c.in-Some.is (YieldsList-at (cc) (YieldsList-from_enumerate (YieldsList-at c.enumerate-index-items.ensures.source (YieldsList-from_slice_split _ (λ b. eqb b 10) c.args.text.now c.split.ensures.rest c.split.ensures.done c.split.ensures.closure (λ x b q k. search (rules, tests)))) c.enumerate-index-items.ensures.count)) in
    let at = next_line (lines_of c.args.text.now) _ _ _ t.0 t.1 in
    rw length_push (gone_on (lines_of c.args.text.now) (length c.loop-index.yielded) c.in-Some.line.now at.0 at.2 c.loop-index.invariant c.in_ok-take.ensures)

pub returns-in_err-take : goal.returns-in_err-take
returns-in_err-take c =
    let p = err_from_is_err_and c.from_residual.result c.from_residual.ensures.1 in
    let t = turn c.loop-index.yielded _ c.loop-index.yielded_by _ _ c.next.ensures.steps (c.in-Some.index, c.in-Some.line) c.in-Some.is (YieldsList-at (cc) (YieldsList-from_enumerate (YieldsList-at c.enumerate-index-items.ensures.source (YieldsList-from_slice_split _ (λ b. eqb b 10) c.args.text.now c.split.ensures.rest c.split.ensures.done c.split.ensures.closure (λ x b q k. search (rules, tests)))) c.enumerate-index-items.ensures.count)) in
    let at = next_line (lines_of c.args.text.now) _ _ _ t.0 t.1 in
    rw (p.1, p.2) (stopped _ c.args.text.now (length c.loop-index.yielded) (c.in-Some.index + 1) c.in-Some.line.now at.0 at.2 (ap (λ n. n + 1) at.1) c.loop-index.invariant c.in_err-take.ensures)

pub returns : goal.returns
returns c =
    let t = end_of c.loop-index.yielded _ c.loop-index.yielded_by _ _ c.next.ensures.steps c.in-None.is (YieldsList-at (cc) (YieldsList-from_enumerate (YieldsList-at c.enumerate-index-items.ensures.source (YieldsList-from_slice_split _ (λ b. eqb b 10) c.args.text.now c.split.ensures.rest c.split.ensures.done c.split.ensures.closure (λ x b q k. search (rules, tests)))) c.enumerate-index-items.ensures.count)) in
    ended c.args.text.now (length c.loop-index.yielded) (omega (arith, t, length-enumerate_from 0 (lines_of c.args.text.now))) refl c.loop-index.invariant
