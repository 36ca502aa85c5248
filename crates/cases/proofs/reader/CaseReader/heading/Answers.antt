use Rattle.std.proofs.Common.{◌≡◌, ◌∙◌, arith, rules}
use Rattle.std.proofs.lemmas.List.{length-map}
use Rattle.std.proofs.lemmas.Result.{err_from_is_err_and}
use Rattle.cases.proofs.Heads.{finished, onward}
use Rattle.cases.proofs.Refused.{kept}
use Rattle.cases.proofs.Standing as standing
use Rattle.cases.proofs.reader.CaseReader.heading.Goals as goal

pub returns-in-Some-clause-answer : goal.returns-in-Some-clause-answer
returns-in-Some-clause-answer c =
    let took = c.in_ok-field.ensures in
    let inv = c.loop-field.invariant in
    let k = kept c.head.result c.in_ok-found.found c.in_ok-found.ensures.cases in
    let h = rw (k, c.in-Some.is, c.as_slice.ensures.value) at c.head.ensures in
    inv.1 _ (finished c.loop-field.names.items _ _ _ _ _ (took.count ∙ took.number) _ c.len.result took.leads c.len.ensures.value c.in-Some.rule h)

pub loop-field-preserved : goal.loop-field-preserved
loop-field-preserved c =
    let took = c.in_ok-field.ensures in
    let inv = c.loop-field.invariant in
    let k = kept c.head.result c.in_ok-found.found c.in_ok-found.ensures.cases in
    let h = rw (k, c.in_default.is, c.as_slice.ensures.value) at c.head.ensures in
    (omega (arith, h.1.few, length-map c.loop-field.names.items (λ x. x.now), c.push.ensures.len), λ r o. inv.1 r (onward c.loop-field.names.items _ _ _ _ _ (took.count ∙ took.number) c.in_ok-field.field.bytes took.leads h c.push.new.self.items c.push.ensures.items r o), λ k after h. inv.2 k after (standing.onward c.loop-field.self after k c.wanted.new.reader c.in_ok-field.field took h))

pub returns-in-Some-clause-left : goal.returns-in-Some-clause-left
returns-in-Some-clause-left c =
    let took = c.in_ok-field.ensures in
    c.loop-field.invariant.2 _ c.wanted.new.reader (standing.ends c.loop-field.self c.wanted.new.reader _ (took.count ∙ took.number) (standing.taken c.loop-field.self c.wanted.new.reader c.in_ok-field.field took))

pub returns-in_err-field-clause-left : goal.returns-in_err-field-clause-left
returns-in_err-field-clause-left c =
    let p = err_from_is_err_and c.from_residual.result c.from_residual.ensures.1 in
    let lacks = c.in_err-field.ensures in
    rw (p.1, p.2) (c.loop-field.invariant.2 _ c.wanted.new.reader (standing.ends c.loop-field.self c.wanted.new.reader _ lacks.number (standing.untaken c.loop-field.self c.wanted.new.reader lacks.none lacks.kept)))

pub returns-in_err-found-clause-left : goal.returns-in_err-found-clause-left
returns-in_err-found-clause-left c =
    let p = err_from_is_err_and c.from_residual-in_err-found.result c.from_residual-in_err-found.ensures.1 in
    let took = c.in_ok-field.ensures in
    let here : c.in_err-found.field-0.0.field ≡ c.in_ok-field.field.number = search rules in
    rw (p.1, p.2) (c.loop-field.invariant.2 _ c.wanted.new.reader (standing.ends c.loop-field.self c.wanted.new.reader _ (here ∙ took.number) (standing.taken c.loop-field.self c.wanted.new.reader c.in_ok-field.field took)))
