use Rattle.std.proofs.Common.{◌≡◌, Ok, Err, Option, subst, rules}
use Rattle.cases.specs.declared.fault.CaseFault.{CaseFault}
use Rattle.cases.specs.Headings.{refusal}
use Rattle.std.proofs.lemmas.Result.{err_from_is_err_and}
use Rattle.cases.specs.declared.field.Field.{Field}
use Rattle.cases.specs.Readers.{left_of, NextField}
use Rattle.cases.proofs.CallSteps.{stepped, refused}
use Rattle.cases.proofs.Refused.{kept}
use Rattle.cases.proofs.OneReading.{nothing_leads}
use Rattle.cases.proofs.Standing.{taken, untaken}
use Rattle.cases.proofs.reader.CaseReader.step.Goals as goal

pub returns-in_err-call-clause-answer : goal.returns-in_err-call-clause-answer
returns-in_err-call-clause-answer c =
    let p = err_from_is_err_and c.from_residual-in_err-call.result c.from_residual-in_err-call.ensures.1 in
    let took = subst (λ (o : Option Field). NextField c.args.self.now (Ok o) c.next.new.self) c.in-Some.is c.in_ok-field.ensures in
    let f : (x : CaseFault) × (c.call_of.result ≡ Err x) × (c.in_err-call.field-0.0 ≡ refusal c.in-Some.field.number x) = search rules in
    rw (p.1, p.2, f.2) (refused _ _ 0 _ _ _ _ took.leads took.number f.0 (rw f.1 at c.call_of.ensures))

pub returns-clause-answer : goal.returns-clause-answer
returns-clause-answer c =
    let took = subst (λ (o : Option Field). NextField c.args.self.now (Ok o) c.next.new.self) c.in-Some.is c.in_ok-field.ensures in
    let k = kept c.call_of.result c.in_ok-call.call c.in_ok-call.ensures.cases in
    stepped _ _ _ _ _ _ _ took.leads took.number c.in_ok-call.call took.count (rw k at c.call_of.ensures)

pub returns-in_err-field-clause-left : goal.returns-in_err-field-clause-left
returns-in_err-field-clause-left c = let h = c.in_err-field.ensures in untaken c.args.self.now c.next.new.self h.0.none h.2

pub returns-in_default-clause-left : goal.returns-in_default-clause-left
returns-in_default-clause-left c =
    let h = subst (λ (o : Option Field). NextField c.args.self.now (Ok o) c.next.new.self) c.in_default.is c.in_ok-field.ensures in
    untaken c.args.self.now c.next.new.self (λ tag body rest. nothing_leads (left_of c.args.self.now) h.0) h.1

pub returns-in_err-call-clause-left : goal.returns-in_err-call-clause-left
returns-in_err-call-clause-left c = taken c.args.self.now c.next.new.self c.in-Some.field (subst (λ (o : Option Field). NextField c.args.self.now (Ok o) c.next.new.self) c.in-Some.is c.in_ok-field.ensures)

pub returns-clause-left : goal.returns-clause-left
returns-clause-left c = taken c.args.self.now c.next.new.self c.in-Some.field (subst (λ (o : Option Field). NextField c.args.self.now (Ok o) c.next.new.self) c.in-Some.is c.in_ok-field.ensures)
