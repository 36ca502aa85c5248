use Rattle.std.proofs.Common.{Err, ap}
use Rattle.std.proofs.lemmas.Result.{err_from_is_err_and}
use Rattle.cases.specs.declared.fault.CaseRefusal.{CaseRefusal}
use Rattle.cases.specs.Headings.{cut}
use Rattle.cases.proofs.Heads.{waits}
use Rattle.cases.proofs.opening.wanted.Goals as goal

pub returns-in_err-next : goal.returns-in_err-next
returns-in_err-next c =
    let p = err_from_is_err_and c.from_residual.result c.from_residual.ensures.1 in
    let h = c.in_err-next.ensures in
    rw (p.1, p.2) (record { answer = λ names. cut h.0 (ap (λ (e : CaseRefusal). Err e) h.1); none = h.0.none; number = ap (λ (e : CaseRefusal). e.field) h.1; kept = h.2 })

pub returns : goal.returns
returns c = rw c.ok_or.ensures.value (waits _ _ c.in_ok-next.next c.at.result c.in_ok-next.ensures c.at.ensures)
