use Rattle.std.proofs.Common.{subst, ⊎_elim}
use Rattle.std.proofs.lemmas.Result.{err_from_is_err_and}
use Rattle.cases.specs.declared.field.Content.{Content}
use Rattle.cases.specs.Contents.{name, rule, item_of, Says}
use Rattle.cases.proofs.CallSteps.{wrong_call, no_call}
use Rattle.cases.proofs.stepping.call_of.Goals as goal

pub returns-in_err-entry : goal.returns-in_err-entry
returns-in_err-entry c =
    let p = err_from_is_err_and c.from_residual.result c.from_residual.ensures.1 in
    let h = c.in_err-entry.ensures in
    rw (p.1, p.2) (wrong_call c.args.field.tag c.args.field.bytes.now _ h.0 h.1)

pub returns-in-Name : goal.returns-in-Name
returns-in-Name c =
    let says = c.in_ok-entry.ensures in
    ⊎_elim
    (λ h. no_call c.args.field.tag c.args.field.bytes.now (name h.0.now) (subst (λ (x : Content). Says c.args.field.tag c.args.field.bytes.now (item_of x)) h.1 says) (λ z. z))
    (λ h. no_call c.args.field.tag c.args.field.bytes.now (rule h.0.now) (subst (λ (x : Content). Says c.args.field.tag c.args.field.bytes.now (item_of x)) h.1 says) (λ z. z))
    c.in-Name.is
