use Rattle.std.proofs.Common.{◌<◌, length, sym, refl, subst, ⊎_elim, arith}
use Rattle.std.proofs.lemmas.Bool.{both_ways, eqb-true, eqb-false}
use Rattle.std.proofs.lemmas.List.{length-map}
use Rattle.std.proofs.lemmas.Result.{err_from_is_err_and}
use Rattle.tokens.specs.Answers.{texts}
use Rattle.cases.specs.declared.field.Content.{Content}
use Rattle.cases.specs.Contents.{name, rule, entry, tick, item_of, Says}
use Rattle.cases.proofs.Heads.{wrong_refused, out_of_place, rule_refused}
use Rattle.cases.proofs.opening.head.Goals as goal

pub returns-in_err-word : goal.returns-in_err-word
returns-in_err-word c =
    let p = err_from_is_err_and c.from_residual.result c.from_residual.ensures.1 in
    let h = c.in_err-word.ensures in
    rw (p.1, p.2) (λ n. wrong_refused (texts c.args.names.now) c.args.field.tag c.args.field.bytes.now n _ h.0 h.1)

pub returns-in-Name-2 : goal.returns-in-Name-2
returns-in-Name-2 c n =
    let says = subst (λ (x : Content). Says c.args.field.tag c.args.field.bytes.now (item_of x)) c.in-Name.is c.in_ok-word.ensures in
    out_of_place (texts c.args.names.now) c.args.field.tag c.args.field.bytes.now n _ (name c.in-Name.word.now) says (λ a. both_ways _ c.if-admits.false (c.admits.ensures.1 a)) refl

pub returns-in-Rule : goal.returns-in-Rule
returns-in-Rule c n =
    let says = subst (λ (x : Content). Says c.args.field.tag c.args.field.bytes.now (item_of x)) c.in-Rule.is c.in_ok-word.ensures in
    out_of_place (texts c.args.names.now) c.args.field.tag c.args.field.bytes.now n _ (rule c.in-Rule.field-0.now) says (λ some. omega (arith, length-map c.args.names.now (λ x. x.now), some, eqb-true _ _ (sym c.if-is_empty.ensures))) refl

pub returns-in_err-read-in-Rule-2 : goal.returns-in_err-read-in-Rule-2
returns-in_err-read-in-Rule-2 c =
    let p = err_from_is_err_and c.from_residual-in_err-read-in-Rule-2.result c.from_residual-in_err-read-in-Rule-2.ensures.1 in
    let says = subst (λ (x : Content). Says c.args.field.tag c.args.field.bytes.now (item_of x)) c.in-Rule.is c.in_ok-word.ensures in
    let some : 0 < length (texts c.args.names.now) = omega (arith, length-map c.args.names.now (λ x. x.now), eqb-false _ _ (sym c.if-is_empty.ensures)) in
    rw (p.1, p.2) (λ n. rule_refused (texts c.args.names.now) c.args.field.tag c.args.field.bytes.now n _ c.in-Rule.field-0.now says some c.in_err-read-in-Rule-2.ensures)

pub returns-in_ok-read-in-Rule-2 : goal.returns-in_ok-read-in-Rule-2
returns-in_ok-read-in-Rule-2 c =
    let says = subst (λ (x : Content). Says c.args.field.tag c.args.field.bytes.now (item_of x)) c.in-Rule.is c.in_ok-word.ensures in
    let some : 0 < length (texts c.args.names.now) = omega (arith, length-map c.args.names.now (λ x. x.now), eqb-false _ _ (sym c.if-is_empty.ensures)) in
    (c.in-Rule.field-0.now, says, some, c.in_ok-read-in-Rule-2.ensures)

pub returns-in-Entry : goal.returns-in-Entry
returns-in-Entry c n =
    let says = c.in_ok-word.ensures in
    ⊎_elim
    (λ h. out_of_place (texts c.args.names.now) c.args.field.tag c.args.field.bytes.now n _ (entry h.0) (subst (λ (x : Content). Says c.args.field.tag c.args.field.bytes.now (item_of x)) h.1 says) (λ z. z) refl)
    (λ h. out_of_place (texts c.args.names.now) c.args.field.tag c.args.field.bytes.now n _ (tick h.0) (subst (λ (x : Content). Says c.args.field.tag c.args.field.bytes.now (item_of x)) h.1 says) (λ z. z) refl)
    c.in-Entry.is
