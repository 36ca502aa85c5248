use Rattle.std.proofs.Common.{rules, ◌≡◌, ◌≢◌, true, false, refl, subst}
use Rattle.std.proofs.lemmas.Bool.{both_ways}
use Rattle.std.proofs.lemmas.Bool.Decides.{Decides-eqb}
use Rattle.std.proofs.lemmas.Slice.Eq.{slice_eq-Decides}
use Rattle.std.proofs.lemmas.Iterator.{IsFirst-from_position, YieldsList-from_take, YieldsList-from_slice}
use Rattle.std.proofs.lemmas.Iterator.Consumers.{YieldsList-at}
use Rattle.tokens.specs.Answers.{texts}
use Rattle.case_text.specs.Words.{FirstNamed}
use Rattle.case_text.specs.Parts.{ValueRead}
use Rattle.case_text.proofs.Names.{found}
use Rattle.case_text.proofs.word.line_of.Goals as goal

pub returns-in_err-line : goal.returns-in_err-line
returns-in_err-line c =
    let name = c.args.word.now in
    let refs = c.args.names.now in
    let first = IsFirst-from_position _ _ c.position.result (λ x. x.now ≡ name) (λ x. x.now ≢ name) c.position.ensures.ran (YieldsList-from_take 256 (YieldsList-at c.take.ensures.source (YieldsList-from_slice refs c.iter.ensures.rest)) c.take.ensures.count) (λ x q k. (slice_eq-Decides Decides-eqb x.now.now name true (search rules)).0 refl) (λ x q k. (search rules, λ e. both_ways _ refl ((slice_eq-Decides Decides-eqb x.now.now name false (search rules)).1 e))) in
    let none = subst (ValueRead (FirstNamed (texts refs) name)) c.in_err-line.was (found refs name c.args.word c.position.result first) in
    rw c.from_residual.ensures none

pub returns : goal.returns
returns c =
    let name = c.args.word.now in
    let refs = c.args.names.now in
    let first = IsFirst-from_position _ _ c.position.result (λ x. x.now ≡ name) (λ x. x.now ≢ name) c.position.ensures.ran (YieldsList-from_take 256 (YieldsList-at c.take.ensures.source (YieldsList-from_slice refs c.iter.ensures.rest)) c.take.ensures.count) (λ x q k. (slice_eq-Decides Decides-eqb x.now.now name true (search rules)).0 refl) (λ x q k. (search rules, λ e. both_ways _ refl ((slice_eq-Decides Decides-eqb x.now.now name false (search rules)).1 e))) in
    subst (ValueRead (FirstNamed (texts refs) name)) c.in_ok-line.was (found refs name c.args.word c.position.result first)
