use Rattle.std.proofs.Common.{rules, ◌≡◌, ◌≢◌, true, false, refl}
use Rattle.std.proofs.lemmas.Bool.{both_ways}
use Rattle.std.proofs.lemmas.Bool.Decides.{Decides-eqb}
use Rattle.std.proofs.lemmas.Slice.Eq.{slice_eq-Decides}
use Rattle.std.proofs.lemmas.Iterator.{IsFirst-from_position, YieldsList-from_take, YieldsList-from_slice}
use Rattle.std.proofs.lemmas.Iterator.Consumers.{YieldsList-at}
use Rattle.tokens.proofs.Lines.{line_found}
use Rattle.tokens.proofs.lexer.line_of.Goals as goal

pub returns : goal.returns
returns c =
    let name = c.args.name.now in
    let refs = c.args.names.now in
    let first = IsFirst-from_position _ _ c.position-line.result (λ x. x.now ≡ name) (λ x. x.now ≢ name) c.position-line.ensures.ran (YieldsList-from_take 16 (YieldsList-at c.take.ensures.source (YieldsList-from_slice refs c.iter.ensures.rest)) c.take.ensures.count) (λ x q k. (slice_eq-Decides Decides-eqb x.now.now name true (search rules)).0 refl) (λ x q k. (search rules, λ e. both_ways _ refl ((slice_eq-Decides Decides-eqb x.now.now name false (search rules)).1 e))) in
    let same : c.map.result ≡ c.position-line.result = search rules in
    rw same (line_found refs name c.args.name c.position-line.result first)
