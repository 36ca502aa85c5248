-- Bytes are read back in one way only.
use Rattle.std.proofs.Common.{◌≡◌, ℕ, List, ◌∷◌, sym, ◌∙◌, subst}
use Rattle.cases.specs.Contents.{Says}
use Rattle.cases.proofs.OneReading.{one_field, one_item, nothing_leads}
use Rattle.case_text.specs.Packs.{ReadsBack}
use Rattle.case_text.specs.Packs as back
use Rattle.case_text.specs.Laws.{OneReadingBack}

pub one_back : OneReadingBack
one_back bytes a b (back.nothing e f) (back.nothing g h) = f ∙ sym h
one_back bytes a b (back.nothing e f) (back.field l s g m) = absurd (nothing_leads bytes e l)
one_back bytes a b (back.field l s g m) (back.nothing e f) = absurd (nothing_leads bytes e l)
one_back bytes a b (back.field {body = body} {rest = rest} {tag = tag} {i = i} {more = more} l s g m) (back.field {body = other} {rest = behind} {tag = sign} {i = j} {more = next} k t h n) =
    let same = one_field bytes tag sign body rest other behind l k in
    let item : i ≡ j = one_item tag body i j s (subst (λ (v : ℕ). Says v body j) (sym same.0) (subst (λ (v : List ℕ). Says sign v j) (sym same.1) t)) in
    let tail : more ≡ next = one_back rest more next m (subst (λ (v : List ℕ). ReadsBack v next) (sym same.2) n) in
    g ∙ (λ x. item x ∷ tail x) ∙ sym h
