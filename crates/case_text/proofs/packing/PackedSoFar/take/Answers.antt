use Rattle.std.proofs.Common.{ℕ, List, length, arith, sym, refl, ap, ◌∙◌, subst}
use Rattle.std.proofs.lemmas.Bool.{both_ways}
use Rattle.tokens.specs.Answers.{texts}
use Rattle.cases.specs.Contents.{item_of}
use Rattle.case_text.specs.Pieces.{spoken}
use Rattle.case_text.specs.Sayings.{LineSays, Silent}
use Rattle.case_text.specs.Parts.{Begins, foregone, took, AddsField}
use Rattle.case_text.proofs.Growing.{adds_size}
use Rattle.case_text.proofs.Keywords.{fits_here}
use Rattle.case_text.proofs.OneAnswer.{barred_here}
use Rattle.case_text.proofs.packing.PackedSoFar.take.Goals as goal

-- a line with a first word is not silent
with_word : (line front rest : List ℕ) → Begins (spoken line) front rest → Silent line → ⊥
with_word line front rest b s = omega (arith, ap length (sym b.words ∙ s))

pub put-requires : goal.put-requires
put-requires c = fits_here (foregone c.args.self.now) (item_of c.in-Some-content_of.content) (c.if-not-lets.ensures.0 refl)

pub returns-in_default-content_of : goal.returns-in_default-content_of
returns-in_default-content_of c =
    let split = c.in-Some.split in
    let cut : Begins (spoken c.args.line.now) split.front.now split.rest.now = subst (λ (v : List ℕ). Begins v split.front.now split.rest.now) c.spoken_of.ensures c.in-Some.ensures in (
      record {
        loud = with_word c.args.line.now split.front.now split.rest.now cut;
        none = λ i s. c.in_default-content_of.ensures c.args.line.now cut i (subst (λ (v : List (List ℕ)). LineSays v c.args.line.now i) (ap texts (sym c.as_slice.ensures.value)) s.says);
      },
      refl,
    )

pub returns-then-not-lets : goal.returns-then-not-lets
returns-then-not-lets c =
    let split = c.in-Some.split in
    let item = item_of c.in-Some-content_of.content in
    let cut : Begins (spoken c.args.line.now) split.front.now split.rest.now = subst (λ (v : List ℕ). Begins v split.front.now split.rest.now) c.spoken_of.ensures c.in-Some.ensures in (
      record {
        loud = with_word c.args.line.now split.front.now split.rest.now cut;
        none = barred_here (foregone c.args.self.now) c.args.line.now item (subst (λ (v : List (List ℕ)). LineSays v c.args.line.now item) (ap texts c.as_slice.ensures.value) (c.in-Some-content_of.ensures c.args.line.now cut)) (λ m. both_ways _ refl (c.if-not-lets.ensures.1 m));
      },
      refl,
    )

pub returns : goal.returns
returns c =
    let split = c.in-Some.split in
    let item = item_of c.in-Some-content_of.content in
    let cut : Begins (spoken c.args.line.now) split.front.now split.rest.now = subst (λ (v : List ℕ). Begins v split.front.now split.rest.now) c.spoken_of.ensures c.in-Some.ensures in
    took
    item
    (record {
      speaks = record { says = subst (λ (v : List (List ℕ)). LineSays v c.args.line.now item) (ap texts c.as_slice.ensures.value) (c.in-Some-content_of.ensures c.args.line.now cut); place = c.if-not-lets.ensures.0 refl };
      kept = λ i. record { names = c.keep.ensures.names i; ruled = c.keep.ensures.ruled i; size = (ap length c.keep.ensures.case ∙ adds_size c.put.ensures) i };
      adds = subst (λ (v : List ℕ). AddsField c.args.self.now.case.items item v) (sym c.keep.ensures.case) c.put.ensures;
    })
