use Rattle.std.proofs.Common.{⊎_elim, arith, eqb, true, ◌≡◌, sym, refl, ◌∙◌}
use Rattle.std.specs.Cmp.Lexicographic.{pointwise}
use Rattle.std.proofs.lemmas.List.{length-map}
use Rattle.std.proofs.lemmas.Bool.{both_ways, le-ltb, not-true, not_from_false, cases_Bool}
use Rattle.std.proofs.lemmas.Bool.Decides.{Decides-eqb}
use Rattle.std.proofs.lemmas.Slice.Eq.{slice_eq-Decides}
use Rattle.cases.proofs.Repeats.{repeats}
use Rattle.cases.proofs.names.admits.Goals as goal
use Rattle.cases.proofs.names.admits.Goals.{then-names-lt-NAMES, else-names-lt-NAMES}

pub returns-then-is_name : goal.returns-then-is_name
returns-then-is_name c =
    let same = repeats c.args.names.now c.args.word (λ y. pointwise eqb y.now c.args.word.now) (λ y. slice_eq-Decides Decides-eqb _ _ _ refl) c.contains.result c.contains.ensures.cases in
    elim c.if-names-lt-NAMES.branch [
      | then-names-lt-NAMES w ↦
          let formed : w.is_name.result ≡ true = cc in (
            λ e. record {
              few = omega (arith, length-map c.args.names.now (λ x. x.now));
              formed = w.is_name.ensures.0 formed;
              fresh = λ r. both_ways _ (not-true _ e) (same.1 r);
            },
            λ a. not_from_false _ (⊎_elim (λ t. absurd (a.fresh (same.0 t))) (λ f. f) (cases_Bool c.contains.result)),
          )
      | else-names-lt-NAMES w ↦ absurd (both_ways _ (le-ltb _ _ w.if-names-lt-NAMES.false) (sym w.value-is ∙ c.if-is_name.true))
    ]
