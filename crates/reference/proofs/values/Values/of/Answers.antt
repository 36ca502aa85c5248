use Rattle.std.proofs.Common.{◌≡◌, ℕ, ◌<◌, ◌+◌, refl, ap, ◌∙◌, length, arith, slice_index_or, subst, sym}
use Rattle.std.proofs.lemmas.List.{length-set, get_or_default}
use Rattle.reference.specs.declared.values.Values.{Values}
use Rattle.reference.specs.RowValues.{Graded, Valued}
use Rattle.reference.specs.Tables.{nothing}
use Rattle.reference.proofs.Valuing.{valued_none, valued_more, valued_past}
use Rattle.reference.proofs.values.Values.of.Goals as goal
use Rattle.reference.proofs.values.Values.of.Goals.{then-k-lt-ROWS, else-k-lt-ROWS}

pub loop-k-init : goal.loop-k-init
loop-k-init g c = (refl, valued_none g.S.Scale.grading c.args.rows.now c.args.forecast.now _ refl)

pub loop-k-preserved : goal.loop-k-preserved
loop-k-preserved g c = elim c.if-k-lt-ROWS.branch [
  | then-k-lt-ROWS w ↦
      let is : _ = ap (λ (v : Values). v.rows) w.values-is in
      (ap length is ∙ length-set _ _ _ ∙ c.loop-k.invariant.0, valued_more g.S.Scale.grading c.args.rows.now c.args.forecast.now c.loop-k.k c.loop-k.values c.if-k-lt-ROWS.values _ (omega (arith, c.loop-k.invariant.0, w.if-k-lt-ROWS.true)) is (subst (λ r. (u : ℕ) → u < 49 → Graded g.S.Scale.grading c.args.forecast.now c.loop-k.values r u (slice_index_or w.at_each_tick.result u nothing)) (get_or_default c.args.rows.now c.loop-k.k _ _ c.loop-k-test.true) w.at_each_tick.ensures) c.loop-k.invariant.1)
  | else-k-lt-ROWS w ↦ subst (λ v. (length v.rows ≡ 64) × Valued g.S.Scale.grading c.args.rows.now c.args.forecast.now (c.loop-k.k + 1) v) (sym w.values-is) (c.loop-k.invariant.0, valued_past g.S.Scale.grading c.args.rows.now c.args.forecast.now c.loop-k.k c.loop-k.values w.if-k-lt-ROWS.false c.loop-k.invariant.1)
]
