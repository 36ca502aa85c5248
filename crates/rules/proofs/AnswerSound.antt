-- The rows that a text is answered make a sound table.
use Rattle.std.proofs.Common.{◌≡◌, ℕ, Bool, true, false, cond, ltb, List, Some, None, Ok, Err, Option, sym, refl, subst, arith, ltb-false}
use Rattle.rules.specs.declared.row.Row.{Row}
use Rattle.rules.specs.declared.fault.RuleFault.{RuleFault}
use Rattle.rules.specs.declared.fault.RuleFault.TheVariants.{UnknownName, OutOfBounds, TooDeep, TooManyRows, TooFar}
use Rattle.rules.specs.Rows.{row_at, row_fits, row_earlier, reach, Sound}
use Rattle.rules.specs.Grammar.{expr, Phrase}
use Rattle.rules.specs.Tables.{size, rows_of, rises, deep_place}
use Rattle.rules.specs.Checks.{unknown_place, wrong}
use Rattle.rules.specs.Texts.{Answer, unless, near_enough, few_enough, shallow_enough, in_bounds, checked, no_grammar, derived, Answered, empty, long, no_token, parsed}
use Rattle.rules.proofs.Growth.{rows_long}
use Rattle.rules.proofs.Soundness.{each_at, size_some, earlier, fits, tree}
use Rattle.rules.proofs.Sounding.{sound_of}

pub ok_err : (rows : List Row) (f : RuleFault) → ◌≡◌ {A = Answer} (Ok rows) (Err f) → ⊥
ok_err rows f e = let z : ◌≡◌ {A = ℕ} 0 1 = cc in omega arith

pub rows_of_answer : (rows more : List Row) → ◌≡◌ {A = Answer} (Ok rows) (Ok more) → rows ≡ more
rows_of_answer rows more e = cc

module _ (rows : List Row) where
  -- where rows are the answer, a check has found nothing
  nothing : (o : Option ℕ) (f : ℕ → RuleFault) (next : Answer) → Ok rows ≡ unless o f next → (o ≡ None) × (Ok rows ≡ next)
  nothing None f next h = (refl, h)
  nothing (Some i) f next h = absurd (ok_err rows (f i) h)

  within : (b : Bool) (f : RuleFault) (next : Answer) → Ok rows ≡ cond b (Err f) next → (b ≡ false) × (Ok rows ≡ next)
  within true f next h = absurd (ok_err rows f h)
  within false f next h = (refl, h)

  passed : (place : ℕ → ℕ) (p : Phrase expr) → Ok rows ≡ checked place p → Sound rows
  passed place p h =
      let a = nothing (unknown_place p) (λ i. UnknownName (place i)) (in_bounds place p) h in
      let b = nothing (wrong p) (λ i. OutOfBounds (place i)) (shallow_enough place p) a.1 in
      let c = nothing (deep_place (rises 0 0 p)) (λ i. TooDeep (place i)) (few_enough p) b.1 in
      let d = within (ltb 64 (size p)) TooManyRows (near_enough p) c.1 in
      let e = within (ltb 500000000 (reach (rows_of 0 p))) TooFar (Ok (rows_of 0 p)) d.1 in
      let size_is = rows_long 0 p in
      subst Sound (sym (rows_of_answer rows (rows_of 0 p) e.1))
      (sound_of (rows_of 0 p)
      (omega (arith, size_is, size_some p tt))
      (omega (arith, size_is, ltb-false 64 (size p) d.0))
      (λ k lt. each_at (λ r n. row_fits r ≡ true) 0 (rows_of 0 p) (fits 0 0 p b.0) k lt)
      (λ k lt. subst (λ (n : ℕ). row_earlier (row_at (rows_of 0 p) k) n ≡ true) (omega arith) (each_at (λ r n. row_earlier r n ≡ true) 0 (rows_of 0 p) (earlier 0 p) k lt))
      (λ c lt. (tree 0 p tt c).0 (omega arith) (omega (arith, size_is)))
      (ltb-false 500000000 (reach (rows_of 0 p)) e.0))

  pub answered_sound : (names : List (List ℕ)) (text : List ℕ) → Answered names text (Ok rows) → Sound rows
  answered_sound names text (empty l e) = absurd (ok_err rows _ e)
  answered_sound names text (long l e) = absurd (ok_err rows _ e)
  answered_sound names text (no_token at l m s e) = absurd (ok_err rows _ e)
  answered_sound names text (parsed places ts l m s (no_grammar i f e)) = absurd (ok_err rows _ e)
  answered_sound names text (parsed places ts l m s (derived p d e)) = passed _ p e
