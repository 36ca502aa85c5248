-- Tables of values, filled tick by tick and row by row.
use Rattle.std.proofs.Common.{◌≡◌, ◌≢◌, ℕ, zero, suc, ◌+◌, ◌<◌, ◌≤◌, min, List, length, replicate, slice_index_or, slice_set, Some, refl, sym, subst, ap, ◌∙◌, inl, inr, eq-or-lt_of_le, arith}
use Rattle.std.specs.List.{slice_get}
use Rattle.std.proofs.lemmas.List.{get_or-set_same, get_or-set_other, get_or-replicate}
use Rattle.std.proofs.lemmas.Option.{gets}
use Rattle.std.proofs.lemmas.Grind.{common_steps}
use Rattle.rules.specs.declared.row.Row.{Row}
use Rattle.rules.specs.declared.row.Row.TheVariants.{Test, Not, And, Or, Eventually, Always, Until}
use Rattle.rules.specs.Rows.{row_at, Child}
use Rattle.reference.specs.declared.ends.Ends.{Ends}
use Rattle.reference.specs.declared.forecast.Forecast.{Forecast}
use Rattle.reference.specs.declared.values.Values.{Values}
use Rattle.reference.specs.Gradings.{Grading}
use Rattle.reference.specs.Known.{forecast_reading, kept}
use Rattle.reference.specs.Tables.{nothing, in_row, value_at}
use Rattle.reference.specs.RowValues.{graded_gaps, Turned, lower_ends, upper_ends, Graded, Valued}

pub filled_on : {A : Type 0} (P : ℕ → A → Type 0) (xs : List A) (n : ℕ) (x d : A) → n < length xs → ((u : ℕ) → u < n → P u (slice_index_or xs u d)) → P n x → (u : ℕ) → u < n + 1 → P u (slice_index_or (slice_set xs n x) u d)
filled_on P xs n x d here before now u less = elim (eq-or-lt_of_le (omega arith)) [ inl e ↦ subst (λ k. P k (slice_index_or (slice_set xs n x) k d)) (sym e) (subst (P n) (sym (get_or-set_same xs n x d here)) now) | inr l ↦ subst (P u) (sym (get_or-set_other xs n u x d (λ e. omega arith))) (before u l) ]

-- what a row has goes by its line's reading and its children's values alone
pub graded_alike : (S : Grading) (f : Forecast) (v w : Values) (row : Row) (t u : ℕ) (e : Ends) → ((line : ℕ) → forecast_reading f line t ≡ forecast_reading f line u) → ((c : ℕ) → Child row c → value_at w c t ≡ value_at v c u) → Graded S f v row u e → Graded S f w row t e
graded_alike S f v w (Test line side limit) t u e lines same h = h ∙ ap (λ p. graded_gaps S p side limit) (sym (lines line))
graded_alike S f v w (Not c) t u e lines same h = subst (λ p. Turned S p e) (sym (same c refl)) h
graded_alike S f v w (And l r) t u e lines same h = subst (λ p. e ≡ lower_ends p (value_at w r t)) (sym (same l (inl refl))) (subst (λ q. e ≡ lower_ends (value_at v l u) q) (sym (same r (inr refl))) h)
graded_alike S f v w (Or l r) t u e lines same h = subst (λ p. e ≡ upper_ends p (value_at w r t)) (sym (same l (inl refl))) (subst (λ q. e ≡ upper_ends (value_at v l u) q) (sym (same r (inr refl))) h)
graded_alike S f v w (Eventually a b c) t u e lines same h = tt
graded_alike S f v w (Always a b c) t u e lines same h = tt
graded_alike S f v w (Until a b l r) t u e lines same h = tt

-- from the last tick on all stays
still : (t : ℕ) → min t 48 ≡ min (min t 48) 48
still t = omega arith

others : (v w : Values) (n k t : ℕ) (found : List Ends) → w.rows ≡ slice_set v.rows n found → k ≢ n → value_at w k t ≡ value_at v k t
others v w n k t found is apart = let same : slice_get w.rows k ≡ slice_get v.rows k = grind (arith, common_steps, gets) in ap (λ o. in_row o (min t 48)) same

written : (v w : Values) (n t : ℕ) (found : List Ends) → w.rows ≡ slice_set v.rows n found → n < length v.rows → value_at w n t ≡ slice_index_or found (min t 48) nothing
written v w n t found is here = let same : slice_get w.rows n ≡ Some found = grind (arith, common_steps, gets) in ap (λ o. in_row o (min t 48)) same

pub valued_more : (S : Grading) (rows : List Row) (f : Forecast) (n : ℕ) (v w : Values) (found : List Ends) → n < length v.rows → w.rows ≡ slice_set v.rows n found → ((u : ℕ) → u < 49 → Graded S f v (row_at rows n) u (slice_index_or found u nothing)) → Valued S rows f n v → Valued S rows f (n + 1) w
valued_more S rows f n v w found here is now h = record {
  each = λ k t less few earlier. elim (eq-or-lt_of_le (omega arith)) [
    | inl e ↦ subst (λ k. ((c : ℕ) → Child (row_at rows k) c → c < k) → Graded S f w (row_at rows k) t (value_at w k t)) (sym e) (λ before. subst (Graded S f w (row_at rows n) t) (sym (written v w n t found is here)) (graded_alike S f v w (row_at rows n) t (min t 48) _ (λ line. ap (kept (slice_get f.readings line)) (still t)) (λ c child. others v w n c t found is (λ e. omega (arith, before c child)) ∙ ap (in_row (slice_get v.rows c)) (still t)) (now (min t 48) (omega arith)))) earlier
    | inr l ↦ graded_alike S f v w (row_at rows k) t t _ (λ line. refl) (λ c child. others v w n c t found is (λ e. omega (arith, earlier c child))) (subst (Graded S f v (row_at rows k) t) (sym (others v w n k t found is (λ e. omega arith))) (h.each k t l few earlier))
  ];
  behind = λ k t less. others v w n k t found is (λ e. omega arith) ∙ h.behind k t (omega arith);
}

-- no row is kept behind the 64th
pub valued_past : (S : Grading) (rows : List Row) (f : Forecast) (n : ℕ) (v : Values) → 64 ≤ n → Valued S rows f n v → Valued S rows f (n + 1) v
valued_past S rows f n v past h = record { each = λ k t less few earlier. h.each k t (omega arith) few earlier; behind = λ k t less. h.behind k t (omega arith) }

all_nothing : (n k u : ℕ) → u < 49 → in_row (slice_get (replicate n (replicate 49 nothing)) k) u ≡ nothing
all_nothing zero k u less = refl
all_nothing (suc n) zero u less = get_or-replicate 49 u nothing _ less
all_nothing (suc n) (suc k) u less = all_nothing n k u less

pub valued_none : (S : Grading) (rows : List Row) (f : Forecast) (v : Values) → v.rows ≡ replicate 64 (replicate 49 nothing) → Valued S rows f 0 v
valued_none S rows f v is = record { each = λ k t less few earlier. absurd (omega (arith, less)); behind = λ k t less. ap (λ r. in_row (slice_get r k) (min t 48)) is ∙ all_nothing 64 k (min t 48) (omega arith) }
