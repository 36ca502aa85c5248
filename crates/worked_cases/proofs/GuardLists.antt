-- On readings that are widest from tick 10 on, the guard's row lists and want lists are short.
use Rattle.std.proofs.Common.{◌≡◌, ℕ, zero, suc, ◌+◌, ◌<◌, ◌≤◌, Bool, true, false, List, [], length, get_or, pos, sym, refl, ap, ◌∙◌, ◌-◌, subst, arith}
use Rattle.grades.specs.Kinds.{Kind, Tells}
use Rattle.grades.specs.Ranges.{Span}
use Rattle.rules.specs.declared.row.Side.TheVariants.{AtLeast, AtMost}
use Rattle.pieces.specs.declared.piece.Piece.{Piece}
use Rattle.meaning.specs.Readings.{Readings, widest}
use Rattle.meaning.specs.Values.{over, step, values, value}
use Rattle.meaning.specs.Verdicts.{ranges}
use Rattle.meaning.specs.Wants.{Wanted}
use Rattle.meaning.specs.Cases.{guard}
use Rattle.meaning.proofs.Tables.{guard_sound}
use Rattle.meaning.proofs.Bounded.{wanted_near}
use Rattle.runs.specs.Calls.{all, RowLists, WantLists}
use Rattle.worked_cases.proofs.ShortLists.{short_list, all_short}

abbrev pub WidestFromTen : Readings → Type 0
WidestFromTen x = (line t : ℕ) → 10 ≤ t → x line t ≡ widest

module _ (K : Kind) (x : Readings) (late : WidestFromTen x) where
  abbrev guard_value : ℕ → ℕ → Span K.Value
  guard_value k t = value (ranges K) guard x k t

  first_flat : (t : ℕ) → 10 ≤ t → guard_value 0 t ≡ guard_value 0 10
  unfolding over step values value
  first_flat t h = ap (λ r. (ranges K).test AtMost (pos 0) r) (late 1 t h ∙ sym (late 1 10 (omega arith)))

  second_flat : (t : ℕ) → 10 ≤ t → guard_value 1 t ≡ guard_value 1 10
  unfolding over step values value
  second_flat t h = ap (λ r. (ranges K).test AtLeast (pos 1800) r) (late 0 t h ∙ sym (late 0 10 (omega arith)))

  third_flat : (t : ℕ) → 10 ≤ t → guard_value 2 t ≡ guard_value 2 10
  unfolding over step values value
  third_flat t h = λ i. (ranges K).join (first_flat t h i) (second_flat t h i)

  third_same : (t u : ℕ) → 10 ≤ t → 10 ≤ u → guard_value 2 t ≡ guard_value 2 u
  third_same t u h k = third_flat t h ∙ sym (third_flat u k)

  last_flat : (t : ℕ) → 10 ≤ t → guard_value 3 t ≡ guard_value 3 10
  unfolding over step values value
  last_flat t h =
      let a = third_same (t + 0) (10 + 0) (omega arith) (omega arith) in
      let b = third_same (suc (t + 0)) (suc (10 + 0)) (omega arith) (omega arith) in
      let c = third_same (suc (suc (t + 0))) (suc (suc (10 + 0))) (omega arith) (omega arith) in
      let d = third_same (suc (suc (suc (t + 0)))) (suc (suc (suc (10 + 0)))) (omega arith) (omega arith) in
      λ i. (ranges K).meet (a i) ((ranges K).meet (b i) ((ranges K).meet (c i) (d i)))

  guard_flat : (k : ℕ) → k < 4 → (t : ℕ) → 10 ≤ t → guard_value k t ≡ guard_value k 10
  guard_flat zero l = first_flat
  guard_flat (suc zero) l = second_flat
  guard_flat (suc (suc zero)) l = third_flat
  guard_flat (suc (suc (suc zero))) l = last_flat
  guard_flat (suc (suc (suc (suc k)))) l = absurd (omega arith)

  pub guard_rows_fit : (pss : List (List (Piece (Span K.Value)))) → RowLists K guard x pss → length (all pss) ≤ 1024
  guard_rows_fit pss h =
      let many : length pss ≡ 4 = h.many in
      let each : (k : ℕ) → k < length pss → length (get_or pss k []) ≤ 11 = λ k l. let lt : k < 4 = omega arith in short_list (guard_value k) 10 (guard_flat k lt) (get_or pss k []) (h.each k lt) in
      omega (arith, all_short 11 pss each)

  unwanted : (k : ℕ) (w : ℕ → Bool) → ((u : ℕ) → Tells (w u) (Wanted K guard (value (ranges K) guard x) 0 k u)) → (u : ℕ) → 4 ≤ u → w u ≡ false
  unwanted k w told u l = by (w u) (told u)
    where
      by : (b : Bool) → Tells b (Wanted K guard (value (ranges K) guard x) 0 k u) → b ≡ false
      by true m =
          let n : u ≤ 3 = wanted_near K (value (ranges K) guard x) guard_sound 0 k u m in
          absurd (omega arith)
      by false m = refl

  pub guard_wants_fit : (pss : List (List (Piece Bool))) → WantLists K guard x 0 pss → length (all pss) ≤ 1024
  guard_wants_fit pss h =
      let many : length pss ≡ 4 = h.many in
      let each : (k : ℕ) → k < length pss → length (get_or pss k []) ≤ 5 =
      λ k l.
      let lt : k < 4 = omega arith in
      let w = h.each (3 - k) (omega arith) in
      let none = unwanted (3 - k) w.0 w.1.0 in
      let z : 3 - (3 - k) ≡ k = omega arith in
      subst (λ j. length (get_or pss j []) ≤ 5) z (short_list w.0 4 (λ t b. none t b ∙ sym (none 4 (omega arith))) (get_or pss (3 - (3 - k)) []) w.1.1) in
      omega (arith, all_short 5 pss each)
