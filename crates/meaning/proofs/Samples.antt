-- The marks of the guard, on the forecast and on the finer one.
use Rattle.std.proofs.Common.{◌≡◌, ℕ, zero, suc, ◌<◌, ◌≤◌, Bool, true, false, ◌⊎◌, List, [], ◌∷◌, sym, refl, ap, ◌∙◌, subst, subst₂, inl, inr, arith}
use native.Mathlib.Decide.{ℕ_discrete}
use borrow.Author.Tests.{both_ways}
use Rattle.grades.specs.Kinds.{Kind}
use Rattle.grades.specs.Ranges.{Span, span, Settled}
use Rattle.grades.specs.Truths.{truths}
use Rattle.rules.specs.Rows.{row_at, root}
use Rattle.rules.specs.declared.row.Row.{Row}
use Rattle.meaning.specs.Values.{over, step, values, value}
use Rattle.meaning.specs.Verdicts.{ranges}
use Rattle.meaning.specs.Wants.{Wants, Wanted, asked, passed}
use Rattle.rules.specs.Tested.{Tests}
use Rattle.meaning.specs.Marks.{LongestStretch, Marked, Marks}
use Rattle.meaning.specs.Cases.{guard, forecast, refined, stretch}

-- where the last row is settled, nothing else is wanted
settled_alone : (K : Kind) (rows : List Row) (v : ℕ → ℕ → Span K.Value) (t : ℕ) → Settled K (v (root rows) t) → (k u : ℕ) → Wanted K rows v t k u → (k ≡ root rows) × (u ≡ t)
settled_alone K rows v t s k u asked = (refl, refl)
settled_alone K rows v t s k u (passed j w _ _ h n wants) =
    let e = settled_alone K rows v t s j w h in
    absurd (n (subst₂ (λ i p. Settled K (v i p)) (sym e.0) (sym e.1) s))

pub refined_marks : Marks truths guard refined 0 []
unfolding over step values value
refined_marks = record { longest = tt; complete = λ k u m. subst (λ j. Tests (row_at guard j) m.line) (only k u m) m.tests; ordered = tt }
  where
    only : (k u : ℕ) → Marked truths guard refined 0 k u → k ≡ 3
    only k u m = (settled_alone truths guard (value (ranges truths) guard refined) 0 refl k u m.wanted).0

abbrev v : ℕ → ℕ → Span Bool
v = value (ranges truths) guard forecast

unsettled : (p : Span Bool) → p ≡ span false true → ¬ (Settled truths p)
unsettled p e s = both_ways p.low (ap (λ (q : Span Bool). q.low) e) (s ∙ ap (λ (q : Span Bool). q.high) e)

-- the ticks 2 and 3
two : (P : ℕ → Type 0) → P 2 → P 3 → (u : ℕ) → 2 ≤ u → u < 4 → P u
two P a b u l r = elim (ℕ_discrete u 2) [ yes e ↦ subst P (sym e) a | no n ↦ let e : u ≡ 3 = omega arith in subst P (sym e) b ]

cells : (k : ℕ) → k < 3 → (v k 2 ≡ span false true) × (v k 3 ≡ span false true)
unfolding over step values value
cells zero h = (refl, refl)
cells (suc zero) h = (refl, refl)
cells (suc (suc zero)) h = (refl, refl)
cells (suc (suc (suc k))) h = absurd (omega arith)

cell : (k : ℕ) → k < 3 → (u : ℕ) → 2 ≤ u → u < 4 → ¬ (Settled truths (v k u))
cell k h u l r = unsettled (v k u) (two (λ j. v k j ≡ span false true) (cells k h).0 (cells k h).1 u l r)

-- where the rows are wanted
abbrev Seen : ℕ → ℕ → Type 0
Seen k u = ((k ≡ 3) × (u ≡ 0)) ⊎ (((k ≡ 2) × (u ≤ 3)) ⊎ ((k < 2) × (2 ≤ u) × (u < 4)))

-- either side settles the guard at the ticks 0 and 1
later : (t : ℕ) → ¬ (Settled truths (v 2 t)) → 2 ≤ t
unfolding over step values value
later zero n = absurd (n refl)
later (suc zero) n = absurd (n refl)
later (suc (suc t)) n = omega arith

wanted_seen : (k u : ℕ) → Wanted truths guard v 0 k u → Seen k u
wanted_seen k u asked = inl (refl, refl)
wanted_seen k u (passed j t _ _ h n w) = onward (wanted_seen j t h)
  where
    onward : Seen j t → Seen k u
    onward (inl e) =
        let z = subst₂ (λ i p. Wants truths v (row_at guard i) p k u) e.0 e.1 w in
        inr (inl (z.0, z.2))
    onward (inr (inl e)) =
        let z = subst (λ i. Wants truths v (row_at guard i) t k u) e.0 w in
        let l = later t (subst (λ i. ¬ (Settled truths (v i t))) e.0 n) in
        let is = z.1 in
        let o = e.1 in
        inr (inr (elim z.0 [ inl a ↦ omega arith | inr a ↦ omega arith ], omega arith, omega arith))
    onward (inr (inr e)) = absurd (test j e.0 w)
      where
        test : (i : ℕ) → i < 2 → Wants truths v (row_at guard i) t k u → ⊥
        test zero l z = z
        test (suc zero) l z = z
        test (suc (suc i)) l z = omega arith

marked_seen : (k u : ℕ) → Marked truths guard forecast 0 k u → (k < 2) × (2 ≤ u) × (u < 4)
marked_seen k u m = by (wanted_seen k u m.wanted)
  where
    by : Seen k u → (k < 2) × (2 ≤ u) × (u < 4)
    by (inl e) = absurd (subst (λ j. Tests (row_at guard j) m.line) e.0 m.tests)
    by (inr (inl e)) = absurd (subst (λ j. Tests (row_at guard j) m.line) e.0 m.tests)
    by (inr (inr e)) = e

line_of : (k : ℕ) → k < 2 → (line : ℕ) × Tests (row_at guard k) line
line_of zero h = (1, refl)
line_of (suc zero) h = (0, refl)
line_of (suc (suc k)) h = absurd (omega arith)

open_root : ¬ (Settled truths (v 3 0))
unfolding over step values value
open_root = unsettled (v 3 0) refl

seen_marked : (k u : ℕ) → k < 2 → 2 ≤ u → u < 4 → Marked truths guard forecast 0 k u
seen_marked k u h l r = record { line = (line_of k h).0; tests = (line_of k h).1; wanted = wanted; unsettled = cell k (omega arith) u l r }
  where
    child : (k ≡ 0) ⊎ (k ≡ 1)
    child = elim (ℕ_discrete k 0) [ yes e ↦ inl e | no n ↦ inr (omega arith) ]

    wanted : Wanted truths guard v 0 k u
    wanted = passed 2 u k u (passed 3 0 2 u asked open_root (refl, omega arith, omega arith)) (cell 2 (omega arith) u l r) (child, refl)

row_longest : (k : ℕ) → k < 2 → LongestStretch (Marked truths guard forecast 0 k) 2 4
row_longest k h = record {
  some = omega arith;
  all = λ u l r. seen_marked k u h l r;
  starts = λ u e m. let s = marked_seen k u m in omega arith;
  ends = λ m. let s = marked_seen k 4 m in omega arith;
}

pub forecast_marks : Marks truths guard forecast 0 (stretch 0 2 4 ∷ stretch 1 2 4 ∷ [])
forecast_marks = record {
  longest = (row_longest 0 (omega arith), (row_longest 1 (omega arith), tt));
  complete = λ k u m.
      let s = marked_seen k u m in
      elim (ℕ_discrete k 0) [ yes e ↦ inl (e, s.1, s.2) | no n ↦ inr (inl (omega arith, s.1, s.2)) ];
  ordered = ((inl (omega arith), tt), (tt, tt));
}
