-- The ranges of a kind are proper, nest, and hold the grades of exact jobs.
use Rattle.std.proofs.Common.{◌≡◌, ℕ, ◌<◌, List, length, refl, ap, ◌∙◌, ap₂}
use Rattle.grades.specs.Kinds.{Kind, Lawful}
use Rattle.grades.specs.Ranges.{span, Inside, Holds, Proper}
use Rattle.rules.specs.Rows.{Sound}
use Rattle.rules.specs.declared.row.Row.{Row}
use Rattle.meaning.specs.Readings.{Readings, Within, AllWithin, Exact, AllExact}
use Rattle.meaning.specs.Values.{value}
use Rattle.meaning.specs.Limits.{gap, low_gap, high_gap}
use Rattle.meaning.specs.Verdicts.{grades, ranges}
use Rattle.meaning.proofs.Gaps.{gap_fits, low_fits, high_fits, low_high, one_gap, low_within, high_within, low_holds, high_holds}
use Rattle.meaning.proofs.Related.{Keeps, related}

module _ {K : Kind} (L : Lawful K) where
  pub meet_rises : (a b c d : K.Value) → K.below a c → K.below b d → K.below (K.meet a b) (K.meet c d)
  meet_rises a b c d h k =
      L.meet_most c d (K.meet a b) (L.below_trans (K.meet a b) a c (L.meet_left a b) h) (L.below_trans (K.meet a b) b d (L.meet_right a b) k)

  pub join_rises : (a b c d : K.Value) → K.below a c → K.below b d → K.below (K.join a b) (K.join c d)
  join_rises a b c d h k =
      L.join_least a b (K.join c d) (L.below_trans a c (K.join c d) h (L.join_left c d)) (L.below_trans b d (K.join c d) k (L.join_right c d))

  pub proper : Keeps (ranges K) (ranges K) (λ x y. Unit {0}) (λ p q. Proper K p)
  proper = record {
    test = λ s m x y f q. L.gap_rises (low_gap s m x) (high_gap s m x) (low_fits s m x f) (high_fits s m x f) (low_high s m x);
    opposite = λ p q h. L.opposite_turns p.low p.high h;
    meet = λ p p' q q' h k. meet_rises p.low p'.low p.high p'.high h k;
    join = λ p p' q q' h k. join_rises p.low p'.low p.high p'.high h k;
  }

  pub nesting : Keeps (ranges K) (ranges K) (λ x y. Within y x) (λ p q. Inside K q p)
  nesting = record {
    test = λ s m x y f q. record {
      low = L.gap_rises (low_gap s m x) (low_gap s m y) (low_fits s m x f) (low_fits s m y f) (low_within s m y x q);
      high = L.gap_rises (high_gap s m y) (high_gap s m x) (high_fits s m y f) (high_fits s m x f) (high_within s m y x q);
    };
    opposite = λ p q h. record { low = L.opposite_turns q.high p.high h.high; high = L.opposite_turns p.low q.low h.low };
    meet = λ p p' q q' h k. record { low = meet_rises p.low p'.low q.low q'.low h.low k.low; high = meet_rises q.high q'.high p.high p'.high h.high k.high };
    join = λ p p' q q' h k. record { low = join_rises p.low p'.low q.low q'.low h.low k.low; high = join_rises q.high q'.high p.high p'.high h.high k.high };
  }

  enclosing : Keeps (ranges K) (grades K) (λ x y. Within y x) (Holds K)
  enclosing = record {
    test = λ s m x y f q. record {
      low = L.gap_rises (low_gap s m x) (gap s m y.lower) (low_fits s m x f) (gap_fits s m y.lower f y.bottom) (low_holds s m y x q);
      high = L.gap_rises (gap s m y.lower) (high_gap s m x) (gap_fits s m y.lower f y.bottom) (high_fits s m x f) (high_holds s m y x q);
    };
    opposite = λ p q h. record { low = L.opposite_turns q p.high h.high; high = L.opposite_turns p.low q h.low };
    meet = λ p p' q q' h k. record { low = meet_rises p.low p'.low q q' h.low k.low; high = meet_rises q q' p.high p'.high h.high k.high };
    join = λ p p' q q' h k. record { low = join_rises p.low p'.low q q' h.low k.low; high = join_rises q q' p.high p'.high h.high k.high };
  }

  module _ {rows : List Row} (sound : Sound rows) where
    pub values_proper : (x : Readings) (k : ℕ) → k < length rows → (t : ℕ) → Proper K (value (ranges K) rows x k t)
    values_proper x = related proper sound x x (λ l t. tt)

    pub values_nest : (x y : Readings) → AllWithin y x → (k : ℕ) → k < length rows → (t : ℕ) → Inside K (value (ranges K) rows y k t) (value (ranges K) rows x k t)
    values_nest x y within = related nesting sound x y within

    pub values_hold : (x y : Readings) → AllWithin y x → (k : ℕ) → k < length rows → (t : ℕ) → Holds K (value (ranges K) rows x k t) (value (grades K) rows y k t)
    values_hold x y within = related enclosing sound x y within

module _ (K : Kind) where
  exact_kept : Keeps (ranges K) (grades K) (λ x y. Exact x × (x ≡ y)) (λ p q. p ≡ span q q)
  exact_kept = record {
    test = λ s m x y f h.
        let e = one_gap s m x h.0 in
        let z = ap (λ r. K.of_gap (gap s m r.lower)) h.1 in
        ap₂ span (ap K.of_gap e.0 ∙ z) (ap K.of_gap e.1 ∙ z);
    opposite = λ p q e. ap (ranges K).opposite e;
    meet = λ p p' q q' e f. ap₂ (ranges K).meet e f;
    join = λ p p' q q' e f. ap₂ (ranges K).join e f;
  }

  pub values_exact : {rows : List Row} → Sound rows → (x : Readings) → AllExact x → (k : ℕ) → k < length rows → (t : ℕ) →
      let g = value (grades K) rows x k t in value (ranges K) rows x k t ≡ span g g
  values_exact sound x exact = related exact_kept sound x x (λ l t. (exact l t, refl))
