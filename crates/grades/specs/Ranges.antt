-- Ranges of values: a lower and an upper end.
use Rattle.std.specs.Prelude.{◌≡◌}
use Rattle.std.proofs.Common.{ap}
use Rattle.grades.specs.Kinds.{Kind}

pub record Span (V : Type 0) : Type 0 where
  pub low : V
  pub high : V

abbrev pub span : {V : Type 0} → V → V → Span V
span p q = record { low = p; high = q }

-- two ranges are the same if both their ends are
abbrev pub ends_same : {V : Type 0} (p q : Span V) → Dec (p.low ≡ q.low) → Dec (p.high ≡ q.high) → Dec (p ≡ q)
ends_same p q (yes e) (yes f) = yes (λ i. record { low = e i; high = f i })
ends_same {V} p q (yes e) (no n) = no (λ h. n (ap (λ (r : Span V). r.high) h))
ends_same {V} p q (no n) d = no (λ h. n (ap (λ (r : Span V). r.low) h))

-- ranges as a kind: order and operations end by end, the opposite with the ends exchanged
abbrev pub spans : Kind → Kind
spans K = record {
  Value = Span K.Value;
  below = λ p q. K.below p.low q.low × K.below p.high q.high;
  meet = λ p q. record { low = K.meet p.low q.low; high = K.meet p.high q.high };
  join = λ p q. record { low = K.join p.low q.low; high = K.join p.high q.high };
  opposite = λ p. record { low = K.opposite p.high; high = K.opposite p.low };
  lowest = record { low = K.lowest; high = K.lowest };
  highest = record { low = K.highest; high = K.highest };
  of_gap = λ g. record { low = K.of_gap g; high = K.of_gap g };
  same = λ p q. ends_same p q (K.same p.low q.low) (K.same p.high q.high);
}

module _ (K : Kind) where
  -- p is inside q
  pub record Inside (p q : Span K.Value) : Type 0 where
    pub low : K.below q.low p.low
    pub high : K.below p.high q.high

  -- p holds the grade x
  pub record Holds (p : Span K.Value) (x : K.Value) : Type 0 where
    pub low : K.below p.low x
    pub high : K.below x p.high

  abbrev pub Proper : Span K.Value → Type 0
  Proper p = K.below p.low p.high

  abbrev pub Settled : Span K.Value → Type 0
  Settled p = p.low ≡ p.high
