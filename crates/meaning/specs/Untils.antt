-- The ticks that bound what an until wants.
use Rattle.std.specs.Prelude.{ℕ, suc, ◌+◌, ◌<◌, ◌≤◌}
use Rattle.grades.specs.Kinds.{Kind}
use Rattle.grades.specs.Ranges.{Span}
use Rattle.meaning.specs.Wants.{Lowest}

module _ (K : Kind) where
  -- from t on, up to t + b, left is lowest at s for the first time; where it never is, s is the tick behind t + b
  pub record FirstLowest (left : ℕ → Span K.Value) (b t s : ℕ) : Type 0 where
    pub from : t ≤ s
    pub to : s ≤ suc (t + b)
    pub before : (p : ℕ) → t ≤ p → p < s → ¬ (Lowest K (left p))
    pub here : s ≤ t + b → Lowest K (left s)

  -- w is the last tick from t + a to s - 1 at which right is not lowest
  pub record LastNeeded (right : ℕ → Span K.Value) (a t s w : ℕ) : Type 0 where
    pub from : t + a ≤ w
    pub to : w < s
    pub needed : ¬ (Lowest K (right w))
    pub behind : (p : ℕ) → w < p → p < s → Lowest K (right p)

  -- there is no such tick
  abbrev pub NoneNeeded : (ℕ → Span K.Value) → ℕ → ℕ → ℕ → Type 0
  NoneNeeded right a t s = (p : ℕ) → t + a ≤ p → p < s → Lowest K (right p)
