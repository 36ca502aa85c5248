-- What each row means, as bounds over its window, with no way of working them out.
use Rattle.std.specs.Prelude.{◌≡◌, ℕ, ◌+◌, ◌≤◌, ℤ}
use Rattle.grades.specs.Kinds.{Kind}
use Rattle.rules.specs.declared.row.Side.{Side}
use Rattle.rules.specs.declared.row.Row.{Row}
use Rattle.rules.specs.declared.row.Row.TheVariants.{Test, Not, And, Or, Eventually, Always, Until}

module _ (K : Kind) where
  -- z is at least s at each tick from one to another, and at most whatever else is
  pub record UpperOf (s : ℕ → K.Value) (from to : ℕ) (z : K.Value) : Type 0 where
    pub bounds : (u : ℕ) → from ≤ u → u ≤ to → K.below (s u) z
    pub least : (y : K.Value) → ((u : ℕ) → from ≤ u → u ≤ to → K.below (s u) y) → K.below z y

  -- z is at most s at each tick from one to another, and at least whatever else is
  pub record LowerOf (s : ℕ → K.Value) (from to : ℕ) (z : K.Value) : Type 0 where
    pub bounds : (u : ℕ) → from ≤ u → u ≤ to → K.below z (s u)
    pub most : (y : K.Value) → ((u : ℕ) → from ≤ u → u ≤ to → K.below y (s u)) → K.below y z

  -- z is at most right at u and left at each tick from t to u, and at least whatever else is
  pub record GoalOf (left right : ℕ → K.Value) (t u : ℕ) (z : K.Value) : Type 0 where
    pub end : K.below z (right u)
    pub way : (w : ℕ) → t ≤ w → w ≤ u → K.below z (left w)
    pub most : (y : K.Value) → K.below y (right u) → ((w : ℕ) → t ≤ w → w ≤ u → K.below y (left w)) → K.below y z

  module _ {X : Type 0} (test : Side → ℤ → X → K.Value) (x : ℕ → ℕ → X) (v : ℕ → ℕ → K.Value) where
    -- the row means z at the tick t, where v is what the other rows mean
    abbrev pub Means : Row → ℕ → K.Value → Type 0
    Means (Test l s m) t z = z ≡ test s m (x l t)
    Means (Not c) t z = z ≡ K.opposite (v c t)
    Means (And l r) t z = z ≡ K.meet (v l t) (v r t)
    Means (Or l r) t z = z ≡ K.join (v l t) (v r t)
    Means (Eventually a b c) t z = UpperOf (v c) (t + a) (t + b) z
    Means (Always a b c) t z = LowerOf (v c) (t + a) (t + b) z
    Means (Until a b l r) t z =
        (goal : ℕ → K.Value) × ((u : ℕ) → t + a ≤ u → u ≤ t + b → GoalOf (v l) (v r) t u (goal u)) × UpperOf goal (t + a) (t + b) z
