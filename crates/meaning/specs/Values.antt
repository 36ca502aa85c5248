-- The values of a rule's rows at each tick: one definition for grades and for ranges of grades.
use Rattle.std.specs.Prelude.{ℕ, zero, suc, ◌+◌, ◌-◌, List, [], ◌∷◌, ◌++◌, ℤ, slice_index_or}
use Rattle.rules.specs.declared.row.Side.{Side}
use Rattle.rules.specs.declared.row.Row.{Row}
use Rattle.rules.specs.declared.row.Row.TheVariants.{Test, Not, And, Or, Eventually, Always, Until}

-- X: what a line gives at a tick; C: a row's value there
pub record Algebra (X C : Type 0) : Type 0 where
  pub test : Side → ℤ → X → C
  pub opposite : C → C
  pub meet : C → C → C
  pub join : C → C → C
  pub lowest : C

-- s at the ticks from, from + 1, .. from + n, put together by f
unfoldable pub over : {C : Type 0} → (C → C → C) → (ℕ → C) → ℕ → ℕ → C
over f s from zero = s from
over f s from (suc n) = f (s from) (over f s (suc from) n)

module _ {X C : Type 0} (A : Algebra X C) where
  -- right at u, and left all the way from t up to it
  unfoldable pub until_at : (ℕ → C) → (ℕ → C) → ℕ → ℕ → C
  until_at left right t u = A.meet (right u) (over A.meet left t (u - t))

  -- a row's value at t, by what the lines give and the values of the earlier rows
  unfoldable pub step : (ℕ → ℕ → X) → (ℕ → ℕ → C) → Row → ℕ → C
  step x v (Test l s m) t = A.test s m (x l t)
  step x v (Not c) t = A.opposite (v c t)
  step x v (And l r) t = A.meet (v l t) (v r t)
  step x v (Or l r) t = A.join (v l t) (v r t)
  step x v (Eventually a b c) t = over A.join (v c) (t + a) (b - a)
  step x v (Always a b c) t = over A.meet (v c) (t + a) (b - a)
  step x v (Until a b l r) t = over A.join (until_at (v l) (v r) t) (t + a) (b - a)

  abbrev pub signal : List (ℕ → C) → ℕ → ℕ → C
  signal vs k = slice_index_or vs k (λ t. A.lowest)

  -- the values of all rows, where those before have the values vs
  unfoldable pub values : (ℕ → ℕ → X) → List (ℕ → C) → List Row → List (ℕ → C)
  values x vs [] = vs
  values x vs (r ∷ rows) = values x (vs ++ (step x (signal vs) r ∷ [])) rows

  -- by row and tick
  unfoldable pub value : List Row → (ℕ → ℕ → X) → ℕ → ℕ → C
  value rows x = signal (values x [] rows)
