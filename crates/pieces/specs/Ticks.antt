-- Functions of ticks: how long one stays as it is, and where it first has a value.
use Rattle.std.specs.Prelude.{◌≡◌, ℕ, ◌-◌, ◌<◌, ◌≤◌, min, Some, None, Option}

-- u is before the tick o; None is never, and every tick is before it
abbrev pub Before : Option ℕ → ℕ → Type 0
Before None u = Unit {0}
Before (Some n) u = u < n

-- the tick o is after t
abbrev pub Later : ℕ → Option ℕ → Type 0
Later t None = Unit {0}
Later t (Some n) = t < n

-- o is after t, and f is v from t up to o, which is not counted
abbrev pub Steady : {C : Type 0} → (ℕ → C) → ℕ → C → Option ℕ → Type 0
Steady f t v o = Later t o × ((u : ℕ) → t ≤ u → Before o u → v ≡ f u)

-- f has another value than v at o, if o ever comes
abbrev pub Changed : {C : Type 0} → (ℕ → C) → C → Option ℕ → Type 0
Changed f v None = Unit {0}
Changed f v (Some n) = v ≡ f n → ⊥

-- f changes no more from some tick on
abbrev pub Settles : {C : Type 0} → (ℕ → C) → Type 0
Settles f = (end : ℕ) × ((t : ℕ) → end ≤ t → f t ≡ f end)

-- the sooner of two ticks
abbrev pub sooner : Option ℕ → Option ℕ → Option ℕ
sooner None o = o
sooner (Some m) None = Some m
sooner (Some m) (Some n) = Some (min m n)

-- the tick k ticks before o, and 0 where there is none
abbrev pub earlier : Option ℕ → ℕ → Option ℕ
earlier None k = None
earlier (Some n) k = Some (n - k)

-- the first tick at which f is v; none where it never is
abbrev pub FirstTick : {C : Type 0} → (ℕ → C) → C → Option ℕ → Type 0
FirstTick f v None = (u : ℕ) → f u ≡ v → ⊥
FirstTick f v (Some t) = (f t ≡ v) × ((u : ℕ) → u < t → f u ≡ v → ⊥)
