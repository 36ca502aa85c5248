-- The longest stretches of ticks on which f says yes. Assumes nothing.
use Rattle.std.specs.Prelude.{◌≡◌, ℕ, zero, suc, ◌+◌, ◌<◌, ◌≤◌, Bool, true, false, ◌⊎◌, ◌↔◌, List, [], ◌∷◌, ◌++◌, length, Ok, Err, Result, ◌≢◌}
use Rattle.pieces.specs.Cells.{Put}
use Rattle.meaning.specs.declared.mark.Mark.{Mark}

module _ (f : ℕ → Bool) (limit row : ℕ) where
  abbrev pub NoneIn : ℕ → ℕ → Type 0
  NoneIn s e = (t : ℕ) → s ≤ t → t < e → f t ≢ true

  -- m is the first longest stretch from s on
  pub record NextStretch (s : ℕ) (m : Mark) : Type 0 where
    pub of_row : m.row ≡ row
    pub from : s ≤ m.first
    pub before : NoneIn s m.first
    pub some : m.first < m.after
    pub within : m.after ≤ limit
    pub yes : (t : ℕ) → m.first ≤ t → t < m.after → f t ≡ true
    pub over : m.after < limit → f m.after ≡ false

  -- the stretches follow one another from s up to e
  abbrev pub Upto : ℕ → List Mark → ℕ → Type 0
  Upto s [] e = s ≡ e
  Upto s (m ∷ ms) e = NextStretch s m × Upto m.after ms e

  -- they are all from s on
  abbrev pub Stretches : ℕ → List Mark → Type 0
  Stretches s [] = NoneIn s limit
  Stretches s (m ∷ ms) = NextStretch s m × Stretches m.after ms

  -- they are the first, and there are more
  abbrev pub SomeStretches : List Mark → Type 0
  SomeStretches ms = (e : ℕ) × (Upto 0 ms e × ((t : ℕ) × ((e ≤ t) × (t < limit) × (f t ≡ true))))

  abbrev pub MarkedRow : {E : Type 0} → List Mark → ℕ → List Mark → Result ℕ E → Type 0
  MarkedRow before used after (Ok n) = (ms : List Mark) × ((n ≡ used + length ms) × Put before used ms after × Stretches 0 ms)
  MarkedRow before used after (Err e) = (ms : List Mark) × ((length before ≤ used + length ms) × Put before used ms after × SomeStretches ms)

-- the marks of a row: its stretches if it is a test, and otherwise none
abbrev pub MarkedTest : {E : Type 0} → Bool → (ℕ → Bool) → ℕ → ℕ → List Mark → ℕ → List Mark → Result ℕ E → Type 0
MarkedTest true f limit row before used after r = MarkedRow f limit row before used after r
MarkedTest false f limit row before used after (Ok n) = (n ≡ used) × (after ≡ before)
MarkedTest false f limit row before used after (Err e) = ⊥

-- some stretch has the tick
abbrev pub Covered : List Mark → ℕ → Type 0
Covered [] u = ⊥
Covered (m ∷ ms) u = ((m.first ≤ u) × (u < m.after)) ⊎ Covered ms u

-- the stretches have the ticks below the limit at which f says yes, and no other
abbrev pub StretchesCover : Type 0
StretchesCover = (f : ℕ → Bool) (limit row : ℕ) (ms : List Mark) → Stretches f limit row 0 ms → (u : ℕ) → Covered ms u ↔ ((u < limit) × (f u ≡ true))

-- and there is one list of them
abbrev pub StretchesPinned : Type 0
StretchesPinned = (f : ℕ → Bool) (limit row : ℕ) (ms ns : List Mark) → Stretches f limit row 0 ms → Stretches f limit row 0 ns → ms ≡ ns

module _ (tests : ℕ → Bool) (asks : ℕ → ℕ → Bool) (limit : ℕ → ℕ) where
  -- the marks of one row: none, unless it is a test
  abbrev pub OfRow : ℕ → List Mark → Type 0
  OfRow r ms = (tests r ≡ true → Stretches (asks r) (limit r) r 0 ms) × (tests r ≡ false → ms ≡ [])

  -- the marks of the first n rows, in the order of rows
  abbrev pub OfRows : ℕ → List Mark → Type 0
  OfRows zero ms = ms ≡ []
  OfRows (suc n) ms = (xs : List Mark) × ((ys : List Mark) × ((ms ≡ xs ++ ys) × OfRows n xs × OfRow n ys))

  -- a beginning of the marks of all rows, which go on
  abbrev pub SomeOfRows : ℕ → List Mark → Type 0
  SomeOfRows n ms = (r : ℕ) × ((xs : List Mark) × ((ys : List Mark) × ((r < n) × (ms ≡ xs ++ ys) × OfRows r xs × (tests r ≡ true) × SomeStretches (asks r) (limit r) r ys)))

  abbrev pub MarkedRows : {E : Type 0} → ℕ → List Mark → List Mark → Result ℕ E → Type 0
  MarkedRows n before after (Ok k) = (ms : List Mark) × ((k ≡ length ms) × Put before 0 ms after × OfRows n ms)
  MarkedRows n before after (Err e) = (ms : List Mark) × ((length before ≤ length ms) × Put before 0 ms after × SomeOfRows n ms)
