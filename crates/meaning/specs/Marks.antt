-- The readings that a verdict waits for, as a list of stretches.
use Rattle.std.specs.Prelude.{◌≡◌, ℕ, suc, ◌<◌, ◌≤◌, ◌⊎◌, List, [], ◌∷◌}
use Rattle.grades.specs.Kinds.{Kind}
use Rattle.grades.specs.Ranges.{Settled}
use Rattle.rules.specs.Rows.{row_at}
use Rattle.rules.specs.Tested.{Tests}
use Rattle.rules.specs.declared.row.Row.{Row}
use Rattle.meaning.specs.declared.mark.Mark.{Mark}
use Rattle.meaning.specs.Readings.{Readings}
use Rattle.meaning.specs.Values.{value}
use Rattle.meaning.specs.Verdicts.{ranges}
use Rattle.meaning.specs.Wants.{Wanted}

-- P holds from `first` to the tick before `after`, and at neither neighbour
pub record LongestStretch (P : ℕ → Type 0) (first after : ℕ) : Type 0 where
  pub some : first < after
  pub all : (u : ℕ) → first ≤ u → u < after → P u
  pub starts : (u : ℕ) → suc u ≡ first → ¬ (P u)
  pub ends : ¬ (P after)

-- some stretch of the list has the row and the tick
abbrev pub Listed : List Mark → ℕ → ℕ → Type 0
Listed [] k u = ⊥
Listed (m ∷ ms) k u = ((k ≡ m.row) × (m.first ≤ u) × (u < m.after)) ⊎ Listed ms k u

abbrev pub Each : (Mark → Type 0) → List Mark → Type 0
Each P [] = Unit {0}
Each P (m ∷ ms) = P m × Each P ms

-- by row, then by tick
abbrev pub MarkBefore : Mark → Mark → Type 0
MarkBefore m n = (m.row < n.row) ⊎ ((m.row ≡ n.row) × (m.first < n.first))

abbrev pub Ordered : List Mark → Type 0
Ordered [] = Unit {0}
Ordered (m ∷ ms) = Each (MarkBefore m) ms × Ordered ms

-- all longest stretches of rows and ticks at which P holds, in order
pub record ListsStretches (P : ℕ → ℕ → Type 0) (ms : List Mark) : Type 0 where
  pub longest : Each (λ m. LongestStretch (P m.row) m.first m.after) ms
  pub complete : (k u : ℕ) → P k u → Listed ms k u
  pub ordered : Ordered ms

module _ (K : Kind) (rows : List Row) (x : Readings) (asked_at : ℕ) where
  -- a test row that is wanted at the tick and not settled there
  pub record Marked (k u : ℕ) : Type 0 where
    pub line : ℕ
    pub tests : Tests (row_at rows k) line
    pub wanted : Wanted K rows (value (ranges K) rows x) asked_at k u
    pub unsettled : ¬ (Settled K (value (ranges K) rows x k u))

  abbrev pub Marks : List Mark → Type 0
  Marks = ListsStretches Marked

-- P holds of the line and the tick of each reading that is marked
abbrev pub AtMarks : List Row → List Mark → (ℕ → ℕ → Type 0) → Type 0
AtMarks rows ms P = (k line u : ℕ) → Listed ms k u → Tests (row_at rows k) line → P line u
