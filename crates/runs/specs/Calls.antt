-- Judging and marking: when they are turned down, and what they answer.
use Rattle.std.specs.Prelude.{◌≡◌, ℕ, ◌-◌, ◌<◌, ◌≤◌, Bool, List, [], ◌∷◌, ◌++◌, length, Some, None, Ok, Err, Result, slice_index_or}
use Rattle.grades.specs.Kinds.{Kind, Tells}
use Rattle.grades.specs.Ranges.{Span}
use Rattle.rules.specs.declared.row.Row.{Row}
use Rattle.rules.specs.Rows.{root, Sound}
use Rattle.pieces.specs.declared.piece.Piece.{Piece}
use Rattle.pieces.specs.Pieces.{Lists}
use Rattle.meaning.specs.declared.mark.Mark.{Mark}
use Rattle.meaning.specs.Readings.{Readings}
use Rattle.meaning.specs.Values.{value}
use Rattle.meaning.specs.Verdicts.{ranges, verdict}
use Rattle.meaning.specs.Wants.{Wanted}
use Rattle.rules.specs.Tested.{TestsOnlyBelow}
use Rattle.meaning.specs.Marks.{Marks}
use Rattle.runs.specs.States.{State, readings_of}
use Rattle.runs.specs.Conditions.{Condition, asks, FirstFailing}

-- a rule, by its rows
pub record RuleRows : Type 0 where
  pub rows : List Row
  pub sound : Sound rows

-- lists one after the other
abbrev pub all : {X : Type 0} → List (List X) → List X
all [] = []
all (xs ∷ xss) = xs ++ all xss

-- the job has each line that the rule tests
abbrev pub HasLines : State → List Row → Type 0
HasLines s rows = TestsOnlyBelow rows (length s.lines)

module _ (K : Kind) (rows : List Row) (x : Readings) where
  -- the piece lists of all rows, in row order
  pub record RowLists (pss : List (List (Piece (Span K.Value)))) : Type 0 where
    pub many : length pss ≡ length rows
    pub each : (k : ℕ) → k < length rows → Lists (value (ranges K) rows x k) (slice_index_or pss k [])

  -- w tells at which ticks the row k is wanted
  abbrev pub TellsWanted : ℕ → ℕ → (ℕ → Bool) → Type 0
  TellsWanted t k w = (u : ℕ) → Tells (w u) (Wanted K rows (value (ranges K) rows x) t k u)

  -- the yes-or-no lists of what is wanted, from the last row to row 0
  pub record WantLists (t : ℕ) (pss : List (List (Piece Bool))) : Type 0 where
    pub many : length pss ≡ length rows
    pub each : (k : ℕ) → k < length rows → (w : ℕ → Bool) × (TellsWanted t k w × Lists w (slice_index_or pss (root rows - k) []))

module _ (K : Kind) (s : State) (rows : List Row) (t cells : ℕ) where
  -- numbers 7 to 9, and what follows them
  abbrev pub judge_asks : List Condition → List Condition
  judge_asks more =
      asks 7 (HasLines s rows) ∷ (asks 8 (t ≤ 500000000) ∷ (asks 9 ((pss : List (List (Piece (Span K.Value)))) → RowLists K rows (readings_of s) pss → length (all pss) ≤ cells) ∷ more))

-- numbers 10 and 11
abbrev pub mark_asks : Kind → State → List Row → ℕ → ℕ → ℕ → List Condition
mark_asks K s rows t want_cells mark_cells =
    asks 10 ((pss : List (List (Piece Bool))) → WantLists K rows (readings_of s) t pss → length (all pss) ≤ want_cells) ∷ (asks 11 ((ms : List Mark) → Marks K rows (readings_of s) t ms → length ms ≤ mark_cells) ∷ [])

-- a judgement of the state s
abbrev pub JudgeTurn : (K : Kind) → State → List Row → ℕ → ℕ → Result (Span K.Value) ℕ → Type 0
JudgeTurn K s rows t cells (Ok p) = FirstFailing (judge_asks K s rows t cells []) None × (p ≡ verdict K rows (readings_of s) t)
JudgeTurn K s rows t cells (Err n) = FirstFailing (judge_asks K s rows t cells []) (Some n)

-- a verdict with its marks
pub record MarkedVerdict (K : Kind) : Type 0 where
  pub verdict : Span K.Value
  pub marks : List Mark

-- a marking of the state s
abbrev pub MarkTurn : (K : Kind) → State → List Row → ℕ → ℕ → ℕ → ℕ → Result (MarkedVerdict K) ℕ → Type 0
MarkTurn K s rows t row_cells want_cells mark_cells (Ok m) =
    FirstFailing (judge_asks K s rows t row_cells (mark_asks K s rows t want_cells mark_cells)) None × (m.verdict ≡ verdict K rows (readings_of s) t) × Marks K rows (readings_of s) t m.marks
MarkTurn K s rows t row_cells want_cells mark_cells (Err n) = FirstFailing (judge_asks K s rows t row_cells (mark_asks K s rows t want_cells mark_cells)) (Some n)
