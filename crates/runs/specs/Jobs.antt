-- The calls that concern the job alone: when each is turned down, and what it does.
use Rattle.std.specs.Prelude.{◌≡◌, ℕ, ◌+◌, ◌<◌, ◌≤◌, min, true, false, List, [], ◌∷◌, length, ℤ, Some, None, Ok, Err, Result, ◌≢◌, slice_set}
use Rattle.pieces.specs.declared.piece.Piece.{Piece}
use Rattle.pieces.specs.Pieces.{Lists}
use Rattle.meaning.specs.declared.reading.Reading.{Reading}
use Rattle.meaning.specs.Readings.{Readings, ReadingEnds, ReadingWith, widest, Within, entered}
use Rattle.runs.specs.Bounds.{line_cells, last_end}
use Rattle.runs.specs.States.{State, readings_of}
use Rattle.runs.specs.Conditions.{Condition, asks, FirstFailing}

pub data JobCall : Type 0 where
  enter : (line from to : ℕ) (lower upper : ℤ) → JobCall
  known : (line : ℕ) → JobCall
  tally : JobCall
  seal : JobCall

pub data JobAnswer : Type 0 where
  accepted : JobAnswer
  first_unknown : ℕ → JobAnswer
  count : ℕ → JobAnswer

module _ (s : State) (line from to : ℕ) (lower upper : ℤ) where
  -- the reading is inside the standing one at each tick of the stretch
  abbrev pub Narrows : Type 0
  Narrows = (p : Reading) → ReadingWith lower upper (Some p) → (u : ℕ) → from ≤ u → u < to → Within p (readings_of s line u)

  -- the line's pieces once the reading is set
  abbrev pub SetsPieces : Reading → List (Piece Reading) → Type 0
  SetsPieces p ps = ReadingWith lower upper (Some p) × Lists (entered (readings_of s) line from to p line) ps

  -- the line's cells suffice for its pieces then
  abbrev pub FitsLine : Type 0
  FitsLine = (p : Reading) (ps : List (Piece Reading)) → SetsPieces p ps → length ps ≤ line_cells

  -- numbers 1 to 6
  abbrev pub enter_asks : List Condition
  enter_asks =
      asks 1 (s.sealed ≡ false) ∷ (asks 2 (line < length s.lines) ∷ (asks 3 ((from < to) × (to ≤ last_end)) ∷ (asks 4 (ReadingEnds lower upper) ∷ (asks 5 Narrows ∷ (asks 6 FitsLine ∷ [])))))

-- an accepted entry counts, up to where the tally rests
abbrev pub counted : ℕ → ℕ
counted n = min (n + 1) 4294967295

-- t is the first tick at which nothing is known of the line
pub record FirstUnknown (x : Readings) (line t : ℕ) : Type 0 where
  pub here : x line t ≡ widest
  pub before : (u : ℕ) → u < t → x line u ≢ widest

abbrev pub job_asks : State → JobCall → List Condition
job_asks s (enter line from to lower upper) = enter_asks s line from to lower upper
job_asks s (known line) = asks 2 (line < length s.lines) ∷ []
job_asks s tally = []
job_asks s seal = []

-- the accepted call answers a and leaves the state z
abbrev pub JobDoes : State → JobCall → JobAnswer → State → Type 0
JobDoes s (enter line from to lower upper) a z =
    (a ≡ accepted) × ((p : Reading) × ((ps : List (Piece Reading)) × (SetsPieces s line from to lower upper p ps × (z ≡ record s { lines = slice_set s.lines line ps; tally = counted s.tally }))))
JobDoes s (known line) a z = (t : ℕ) × (FirstUnknown (readings_of s) line t × (a ≡ first_unknown t) × (z ≡ s))
JobDoes s tally a z = (a ≡ count s.tally) × (z ≡ s)
JobDoes s seal a z = (a ≡ accepted) × (z ≡ record s { sealed = true })

-- one call on the job, from the state s to the state z
abbrev pub JobTurn : State → JobCall → Result JobAnswer ℕ → State → Type 0
JobTurn s c (Ok a) z = FirstFailing (job_asks s c) None × JobDoes s c a z
JobTurn s c (Err n) z = FirstFailing (job_asks s c) (Some n) × (z ≡ s)
