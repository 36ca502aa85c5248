-- How the pieces of a line change where a reading is set on a stretch.
use Rattle.std.specs.Prelude.{◌≡◌, ℕ, ◌+◌, ◌-◌, List, [], ◌∷◌, ◌++◌, length, take, drop, Some, None, Option, ◌≢◌}
use Rattle.pieces.specs.declared.piece.Piece.{Piece}
use Rattle.pieces.specs.Pieces.{last_from}
use Rattle.meaning.specs.declared.reading.Reading.{Reading}
use Rattle.meaning.specs.Readings.{entered}
use Rattle.runs.specs.States.{reading_at}
use Rattle.jobs.specs.declared.edit.Edit.{Edit}

-- ys written over the cells from base on
abbrev pub written : {X : Type 0} → List X → ℕ → List X → List X
written cells base ys = take base cells ++ (ys ++ drop (base + length ys) cells)

-- what the pieces read, with p set from one tick to the tick before another
abbrev pub set_on : List (Piece Reading) → ℕ → ℕ → Reading → ℕ → Reading
set_on ps from to p = entered (λ line. reading_at ps) 0 from to p 0

-- a piece with the value v from t on; none where v is joined to the same value before it
abbrev pub Joins : ℕ → Reading → Reading → Option (Piece Reading) → Type 0
Joins t v before None = before ≡ v
Joins t v before (Some p) = (p ≡ record { start = t; value = v }) × (before ≢ v)

-- the same behind a list, where there may be nothing before
abbrev pub FollowsPieces : List (Piece Reading) → ℕ → Reading → Option (Piece Reading) → Type 0
FollowsPieces [] t v o = o ≡ Some (record { start = t; value = v })
FollowsPieces (p ∷ ps) t v o = Joins t v (last_from p.value ps) o

abbrev pub optional : Option (Piece Reading) → List (Piece Reading)
optional None = []
optional (Some p) = p ∷ []

-- the pieces once the edit is made
abbrev pub edited : List (Piece Reading) → Edit → List (Piece Reading)
edited ps e = take e.keep ps ++ (optional e.first ++ (optional e.second ++ drop e.skip ps))

-- how many they are then, of n before
abbrev pub edited_size : Edit → ℕ → ℕ
edited_size e n = e.keep + length (optional e.first) + length (optional e.second) + (n - e.skip)
