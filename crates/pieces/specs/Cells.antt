-- What a sweep leaves in the cells, by what the values stand for.
use Rattle.std.specs.Prelude.{◌≡◌, ℕ, ◌+◌, ◌≤◌, List, ◌++◌, map, length, take, drop, Ok, Err, Result}
use Rattle.pieces.specs.declared.piece.Piece.{Piece}
use Rattle.pieces.specs.Pieces.{Lists, ListBegins}

-- the piece with what its value stands for
abbrev pub meant : {V C : Type 0} → (V → C) → Piece V → Piece C
meant value p = record { start = p.start; value = value p.value }

abbrev pub shown : {V C : Type 0} → (V → C) → List (Piece V) → List (Piece C)
shown value ps = map (meant value) ps

-- ps was put into the cells from `used` on, and nothing else changed
abbrev pub Put : {X : Type 0} → List X → ℕ → List X → List X → Type 0
Put before used ps after = (take (used + length ps) after ≡ take used before ++ ps) × (drop (used + length ps) after ≡ drop (used + length ps) before)

module _ {V C : Type 0} (value : V → C) (f : ℕ → C) (before : List (Piece V)) (used : ℕ) (after : List (Piece V)) where
  -- the list of f stands in the cells from `used` up to n
  pub record CellsWhole (n : ℕ) : Type 0 where
    pub pieces : List (Piece V)
    pub size : n ≡ used + length pieces
    pub fits : n ≤ length before
    pub put : Put before used pieces after
    pub listed : Lists f (shown value pieces)

  -- the cells from `used` on are full of the beginning of the list of f, which goes on
  pub record CellsShort : Type 0 where
    pub pieces : List (Piece V)
    pub full : length before ≤ used + length pieces
    pub put : Put before used pieces after
    pub begins : ListBegins f (shown value pieces)

  abbrev pub Written : {E : Type 0} → Result ℕ E → Type 0
  Written (Ok n) = CellsWhole n
  Written (Err e) = CellsShort
