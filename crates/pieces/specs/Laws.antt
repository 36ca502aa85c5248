-- What holds of every list that is kept of a function of ticks.
use Rattle.std.specs.Prelude.{◌≡◌, ℕ, ◌+◌, ◌<◌, List, ◌++◌, length, Option, slice_index_or}
use Rattle.pieces.specs.declared.piece.Piece.{Piece}
use Rattle.pieces.specs.Ticks.{Steady, Changed}
use Rattle.pieces.specs.Pieces.{start_of, Lists, ListBegins, Found, HoldsTick}

module _ (C : Type 0) where
  -- a function has one list
  abbrev pub OnlyOne : Type 0
  OnlyOne = (f : ℕ → C) (ps qs : List (Piece C)) → Lists f ps → Lists f qs → ps ≡ qs

  -- the list of f is a beginning of it with more pieces behind
  abbrev pub Extends : Type 0
  Extends = (f : ℕ → C) (ps qs : List (Piece C)) → ListBegins f ps → Lists f qs → (rest : List (Piece C)) × ((0 < length rest) × (qs ≡ ps ++ rest))

  -- what is found in the list of f is the value there and the tick of the next change
  abbrev pub NextChange : Type 0
  NextChange = (f : ℕ → C) (ps : List (Piece C)) (t : ℕ) (v : C) (o : Option ℕ) → Lists f ps → Found ps t v o → Steady f t v o × Changed f v o

  -- the piece at k is the last that starts at t or before; f has its value at t, and next changes where the piece behind it starts, if there is one
  pub record Holder (f : ℕ → C) (ps : List (Piece C)) (t k : ℕ) : Type 0 where
    pub holds : HoldsTick ps t k
    pub last : (j : ℕ) (d : Piece C) → k < j → j < length ps → t < (slice_index_or ps j d).start
    pub value : (d : Piece C) → (slice_index_or ps k d).value ≡ f t
    pub steady : Steady f t (f t) (start_of ps (k + 1))
    pub changed : Changed f (f t) (start_of ps (k + 1))

  -- in the list of f there is one such piece for each tick, and no other piece holds the tick
  abbrev pub OneHolder : Type 0
  OneHolder = (f : ℕ → C) (ps : List (Piece C)) (t : ℕ) → Lists f ps → (k : ℕ) × (Holder f ps t k × ((j : ℕ) → HoldsTick ps t j → j ≡ k))
