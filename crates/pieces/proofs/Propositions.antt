-- That pieces are a list that is kept holds in one way.
use Rattle.std.proofs.Common.{List, [], ◌∷◌}
use mathlib.Core.HLevel.{×_prop, ×₃_prop}
use denote.Struct.Props.{props}
use Rattle.pieces.specs.declared.piece.Piece.{Piece}
use Rattle.pieces.specs.Pieces.{Rising, Canonical}

module _ {C : Type 0} where
  rising_prop : (p : Piece C) (ps : List (Piece C)) → IsProp (Rising p ps)
  rising_prop p [] = hlevel props
  rising_prop p (q ∷ qs) = ×₃_prop (hlevel props) (hlevel props) (rising_prop q qs)

  pub canonical_prop : (ps : List (Piece C)) → IsProp (Canonical ps)
  canonical_prop [] = hlevel props
  canonical_prop (p ∷ ps) = ×_prop (hlevel props) (rising_prop p ps)
