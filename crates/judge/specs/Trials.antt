-- What a range is tried for: that it is not settled, that it can only be lowest, that it can be more.
use Rattle.std.specs.Prelude.{◌≡◌, ℕ, Bool, true, false, not, ◌&&◌, List}
use Rattle.grades.specs.declared.range.Range.{Range}
use Rattle.grades.specs.Worth.{worth}
use Rattle.pieces.specs.declared.piece.Piece.{Piece}
use Rattle.pieces.specs.Pieces.{ordered, at_list}
use Rattle.grades.specs.Kinds.{Kind}
use Rattle.grades.specs.Ranges.{Span}
use Rattle.judge.specs.declared.trial.Trial.{Trial}
use Rattle.judge.specs.declared.trial.Trial.TheVariants.{Loose, Lowest, Higher}

abbrev pub dec_says : {P : Type 0} → Dec P → Bool
dec_says (yes p) = true
dec_says (no n) = false

abbrev pub tried : (K : Kind) → Trial → Span K.Value → Bool
tried K Loose p = not (dec_says (K.same p.low p.high))
tried K Lowest p = dec_says (K.same p.high K.lowest)
tried K Higher p = not (dec_says (K.same p.high K.lowest))

-- what the trial says of a list of ranges at each tick
abbrev pub range_says : (K : Kind) {G : Type 0} (value : G → K.Value) → Trial → (ps : List (Piece (Range G))) → ordered ps ≡ true → ℕ → Bool
range_says K value trial ps ok t = tried K trial (worth K value (at_list ps ok t))

-- wanted, and not settled
abbrev pub asked : (ℕ → Bool) → (ℕ → Bool) → ℕ → Bool
asked want loose t = want t && loose t
