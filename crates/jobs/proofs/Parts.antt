-- The lines of a job by their numbers.
use Rattle.std.proofs.Common.{◌≡◌, ℕ, ◌+◌, ◌<◌, ◌≤◌, List, [], length, get_or, arith, rules}
use Rattle.std.proofs.lemmas.List.{places}
use Rattle.std.proofs.lemmas.List.FromFn.{length-map-range_with_len, get_or-map-range_with_len}
use Rattle.pieces.specs.declared.piece.Piece.{Piece}
use Rattle.meaning.specs.declared.reading.Reading.{Reading}
use Rattle.jobs.specs.declared.held.Held.{Held}
use Rattle.jobs.specs.Lines.{cells_from, held_pieces, held_state}

pub length_part : {X : Type 0} (cells : List X) (base n : ℕ) → base + n ≤ length cells → length (cells_from cells base n) ≡ n
length_part cells base n h = search (rules, places)

module _ (cells : List (Piece Reading)) (h : Held) where
  pub length_lines : length (held_state cells h).lines ≡ h.lines
  length_lines = length-map-range_with_len (held_pieces cells h) 0 h.lines

  pub line_at : (k : ℕ) → k < h.lines → get_or (held_state cells h).lines k [] ≡ held_pieces cells h k
  line_at k l = get_or-map-range_with_len (held_pieces cells h) 0 h.lines k k [] l (omega arith)
