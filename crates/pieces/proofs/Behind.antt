-- A list that was written into the cells behind the first ones, which were held apart from it.
use Rattle.std.proofs.Common.{◌≡◌, ℕ, ◌+◌, ◌≤◌, List, ◌++◌, length, take, drop, sym, ap, ◌∙◌, arith}
use Rattle.std.proofs.Math.Seq.{take-append-add, drop-append-add}
use Rattle.std.proofs.lemmas.List.{drop-drop, length-take-le, length-drop}
use Rattle.pieces.specs.declared.piece.Piece.{Piece}
use Rattle.pieces.specs.Cells.{Put, CellsWhole, CellsShort}

module _ {X : Type 0} (before front rest after : List X) (used : ℕ) (within : used ≤ length before) (first : front ≡ take used before) (last : rest ≡ drop used before) where
  first_size : length front ≡ used
  first_size = ap length first ∙ length-take-le used before within

  rest_size : used + length rest ≡ length before
  rest_size = omega (arith, ap length last ∙ length-drop used before)

  put_behind : (ps : List X) → Put rest 0 ps after → Put before used ps (front ++ after)
  put_behind ps w =
      let n = length ps in
      let z : 0 + n ≡ n = omega arith in
      let s : n + used ≡ used + n = omega arith in (
        ap (λ m. take (m + n) (front ++ after)) (sym first_size) ∙ take-append-add front after n ∙ ap (λ xs. xs ++ take n after) first
            ∙ ap (λ xs. take used before ++ xs) (ap (λ m. take m after) (sym z) ∙ w.0),
        ap (λ m. drop (m + n) (front ++ after)) (sym first_size) ∙ drop-append-add front after n ∙ ap (λ m. drop m after) (sym z) ∙ w.1
            ∙ ap (λ m. drop m rest) z ∙ ap (drop n) last ∙ drop-drop n used before,
      )

module _ {V C : Type 0} (val : V → C) (f : ℕ → C) (before front rest after : List (Piece V)) (used : ℕ) (within : used ≤ length before) (first : front ≡ take used before) (last : rest ≡ drop used before) where
  pub whole_behind : (n : ℕ) → CellsWhole val f rest 0 after n → CellsWhole val f before used (front ++ after) (used + n)
  whole_behind n w = record {
    pieces = w.pieces;
    size = omega (arith, w.size);
    fits = omega (arith, w.fits, rest_size before front rest after used within first last);
    put = put_behind before front rest after used within first last w.pieces w.put;
    listed = w.listed;
  }

  pub short_behind : CellsShort val f rest 0 after → CellsShort val f before used (front ++ after)
  short_behind s = record {
    pieces = s.pieces;
    full = omega (arith, s.full, rest_size before front rest after used within first last);
    put = put_behind before front rest after used within first last s.pieces s.put;
    begins = s.begins;
  }
