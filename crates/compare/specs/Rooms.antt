-- The cells that are lent, and how far they go.
use Rattle.std.specs.Prelude.{◌-◌, ◌≤◌, min, Bool, true, not, cond, ◌&&◌, nat_eq, nat_le, List, [], ◌∷◌, length, take_while, ℤ}
use Rattle.std.specs.Bool.{beq}
use Rattle.std.specs.Ordering.{int_eq}
use Rattle.grades.specs.declared.range.Range.{Range}
use Rattle.pieces.specs.declared.piece.Piece.{Piece}
use Rattle.meaning.specs.declared.mark.Mark.{Mark}
use Rattle.reference.specs.Gradings.{Grading}
use Rattle.reference.specs.declared.ends.Ends.{Ends}
use Rattle.compare.specs.Cells.{Blanks, unwritten_behind, alike}
use Rattle.runs.specs.Conditions.{Condition, asks}
use Rattle.compare.specs.declared.lent.Room.{Room}

-- what a marking asks of the cells, whose lists take so many: numbers 9 to 11
abbrev pub cells_ask : Room → Room → List Condition
cells_ask room used =
    asks 9 (used.rows ≤ room.rows) ∷ (asks 10 (used.wants ≤ room.wants) ∷ (asks 11 (used.marks ≤ room.marks) ∷ []))

-- how much is written of each kind: as far as its cells go, and nothing behind a kind that has too few
abbrev pub written_in : Room → Room → Room
written_in room used = record {
  rows = min used.rows room.rows;
  wants = cond (nat_le used.rows room.rows) (min used.wants room.wants) 0;
  marks = cond (nat_le used.rows room.rows && nat_le used.wants room.wants) (min used.marks room.marks) 0;
}

-- one cell less of each kind in turn, and then none less
abbrev pub tight_rooms : Room → List Room
tight_rooms r =
    record { rows = r.rows - 1; wants = r.wants; marks = r.marks } ∷ (record { rows = r.rows; wants = r.wants - 1; marks = r.marks } ∷ (record { rows = r.rows; wants = r.wants; marks = r.marks - 1 } ∷ (r ∷ [])))

-- how what cells hold is compared
abbrev pub same_ends : Ends → Ends → Bool
same_ends p q = int_eq p.lower q.lower && int_eq p.upper q.upper

abbrev pub same_range_piece : Piece Ends → Piece Ends → Bool
same_range_piece p q = nat_eq p.start q.start && same_ends p.value q.value

abbrev pub same_want_piece : Piece Bool → Piece Bool → Bool
same_want_piece p q = nat_eq p.start q.start && beq p.value q.value

abbrev pub same_mark : Mark → Mark → Bool
same_mark m n = nat_eq m.row n.row && (nat_eq m.first n.first && nat_eq m.after n.after)

-- what stands where nothing was written
abbrev pub blank_want : Piece Bool
blank_want = record { start = 4294967295; value = true }

abbrev pub blank_mark : Mark
blank_mark = record { row = 999; first = 4294967295; after = 0 }

-- the marks up to the first that was not written
abbrev pub written_marks : List Mark → List Mark
written_marks = take_while (λ m. not (same_mark m blank_mark))

-- a piece of ranges, with the numbers of their ends
abbrev pub graded : {G : Type 0} → (G → ℤ) → Piece (Range G) → Piece Ends
graded number p = record { start = p.start; value = record { lower = number p.value.lower; upper = number p.value.upper } }

-- the cells of all three kinds, of which the first hold ranges of a scale
module _ {C : Type 0} (held : C → Piece Ends) (S : Grading) where
  abbrev pub blank_range : Piece Ends
  blank_range = record { start = 4294967295; value = record { lower = S.highest; upper = S.lowest } }

  -- so many cells of each kind, none of which was written
  pub record BlankRoom (room : Room) (row_cells : List C) (want_cells : List (Piece Bool)) (mark_cells : List Mark) : Type 0 where
    pub rows : Blanks held blank_range room.rows row_cells
    pub wants : Blanks (λ p. p) blank_want room.wants want_cells
    pub marks : Blanks (λ m. m) blank_mark room.marks mark_cells

  -- how many cells of each kind come before the first that was not written
  abbrev pub written_room : List C → List (Piece Bool) → List Mark → Room
  written_room rows wants marks = record {
    rows = length (take_while (λ c. not (same_range_piece (held c) blank_range)) rows);
    wants = length (take_while (λ p. not (same_want_piece p blank_want)) wants);
    marks = length (written_marks marks);
  }

  -- no cell behind so many of each kind was written
  abbrev pub unwritten_room : Room → List C → List (Piece Bool) → List Mark → Bool
  unwritten_room used rows wants marks =
      unwritten_behind held same_range_piece blank_range used.rows rows && unwritten_behind (λ p. p) same_want_piece blank_want used.wants wants && unwritten_behind (λ m. m) same_mark blank_mark used.marks marks

  -- so many cells of each kind are the same on both sides
  abbrev pub alike_room : Room → List C → List (Piece Bool) → List Mark → List C → List (Piece Bool) → List Mark → Bool
  alike_room filled rows wants marks rows' wants' marks' =
      alike held same_range_piece filled.rows rows rows' && alike (λ p. p) same_want_piece filled.wants wants wants' && alike (λ m. m) same_mark filled.marks marks marks'
