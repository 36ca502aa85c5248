-- What the cells that are lent to the judge hold, how many there are, and which loans they are.
use Rattle.std.specs.Prelude.{◌≡◌, ℕ, Bool, List, length}
use Rattle.grades.specs.declared.margin.Margin.{Margin}
use Rattle.grades.specs.declared.range.Range.{Range}
use Rattle.grades.specs.declared.truth.Truth.{Truth}
use Rattle.pieces.specs.declared.piece.Piece.{Piece}
use Rattle.meaning.specs.declared.mark.Mark.{Mark}
use Rattle.lent.specs.declared.cells.Cells.{Cells}

-- what the cells of each sort hold
pub record Contents : Type 0 where
  pub truths : List (Piece (Range Truth))
  pub margins : List (Piece (Range Margin))
  pub wants : List (Piece Bool)
  pub marks : List Mark

abbrev pub contents : Cells → Contents
contents c = record { truths = c.truths.now; margins = c.margins.now; wants = c.wants.now; marks = c.marks.now }

-- how many cells of each sort there are
pub record CellCounts : Type 0 where
  pub truth_rows : ℕ
  pub margin_rows : ℕ
  pub wants : ℕ
  pub marks : ℕ

abbrev pub cell_counts : Contents → CellCounts
cell_counts x = record { truth_rows = length x.truths; margin_rows = length x.margins; wants = length x.wants; marks = length x.marks }

abbrev pub counts : Cells → CellCounts
counts c = cell_counts (contents c)

-- the same four loans
abbrev pub SameLoans : Cells → Cells → Type 0
SameLoans before after =
    (after.truths.ghost_name ≡ before.truths.ghost_name) × (after.margins.ghost_name ≡ before.margins.ghost_name) × (after.wants.ghost_name ≡ before.wants.ghost_name) × (after.marks.ghost_name ≡ before.marks.ghost_name)
