-- Lists that lie one after the other in the cells, and what a row asks of those of its children.
use Rattle.std.specs.Prelude.{◌≡◌, ℕ, ◌+◌, ◌<◌, ◌≤◌, true, List, ℤ, length, slice_index, slice_range}
use Rattle.std.specs.Coded.{×_prop, Unit-prop, le_prop}
use mathlib.Core.Bool.{Bool-set}
use lib.Dec.{T_prop}
use lib.Signed.{◌≤ℤ◌, le_z}
use Rattle.grades.specs.Kinds.{Kind}
use Rattle.grades.specs.Ranges.{Span}
use Rattle.grades.specs.declared.range.Range.{Range}
use Rattle.pieces.specs.declared.piece.Piece.{Piece}
use Rattle.pieces.specs.Pieces.{ordered}
use Rattle.rules.specs.declared.row.Row.{Row}
use Rattle.rules.specs.declared.row.Row.TheVariants.{Test, Not, And, Or, Eventually, Always, Until}
use Rattle.rules.specs.Rows.{RowFits, Child}
use Rattle.judge.specs.Signals.{heard}

-- the cells from i up to j
abbrev pub cells_between : {X : Type 0} → ℕ → ℕ → List X → List X
cells_between i j cells = slice_range cells i j

-- an ordered list lies in the cells from i up to j
pub record Lies {V : Type 0} (i j : ℕ) (cells : List (Piece V)) : Type 0 where
  pub rises : i ≤ j
  pub within : j ≤ length cells
  pub in_order : ordered (cells_between i j cells) ≡ true

-- the list c, where begins has where each list begins
abbrev pub list_at : {X : Type 0} → List ℕ → List X → ℕ → List X
list_at begins cells c = cells_between (slice_index begins c) (slice_index begins (c + 1)) cells

-- the list c is there
pub record ListStands {V : Type 0} (begins : List ℕ) (cells : List (Piece V)) (c : ℕ) : Type 0 where
  pub known : c + 1 < length begins
  pub lies : Lies (slice_index begins c) (slice_index begins (c + 1)) cells

-- what the list c says at each tick
abbrev pub list_says : (K : Kind) {G : Type 0} → (G → K.Value) → List ℕ → List (Piece (Range G)) → ℕ → ℕ → Span K.Value
list_says K value begins cells c = heard K value (list_at begins cells c)

-- the row is in bounds, and the lists of its children are there
pub record RowReady {V : Type 0} (row : Row) (begins : List ℕ) (cells : List (Piece V)) : Type 0 where
  pub fits : RowFits row
  pub children : (c : ℕ) → Child row c → ListStands begins cells c

-- each of these facts has one proof at most, so a struct may keep it
pub Lies_prop : {V : Type 0} (i j : ℕ) (cells : List (Piece V)) → IsProp (Lies i j cells)
Lies_prop i j cells p q = λ k. record { rises = le_prop p.rises q.rises k; within = le_prop p.within q.within k; in_order = Bool-set _ _ p.in_order q.in_order k }

pub ListStands_prop : {V : Type 0} (begins : List ℕ) (cells : List (Piece V)) (c : ℕ) → IsProp (ListStands begins cells c)
ListStands_prop begins cells c p q = λ k. record { known = le_prop p.known q.known k; lies = Lies_prop (slice_index begins c) (slice_index begins (c + 1)) cells p.lies q.lies k }

le_ℤ_prop : (a b : ℤ) → IsProp (a ≤ℤ b)
le_ℤ_prop a b p q = λ k. record { le = T_prop (le_z a b) p.le q.le k }

pub RowFits_prop : (row : Row) → IsProp (RowFits row)
RowFits_prop (Test l s m) = ×_prop (le_ℤ_prop _ _) (le_ℤ_prop _ _)
RowFits_prop (Not d) = Unit-prop
RowFits_prop (And l r) = Unit-prop
RowFits_prop (Or l r) = Unit-prop
RowFits_prop (Eventually a b d) = le_prop
RowFits_prop (Always a b d) = le_prop
RowFits_prop (Until a b l r) = le_prop

pub RowReady_prop : {V : Type 0} (row : Row) (begins : List ℕ) (cells : List (Piece V)) → IsProp (RowReady row begins cells)
RowReady_prop row begins cells p q = λ k. record { fits = RowFits_prop row p.fits q.fits k; children = λ c h. ListStands_prop begins cells c (p.children c h) (q.children c h) k }
