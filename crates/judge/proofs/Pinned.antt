-- The lists of all rows are one, so what is written says whether every such list fits the cells.
use Rattle.std.proofs.Common.{◌≡◌, ◌<◌, ◌≤◌, List, [], length, get_or, sym, ◌∙◌, subst, arith}
use Rattle.std.proofs.lemmas.List.{ext_get_or}
use Rattle.grades.specs.Kinds.{Kind}
use Rattle.grades.specs.Ranges.{Span}
use Rattle.grades.specs.declared.range.Range.{Range}
use Rattle.pieces.specs.declared.piece.Piece.{Piece}
use Rattle.pieces.proofs.Chains.{only_one}
use Rattle.rules.specs.declared.row.Row.{Row}
use Rattle.meaning.specs.Readings.{Readings}
use Rattle.meaning.specs.Values.{value}
use Rattle.meaning.specs.Verdicts.{ranges}
use Rattle.runs.specs.Calls.{all, RowLists}
use Rattle.judge.specs.Cells.{Complete, RowsRunOut}

module _ (K : Kind) (rows : List Row) (x : Readings) where
  abbrev ListsOfRows : Type 0
  ListsOfRows = List (List (Piece (Span K.Value)))

  pub row_lists_one : (pss qss : ListsOfRows) → RowLists K rows x pss → RowLists K rows x qss → pss ≡ qss
  row_lists_one pss qss p q =
      ext_get_or [] pss qss (p.many ∙ sym q.many) (λ k h.
      let lt : k < length rows = omega (arith, p.many) in
      only_one (Span K.Value) (value (ranges K) rows x k) (get_or pss k []) (get_or qss k []) (p.each k lt) (q.each k lt))

  module _ {G : Type 0} (val : G → K.Value) (before after : List (Piece (Range G))) (pss : ListsOfRows) where
    pub complete_fits : Complete K val rows x before after pss → (qss : ListsOfRows) → RowLists K rows x qss → length (all qss) ≤ length before
    complete_fits c qss q = subst (λ zss. length (all zss) ≤ length before) (row_lists_one pss qss c.listed q) c.fits

    pub cut_misfits : RowsRunOut K val rows x before after pss → ((qss : ListsOfRows) → RowLists K rows x qss → length (all qss) ≤ length before) → ⊥
    cut_misfits c fits = let h = fits pss c.listed in omega (arith, c.longer)
