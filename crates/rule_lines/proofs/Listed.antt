-- Rows are written line by line.
use Rattle.std.proofs.Common.{◌≡◌, ℕ, ◌+◌, ◌<◌, List, [], ◌∷◌, ◌++◌, length, get_or, take, sym, ap, ◌∙◌, append_assoc, append-nil, arith}
use Rattle.std.specs.Fmt.{HasWritten}
use Rattle.std.specs.declared.fmt.Formatter.{Formatter}
use Rattle.std.proofs.Output.{has_written_append, has_written_of_eq}
use Rattle.std.proofs.lemmas.List.{take_more, length-take-le}
use Rattle.rules.specs.declared.row.Row.{Row}
use Rattle.rule_lines.specs.Listing.{row_line, row_lines}

row_lines_push : (j : ℕ) (rows : List Row) (r : Row) → row_lines j (rows ++ (r ∷ [])) ≡ row_lines j rows ++ row_line (j + length rows) r
row_lines_push j [] r = append-nil (row_line j r) ∙ ap (λ (k : ℕ). row_line k r) (omega arith)
row_lines_push j (x ∷ rows) r =
    ap (λ (v : List ℕ). row_line j x ++ v) (row_lines_push (j + 1) rows r ∙ ap (λ (k : ℕ). row_lines (j + 1) rows ++ row_line k r) (omega arith)) ∙
    sym (append_assoc (row_line j x) (row_lines (j + 1) rows) (row_line (j + length (x ∷ rows)) r))

row_lines_more : (rows : List Row) (k : ℕ) (d : Row) → k < length rows → row_lines 0 (take k rows) ++ row_line k (get_or rows k d) ≡ row_lines 0 (take (k + 1) rows)
row_lines_more rows k d h =
    sym (ap (row_lines 0) (take_more rows k d h) ∙ row_lines_push 0 (take k rows) (get_or rows k d) ∙ ap (λ (n : ℕ). row_lines 0 (take k rows) ++ row_line n (get_or rows k d)) (omega (arith, length-take-le k rows (omega arith))))

module _ {W : Type 0} (took : W → List ℕ → W → Type 0) (f : Formatter W) where
  pub more : (g h : Formatter W) (rows : List Row) (k : ℕ) (d : Row) → k < length rows → HasWritten took f (row_lines 0 (take k rows)) g → HasWritten took g (row_line k (get_or rows k d)) h → HasWritten took f (row_lines 0 (take (k + 1) rows)) h
  more g h rows k d some x y = has_written_of_eq took f _ _ h (row_lines_more rows k d some) (has_written_append took f _ g _ h x y)
