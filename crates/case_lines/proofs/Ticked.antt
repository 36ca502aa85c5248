-- Ticks as the listing has them.
use Rattle.std.proofs.Common.{◌≡◌, ℕ, ◌≤◌, List, ◌++◌, length, take, Result, ap, subst}
use Rattle.std.proofs.lemmas.List.{length-take-le}
use Rattle.grades.specs.Kinds.{Kind}
use Rattle.rules.specs.declared.row.Row.{Row}
use Rattle.meaning.specs.declared.mark.Mark.{Mark}
use Rattle.runs.specs.States.{State}
use Rattle.runs.specs.Calls.{MarkedVerdict, MarkTurn}
use Rattle.case_lines.specs.Lines.{mark_lines}

-- marking with as many row cells, counted another way
pub recounted : (K : Kind) (s : State) (rows : List Row) (t w m : ℕ) {a b : ℕ} (r : Result (MarkedVerdict K) ℕ) → a ≡ b → MarkTurn K s rows t a w m r → MarkTurn K s rows t b w m r
recounted K s rows t w m r kept turn = subst (λ (i : ℕ). MarkTurn K s rows t i w m r) kept turn

-- a line that says how many marks follow, and their lines
pub counted : (line : ℕ → List ℕ) (n : ℕ) (ms : List Mark) → n ≤ length ms → line (length (take n ms)) ++ mark_lines (take n ms) ≡ line n ++ mark_lines (take n ms)
counted line n ms fits = ap (λ (i : ℕ). line i ++ mark_lines (take n ms)) (length-take-le n ms fits)
