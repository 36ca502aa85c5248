-- Turns with their cells counted another way.
use Rattle.std.proofs.Common.{◌≡◌, ℕ, ◌≤◌, Bool, List, ◌++◌, length, ℤ, Ok, Err, Result, IfOk, sym, refl, ap, subst, arith}
use Rattle.std.proofs.lemmas.List.{take-append-le}
use Rattle.grades.specs.Kinds.{Kind}
use Rattle.grades.specs.Ranges.{Span}
use Rattle.grades.specs.Worth.{worth}
use Rattle.rules.specs.declared.row.Row.{Row}
use Rattle.meaning.specs.declared.mark.Mark.{Mark}
use Rattle.meaning.specs.Readings.{Readings}
use Rattle.runs.specs.States.{State}
use Rattle.runs.specs.Jobs.{JobAnswer, enter, JobTurn}
use Rattle.runs.specs.Calls.{JudgeTurn, MarkTurn, MarkedVerdict as Marked}
use Rattle.judge.specs.declared.fault.MarkFault.{MarkFault}
use Rattle.judge.specs.declared.marking.Marking.{Marking}
use Rattle.judge.specs.Answers.{mark_reply, MarkedCells}
use Rattle.grades.specs.declared.range.Range.{Range}
use Rattle.grades.specs.declared.truth.Truth.{Truth}
use Rattle.grades.specs.declared.margin.Margin.{Margin}
use Rattle.pieces.specs.declared.piece.Piece.{Piece}
use Rattle.scripts.specs.declared.reply.Reply.TheVariants.{MarkedTruth, MarkedMargin}
use Rattle.scripts.specs.Events.{marks_in}

pub judge_recounted : (K : Kind) (s : State) (rows : List Row) (t : ℕ) (r : Result (Span K.Value) ℕ) {a b : ℕ} → a ≡ b → JudgeTurn K s rows t a r → JudgeTurn K s rows t b r
judge_recounted K s rows t r e h = subst (λ (n : ℕ). JudgeTurn K s rows t n r) e h

pub mark_recounted : (K : Kind) (s : State) (rows : List Row) (t : ℕ) {a b c d e f : ℕ} {r q : Result (Marked K) ℕ} → a ≡ b → c ≡ d → e ≡ f → r ≡ q → MarkTurn K s rows t a c e r → MarkTurn K s rows t b d f q
mark_recounted K s rows t {b = b} {c = c} {d = d} {e = e} {f = f} {r = r} p q o same h =
    subst (λ (v : Result (Marked K) ℕ). MarkTurn K s rows t b d f v) same
    (subst (λ (n : ℕ). MarkTurn K s rows t b d n r) o
    (subst (λ (n : ℕ). MarkTurn K s rows t b n e r) q
    (subst (λ (n : ℕ). MarkTurn K s rows t n c e r) p h)))

pub entry_recounted : (s z : State) (line from to : ℕ) (r : Result JobAnswer ℕ) {a b c d : ℤ} → a ≡ b → c ≡ d → JobTurn s (enter line from to a c) r z → JobTurn s (enter line from to b d) r z
entry_recounted s z line from to r {b = b} {c = c} p q h = subst (λ (v : ℤ). JobTurn s (enter line from to b v) r z) q (subst (λ (v : ℤ). JobTurn s (enter line from to v c) r z) p h)

-- the marks are in front of what is behind them
pub marks_front : (K : Kind) {G : Type 0} (value : G → K.Value) (r : Result (Marking G) MarkFault) (xs ys : List Mark) → IfOk r (λ m. m.marks ≤ length xs) → mark_reply K value xs r ≡ mark_reply K value (xs ++ ys) r
marks_front K value (Ok m) xs ys h = ap (λ (v : List Mark). Ok (record { verdict = worth K value m.verdict; marks = v })) (sym (take-append-le m.marks xs ys h))
marks_front K value (Err f) xs ys h = refl

-- there are as many mark cells as marks
pub marks_fit : (K : Kind) {G : Type 0} (value : G → K.Value) (rows : List Row) (x : Readings) (t : ℕ) (cells cells' : List (Piece (Range G))) (wants wants' : List (Piece Bool)) (marks marks' : List Mark) (r : Result (Marking G) MarkFault) {n : ℕ} → length marks ≤ n →
    MarkedCells K value rows x t cells cells' wants wants' marks marks' r → IfOk r (λ m. m.marks ≤ n)
marks_fit K value rows x t cells cells' wants wants' marks marks' (Ok m) few h = let w = h.2.1 in omega (arith, w.1, w.2.fits, few)
marks_fit K value rows x t cells cells' wants wants' marks marks' (Err f) few h = tt

pub truth_marks : (r : Result (Marking Truth) MarkFault) {n : ℕ} → IfOk r (λ m. m.marks ≤ n) → marks_in (MarkedTruth r) ≤ n
truth_marks (Ok m) h = h
truth_marks (Err f) h = omega arith

pub margin_marks : (r : Result (Marking Margin) MarkFault) {n : ℕ} → IfOk r (λ m. m.marks ≤ n) → marks_in (MarkedMargin r) ≤ n
margin_marks (Ok m) h = h
margin_marks (Err f) h = omega arith
