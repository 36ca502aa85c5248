-- What is left in the lent cells, field by field.
use Rattle.std.proofs.Common.{◌≡◌, ℕ, zero, suc, ◌+◌, ◌-◌, ◌*◌, ◌<◌, ◌≤◌, List, [], ◌∷◌, length, take, drop, ℤ, Ok, Err, Result, sym, refl, ap, ◌∙◌, subst, arith}
use Rattle.std.proofs.lemmas.List.{drop-drop, length-replicate, length-set}
use Rattle.pieces.specs.declared.piece.Piece.{Piece}
use Rattle.meaning.specs.declared.reading.Reading.{Reading}
use Rattle.runs.specs.Jobs.{JobTurn, enter}
use Rattle.runs.specs.States.{State, blank, opened, line_count}
use Rattle.runs.proofs.Turns.{entry_passes}
use Rattle.jobs.specs.declared.fault.EnterFault.{EnterFault}
use Rattle.jobs.specs.declared.job.Job.{Job}
use Rattle.jobs.specs.Entries.{Changes}
use Rattle.jobs.specs.Faults.{enter_reply}
use Rattle.jobs.specs.Jobs.{cells_of, state_of}
use Rattle.jobs.specs.Lines.{noted_count}
use Rattle.jobs.proofs.Parts.{length_lines, line_at}
use Rattle.lent.specs.Holding.{Contents, SameLoans}
use Rattle.cases.specs.Headings.{OpenedCase, Opens}
use Rattle.cases.specs.Steps.{Sized}
use Rattle.lent.specs.declared.cells.Cells.{Cells}
use Rattle.case_lines.specs.Leaves.{FieldsLeave, LinesLie, CarriedOn, CaseLeaves, carried}

pub same_twice : (a b c : Cells) → SameLoans a b → SameLoans b c → SameLoans a c
same_twice a b c p q = (q.0 ∙ p.0, q.1 ∙ p.1, q.2 ∙ p.2, q.3 ∙ p.3)

-- behind equal beginnings of different length
later : {X : Type 0} (xs ys : List X) (m n : ℕ) → m ≤ n → drop m xs ≡ drop m ys → drop n xs ≡ drop n ys
later xs ys m n h e =
    let split : m + (n - m) ≡ n = omega arith in
    ap (λ i. drop i xs) (sym split) ∙ sym (drop-drop (n - m) m xs) ∙ ap (drop (n - m)) e ∙ drop-drop (n - m) m ys ∙ ap (λ i. drop i ys) split

-- an entry
pub entry_carries : (line from to : ℕ) (lower upper : ℤ) (j z : Job) (r : Result (Unit {0}) EnterFault) → JobTurn (state_of j) (enter line from to lower upper) (enter_reply r) (state_of z) → Changes line (cells_of j) (cells_of z) r → CarriedOn j z
entry_carries line from to lower upper j z (Ok u) turn kept =
    let there : line < length (state_of j).lines = (entry_passes (state_of j) line from to lower upper turn.0).there in
    let ps : List (Piece Reading) = turn.1.1.1.0 in
    record {
      many = ap (λ (s : State). length s.lines) turn.1.1.1.1.1 ∙ length-set (state_of j).lines line ps;
      behind = later (cells_of z) (cells_of j) (64 * line + 64) (64 * length (state_of j).lines) (omega (arith, there)) kept.1;
    }
entry_carries line from to lower upper j z (Err e) turn kept =
    record { many = ap (λ (s : State). length s.lines) turn.1; behind = ap (drop (64 * length (state_of j).lines)) kept }

pub carried_twice : (a b c : Job) → CarriedOn a b → CarriedOn b c → CarriedOn a c
carried_twice a b c p q =
    record { many = q.many ∙ p.many; behind = subst (λ n. drop (64 * n) (cells_of c) ≡ drop (64 * n) (cells_of b)) p.many q.behind ∙ p.behind }

-- a list's beginning, by its own length
again : {X : Type 0} (n : ℕ) (xs : List X) → take (length (take n xs)) xs ≡ take n xs
again zero xs = refl
again (suc n) [] = refl
again (suc n) (x ∷ xs) = ap (λ ys. x ∷ ys) (again n xs)

-- the lines of a job lie in its cells
pub lines_lie : (asked : ℕ) (before : List (Piece Reading)) (j z : Job) → state_of j ≡ opened (line_count asked (length before)) → drop (64 * line_count asked (length before)) (cells_of j) ≡ drop (64 * line_count asked (length before)) before → CarriedOn j z →
    LinesLie (state_of z).lines before (cells_of z)
lines_lie asked before j z state behind on =
    let cells = z.cells.now in
    let h = z.held in
    let many : length (state_of z).lines ≡ line_count asked (length before) = on.many ∙ ap (λ (s : State). length s.lines) state ∙ length-replicate (line_count asked (length before)) blank in
    let many₀ : length (state_of j).lines ≡ line_count asked (length before) = ap (λ (s : State). length s.lines) state ∙ length-replicate (line_count asked (length before)) blank in
    record {
      each = λ k there.
          let line = line_at cells h k (omega (arith, there, length_lines cells h)) in
          subst (λ (ps : List (Piece Reading)). take (length ps) (drop (64 * k) (cells_of z)) ≡ ps) (sym line) (again (noted_count h k) (drop (64 * k) cells));
      behind = subst (λ n. drop (64 * n) (cells_of z) ≡ drop (64 * n) before) (sym many) (subst (λ n. drop (64 * n) (cells_of z) ≡ drop (64 * n) (cells_of j)) many₀ on.behind ∙ behind);
    }

-- the whole case, from what its fields left
pub case_left : (case : List ℕ) (pieces : List (Piece Reading)) (o : OpenedCase) → Sized case (Ok tt) → Opens 1 [] case (Ok o) → (j z : Job) →
    state_of j ≡ opened (line_count o.lines (length pieces)) → drop (64 * line_count o.lines (length pieces)) (cells_of j) ≡ drop (64 * line_count o.lines (length pieces)) pieces → CarriedOn j z →
    (before after : Contents) → FieldsLeave o.rows o.next (state_of j) o.rest (state_of z) before after → CaseLeaves case pieces (cells_of z) before after
case_left case pieces o sized opens j z state behind on before after l =
    carried o (state_of z) sized opens (subst (λ (s : State). FieldsLeave o.rows o.next s o.rest (state_of z) before after) state l) (lines_lie o.lines pieces j z state behind on)
