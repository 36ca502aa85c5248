-- Judging and marking in the front of cells leaves the cells behind it.
use Rattle.std.proofs.Common.{◌≡◌, ℕ, min, Bool, List, ◌++◌, length, take, drop, Result, sym, subst}
use Rattle.grades.specs.Kinds.{Kind}
use Rattle.grades.specs.declared.range.Range.{Range}
use Rattle.pieces.specs.declared.piece.Piece.{Piece}
use Rattle.rules.specs.declared.row.Row.{Row}
use Rattle.meaning.specs.declared.mark.Mark.{Mark}
use Rattle.runs.specs.States.{State, readings_of}
use Rattle.judge.specs.declared.fault.JudgeFault.{JudgeFault}
use Rattle.judge.specs.declared.fault.MarkFault.{MarkFault}
use Rattle.judge.specs.declared.marking.Marking.{Marking}
use Rattle.judge.specs.Answers.{JudgeCells, MarkedCells}
use Rattle.scripts.specs.declared.call.Portion.{Portion}
use Rattle.scripts.specs.Leavings.{JudgeLeaves, MarkLeaves}
use Rattle.scripts.proofs.Parts.{front_counted, front_anew, behind_anew}

module _ (K : Kind) {G : Type 0} (value : G → K.Value) (rule : List Row) (s : State) where
  pub judged_front : (n k : ℕ) (xs zs : List (Piece (Range G))) (r : Result (Range G) JudgeFault) → k ≡ min n (length xs) → length zs ≡ k → JudgeCells K value rule (readings_of s) (take k xs) zs r → JudgeLeaves K value rule s n xs (zs ++ drop k xs) r
  judged_front n k xs zs r is long h = record {
    front = subst (λ v. JudgeCells K value rule (readings_of s) v (take n (zs ++ drop k xs)) r) (front_counted n k xs is) (subst (λ v. JudgeCells K value rule (readings_of s) (take k xs) v r) (sym (front_anew n k xs is zs long)) h);
    behind = behind_anew n k xs is zs long;
  }

  pub marked_front : (t : ℕ) (p : Portion) (a b c : ℕ) (xs xs' : List (Piece (Range G))) (ws ws' : List (Piece Bool)) (ms ms' : List Mark) (r : Result (Marking G) MarkFault) →
      a ≡ min p.rows (length xs) → length xs' ≡ a → b ≡ min p.wants (length ws) → length ws' ≡ b → c ≡ min p.marks (length ms) → length ms' ≡ c →
      MarkedCells K value rule (readings_of s) t (take a xs) xs' (take b ws) ws' (take c ms) ms' r → MarkLeaves K value rule s t p xs (xs' ++ drop a xs) ws (ws' ++ drop b ws) ms (ms' ++ drop c ms) r
  marked_front t p a b c xs xs' ws ws' ms ms' r ia la ib lb ic lc h =
      record {
        front = coe 0 1 (i. MarkedCells K value rule (readings_of s) t (front_counted p.rows a xs ia i) (sym (front_anew p.rows a xs ia xs' la) i) (front_counted p.wants b ws ib i) (sym (front_anew p.wants b ws ib ws' lb) i) (front_counted p.marks c ms ic i) (sym (front_anew p.marks c ms ic ms' lc) i) r) h;
        rows_behind = behind_anew p.rows a xs ia xs' la;
        wants_behind = behind_anew p.wants b ws ib ws' lb;
        marks_behind = behind_anew p.marks c ms ic ms' lc;
      }
