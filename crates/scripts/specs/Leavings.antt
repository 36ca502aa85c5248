-- What a call leaves in the cells. Judging and marking write into the first cells of each sort, as many as they ask for or all; all other cells are as they were. An entry changes its line's cells alone.
use Rattle.std.specs.Prelude.{◌≡◌, ℕ, Bool, List, take, drop, ℤ, Result}
use Rattle.grades.specs.Kinds.{Kind}
use Rattle.grades.specs.Truths.{truths}
use Rattle.grades.specs.Margins.{margins}
use Rattle.grades.specs.declared.truth.Truth.{Truth}
use Rattle.grades.specs.declared.margin.Margin.{Margin}
use Rattle.grades.specs.declared.range.Range.{Range}
use Rattle.pieces.specs.declared.piece.Piece.{Piece}
use Rattle.rules.specs.declared.row.Row.{Row}
use Rattle.rules.specs.Texts.{table_of}
use Rattle.meaning.specs.declared.mark.Mark.{Mark}
use Rattle.runs.specs.States.{State, readings_of}
use Rattle.jobs.specs.declared.fault.EnterFault.{EnterFault}
use Rattle.jobs.specs.declared.fault.NoSuchLine.{NoSuchLine}
use Rattle.jobs.specs.Entries.{Changes}
use Rattle.judge.specs.declared.fault.JudgeFault.{JudgeFault}
use Rattle.judge.specs.declared.fault.MarkFault.{MarkFault}
use Rattle.judge.specs.declared.marking.Marking.{Marking}
use Rattle.judge.specs.Answers.{JudgeCells, MarkedCells}
use Rattle.grades.specs.Worth.{truth_value, margin_level}
use Rattle.scripts.specs.Moments.{Moment}
use Rattle.scripts.specs.declared.call.Portion.{Portion}
use Rattle.scripts.specs.declared.call.Call.{Call}
use Rattle.scripts.specs.declared.call.Call.TheVariants.{Enter, Known, Tally, Seal, JudgeTruth, JudgeMargin, MarkTruth, MarkMargin}
use Rattle.scripts.specs.declared.reply.Reply.{Reply}
use Rattle.scripts.specs.declared.reply.Reply.TheVariants as reply

module _ (K : Kind) {G : Type 0} (value : G → K.Value) (rule : List Row) (s : State) where
  -- judging with so many row cells
  pub record JudgeLeaves (rows : ℕ) (before after : List (Piece (Range G))) (r : Result (Range G) JudgeFault) : Type 0 where
    pub front : JudgeCells K value rule (readings_of s) (take rows before) (take rows after) r
    pub behind : drop rows after ≡ drop rows before

  -- marking with so many row cells, want cells and mark cells
  pub record MarkLeaves (t : ℕ) (p : Portion) (ranges ranges' : List (Piece (Range G))) (wants wants' : List (Piece Bool)) (marks marks' : List Mark) (r : Result (Marking G) MarkFault) : Type 0 where
    pub front : MarkedCells K value rule (readings_of s) t (take p.rows ranges) (take p.rows ranges') (take p.wants wants) (take p.wants wants') (take p.marks marks) (take p.marks marks') r
    pub rows_behind : drop p.rows ranges' ≡ drop p.rows ranges
    pub wants_behind : drop p.wants wants' ≡ drop p.wants wants
    pub marks_behind : drop p.marks marks' ≡ drop p.marks marks

-- what the call c that was answered r leaves
pub data CallLeaves (c : Call) (r : Reply) (before after : Moment) : Type 0 where
  enter_leaves : (line from to : ℕ) (lower upper : ℤ) (q : Result (Unit {0}) EnterFault) → c ≡ Enter line from to lower upper → r ≡ reply.Entered q → Changes line before.pieces after.pieces q → after.lent ≡ before.lent → CallLeaves c r before after
  known_leaves : (line : ℕ) (q : Result ℕ NoSuchLine) → c ≡ Known line → r ≡ reply.Known q → after.pieces ≡ before.pieces → after.lent ≡ before.lent → CallLeaves c r before after
  tally_leaves : (k : ℕ) → c ≡ Tally → r ≡ reply.Tally k → after.pieces ≡ before.pieces → after.lent ≡ before.lent → CallLeaves c r before after
  seal_leaves : c ≡ Seal → r ≡ reply.Sealed → after.pieces ≡ before.pieces → after.lent ≡ before.lent → CallLeaves c r before after
  judge_truth_leaves : (rule : _) (t rows : ℕ) (q : Result (Range Truth) JudgeFault) → c ≡ JudgeTruth rule t rows → r ≡ reply.JudgedTruth q → after.pieces ≡ before.pieces →
      JudgeLeaves truths truth_value (table_of rule.now) before.state rows before.lent.truths after.lent.truths q → after.lent ≡ record before.lent { truths = after.lent.truths } → CallLeaves c r before after
  judge_margin_leaves : (rule : _) (t rows : ℕ) (q : Result (Range Margin) JudgeFault) → c ≡ JudgeMargin rule t rows → r ≡ reply.JudgedMargin q → after.pieces ≡ before.pieces →
      JudgeLeaves margins margin_level (table_of rule.now) before.state rows before.lent.margins after.lent.margins q → after.lent ≡ record before.lent { margins = after.lent.margins } → CallLeaves c r before after
  mark_truth_leaves : (rule : _) (t : ℕ) (p : Portion) (q : Result (Marking Truth) MarkFault) → c ≡ MarkTruth rule t p → r ≡ reply.MarkedTruth q → after.pieces ≡ before.pieces →
      MarkLeaves truths truth_value (table_of rule.now) before.state t p before.lent.truths after.lent.truths before.lent.wants after.lent.wants before.lent.marks after.lent.marks q → after.lent.margins ≡ before.lent.margins → CallLeaves c r before after
  mark_margin_leaves : (rule : _) (t : ℕ) (p : Portion) (q : Result (Marking Margin) MarkFault) → c ≡ MarkMargin rule t p → r ≡ reply.MarkedMargin q → after.pieces ≡ before.pieces →
      MarkLeaves margins margin_level (table_of rule.now) before.state t p before.lent.margins after.lent.margins before.lent.wants after.lent.wants before.lent.marks after.lent.marks q → after.lent.truths ≡ before.lent.truths → CallLeaves c r before after
