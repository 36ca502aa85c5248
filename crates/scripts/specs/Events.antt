-- Calls with their replies as events of a run.
use Rattle.std.specs.Prelude.{◌≡◌, ℕ, min, true, false, List, ℤ, Ok, Err, Result}
use Rattle.grades.specs.Truths.{truths}
use Rattle.grades.specs.Margins.{margins}
use Rattle.grades.specs.declared.truth.Truth.{Truth}
use Rattle.grades.specs.declared.margin.Margin.{Margin}
use Rattle.grades.specs.declared.range.Range.{Range}
use Rattle.rules.specs.Texts.{table_of}
use Rattle.meaning.specs.declared.mark.Mark.{Mark}
use Rattle.runs.specs.Jobs.{enter, known, tally, seal, accepted, count}
use Rattle.runs.specs.Calls.{RuleRows}
use Rattle.runs.specs.Runs.{Event, on_job, judge, mark, event}
use Rattle.jobs.specs.declared.fault.EnterFault.{EnterFault}
use Rattle.jobs.specs.declared.fault.NoSuchLine.{NoSuchLine}
use Rattle.jobs.specs.Faults.{enter_reply, known_reply}
use Rattle.judge.specs.declared.fault.JudgeFault.{JudgeFault}
use Rattle.judge.specs.declared.fault.MarkFault.{MarkFault}
use Rattle.judge.specs.declared.marking.Marking.{Marking}
use Rattle.judge.specs.Answers.{judge_reply, mark_reply}
use Rattle.lent.specs.Holding.{CellCounts}
use Rattle.runs.specs.Families.{truth_and_margin}
use Rattle.grades.specs.Worth.{truth_value, margin_level}
use Rattle.scripts.specs.declared.call.Portion.{Portion}
use Rattle.scripts.specs.declared.call.Call.{Call}
use Rattle.scripts.specs.declared.call.Call.TheVariants.{Enter, Known, Tally, Seal, JudgeTruth, JudgeMargin, MarkTruth, MarkMargin}
use Rattle.scripts.specs.declared.reply.Reply.{Reply}
use Rattle.scripts.specs.declared.reply.Reply.TheVariants as reply

-- the call c that was answered r is the event e: a rule is the table of its rows, of the n lent cells of each sort a call gets as many as it asks for or all, and ms are the mark cells behind it
pub data IsEvent (n : CellCounts) (c : Call) (r : Reply) (ms : List Mark) (e : Event truth_and_margin) : Type 0 where
  is_enter : (line from to : ℕ) (lower upper : ℤ) (q : Result (Unit {0}) EnterFault) → c ≡ Enter line from to lower upper → r ≡ reply.Entered q → e ≡ event (on_job (enter line from to lower upper)) (enter_reply q) → IsEvent n c r ms e
  is_known : (line : ℕ) (q : Result ℕ NoSuchLine) → c ≡ Known line → r ≡ reply.Known q → e ≡ event (on_job (known line)) (known_reply q) → IsEvent n c r ms e
  is_tally : (k : ℕ) → c ≡ Tally → r ≡ reply.Tally k → e ≡ event (on_job tally) (Ok (count k)) → IsEvent n c r ms e
  is_seal : c ≡ Seal → r ≡ reply.Sealed → e ≡ event (on_job seal) (Ok accepted) → IsEvent n c r ms e
  is_judge_truth : (rule : _) (t rows : ℕ) (q : Result (Range Truth) JudgeFault) (a : RuleRows) → c ≡ JudgeTruth rule t rows → r ≡ reply.JudgedTruth q → a.rows ≡ table_of rule.now →
      e ≡ event (judge true a t (min rows n.truth_rows)) (judge_reply truths truth_value q) → IsEvent n c r ms e
  is_judge_margin : (rule : _) (t rows : ℕ) (q : Result (Range Margin) JudgeFault) (a : RuleRows) → c ≡ JudgeMargin rule t rows → r ≡ reply.JudgedMargin q → a.rows ≡ table_of rule.now →
      e ≡ event (judge false a t (min rows n.margin_rows)) (judge_reply margins margin_level q) → IsEvent n c r ms e
  is_mark_truth : (rule : _) (t : ℕ) (p : Portion) (q : Result (Marking Truth) MarkFault) (a : RuleRows) → c ≡ MarkTruth rule t p → r ≡ reply.MarkedTruth q → a.rows ≡ table_of rule.now →
      e ≡ event (mark true a t (min p.rows n.truth_rows) (min p.wants n.wants) (min p.marks n.marks)) (mark_reply truths truth_value ms q) → IsEvent n c r ms e
  is_mark_margin : (rule : _) (t : ℕ) (p : Portion) (q : Result (Marking Margin) MarkFault) (a : RuleRows) → c ≡ MarkMargin rule t p → r ≡ reply.MarkedMargin q → a.rows ≡ table_of rule.now →
      e ≡ event (mark false a t (min p.rows n.margin_rows) (min p.wants n.wants) (min p.marks n.marks)) (mark_reply margins margin_level ms q) → IsEvent n c r ms e

-- how many marks a reply speaks of
abbrev pub marks_in : Reply → ℕ
marks_in (reply.Entered q) = 0
marks_in (reply.Known q) = 0
marks_in (reply.Tally k) = 0
marks_in reply.Sealed = 0
marks_in (reply.JudgedTruth q) = 0
marks_in (reply.JudgedMargin q) = 0
marks_in (reply.MarkedTruth (Ok m)) = m.marks
marks_in (reply.MarkedTruth (Err f)) = 0
marks_in (reply.MarkedMargin (Ok m)) = m.marks
marks_in (reply.MarkedMargin (Err f)) = 0
