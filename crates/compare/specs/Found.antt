-- What a comparison that found nothing to disagree says of the judge's answer.
use Rattle.std.specs.Prelude.{◌≡◌, ℕ, ◌-◌, ◌<◌, ◌≤◌, List, length, ℤ, Ok, Err, Result, option_map}
use Rattle.std.specs.Result.{result_err}
use Rattle.grades.specs.Kinds.{Kind}
use Rattle.grades.specs.declared.range.Range.{Range}
use Rattle.rules.specs.declared.row.Row.{Row}
use Rattle.runs.specs.States.{State}
use Rattle.runs.specs.Conditions.{FirstFailing}
use Rattle.runs.specs.Calls.{JudgeTurn, MarkTurn}
use Rattle.judge.specs.declared.fault.JudgeFault.{JudgeFault}
use Rattle.judge.specs.declared.fault.JudgeFault.TheVariants.{RowCells}
use Rattle.judge.specs.declared.fault.MarkFault.{MarkFault}
use Rattle.judge.specs.declared.marking.Marking.{Marking}
use Rattle.judge.specs.Faults.{mark_number}
use Rattle.judge.specs.Answers.{judge_reply, mark_reply}
use Rattle.meaning.specs.declared.mark.Mark.{Mark}
use Rattle.reference.specs.declared.ends.Ends.{Ends}
use Rattle.reference.specs.declared.values.Values.{Values}
use Rattle.reference.specs.Tables.{value_at}
use Rattle.compare.specs.declared.lent.Room.{Room}
use Rattle.compare.specs.Rooms.{cells_ask}

module _ (K : Kind) {G : Type 0} (value : G → K.Value) (s : State) (rows : List Row) (tick : ℕ) where
  -- with so many cells the judge answers r
  abbrev pub JudgeAnswers : ℕ → Result (Range G) JudgeFault → Type 0
  JudgeAnswers room r = JudgeTurn K s rows tick room (judge_reply K value r)

  -- the judge lacks cells where there are fewer than so many, and otherwise gives a verdict
  pub record Needs (used room : ℕ) : Type 0 where
    pub short : room < used → JudgeAnswers room (Err RowCells)
    pub enough : used ≤ room → (range : Range G) × JudgeAnswers room (Ok range)

  -- the judge gives a verdict with these ends, as the reference does
  pub record Verdict (number : G → ℤ) (room : ℕ) (values : Values) (ends : Ends) : Type 0 where
    pub range : Range G
    pub judged : JudgeAnswers room (Ok range)
    pub is : ends ≡ record { lower = number range.lower; upper = number range.upper }
    pub agrees : ends ≡ value_at values (length rows - 1) tick

module _ (K : Kind) {G : Type 0} (value : G → K.Value) (s : State) (rows : List Row) (tick : ℕ) where
  -- with so many cells the judge answers r to a marking, and leaves these mark cells
  abbrev pub MarkAnswers : Room → List Mark → Result (Marking G) MarkFault → Type 0
  MarkAnswers room marks r = MarkTurn K s rows tick room.rows room.wants room.marks (mark_reply K value marks r)

  -- the judge refuses for the first kind of which there are too few cells, or gives a marking
  pub record NeedsRoom (used room : Room) : Type 0 where
    pub marks : List Mark
    pub answer : Result (Marking G) MarkFault
    pub marked : MarkAnswers room marks answer
    pub first : FirstFailing (cells_ask room used) (option_map mark_number (result_err answer))

  -- the judge gives a marking of so many marks, whose verdict has these ends, as the reference does
  pub record SameMarking (number : G → ℤ) (room : Room) (values : Values) (ends : Ends) (marks : List Mark) (count : ℕ) : Type 0 where
    pub marking : Marking G
    pub marked : MarkAnswers room marks (Ok marking)
    pub is : ends ≡ record { lower = number marking.verdict.lower; upper = number marking.verdict.upper }
    pub agrees : ends ≡ value_at values (length rows - 1) tick
    pub all : marking.marks ≡ count
