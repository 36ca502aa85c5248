-- What a lister has left to tell, and what it leaves in the end.
use Rattle.std.specs.Prelude.{◌≡◌, ℕ, ◌+◌, ◌*◌, Bool, true, false, Ok, List, [], ◌++◌, length, take, drop}
use Rattle.rules.specs.declared.row.Row.{Row}
use Rattle.rules.specs.Texts.{table_of}
use Rattle.meaning.specs.declared.mark.Mark.{Mark}
use Rattle.runs.specs.States.{State}
use Rattle.jobs.specs.Jobs.{state_of}
use Rattle.cases.specs.Readers.{left_of, next_of}
use Rattle.cases.specs.Headings.{Opens, heading_reply}
use Rattle.cases.specs.Steps.{Sized}
use Rattle.case_lines.specs.declared.opening.Opening.{Opening}
use Rattle.case_lines.specs.declared.field_lister.FieldLister.{FieldLister}
use Rattle.case_lines.specs.Lines.{mark_lines}
use Rattle.lent.specs.Holding.{Contents, CellCounts, contents, counts}
use Rattle.case_lines.specs.Listings.{ListsFields}
use Rattle.case_lines.specs.Leaves.{FieldsLeave}

-- what is printed of the fields from number n on, unless all is over
abbrev pub LeftPrints : Bool → CellCounts → List Row → ℕ → State → List ℕ → List ℕ → Type 0
LeftPrints true cells rows n s bytes text = text ≡ []
LeftPrints false cells rows n s bytes text = ListsFields cells rows n s bytes text

abbrev pub FieldsLeft : FieldLister → List ℕ → Type 0
FieldsLeft x text = LeftPrints x.over (counts x.cells.now) (table_of x.rule) (next_of x.reader) (state_of x.job.now) (left_of x.reader) text

-- the marks that wait
abbrev pub marks_waiting : FieldLister → List Mark
marks_waiting x = drop x.first (take x.after x.cells.now.marks.now)

-- the rest of the listing: the marks that wait, and then what the fields that are left print
abbrev pub RestPrints : FieldLister → List ℕ → Type 0
RestPrints x text = (more : List ℕ) × FieldsLeft x more × (text ≡ mark_lines (marks_waiting x) ++ more)

-- what the fields that are left leave
abbrev pub LeftLeaves : Bool → List Row → ℕ → State → List ℕ → State → Contents → Contents → Type 0
LeftLeaves true rows n s bytes z before after = (z ≡ s) × (after ≡ before)
LeftLeaves false rows n s bytes z before after = FieldsLeave rows n s bytes z before after

abbrev pub RestLeaves : FieldLister → State → Contents → Type 0
RestLeaves x z after = LeftLeaves x.over (table_of x.rule) (next_of x.reader) (state_of x.job.now) (left_of x.reader) z (contents x.cells.now) after

-- how much reading is left
abbrev pub reading_left : Bool → List ℕ → ℕ
reading_left true bytes = 0
reading_left false bytes = length bytes + 1

abbrev pub steps_left : FieldLister → ℕ
steps_left x = reading_left x.over (left_of x.reader)

-- each line makes this less
abbrev pub work_left : FieldLister → ℕ
work_left x = steps_left x * (length x.cells.now.marks.now + 1) + length (marks_waiting x)

-- the heading of the case was read, and the reader stands behind it
abbrev pub HeadingRead : List ℕ → Opening → Type 0
HeadingRead case o = Sized case (Ok tt) × Opens 1 [] case (heading_reply (Ok o.heading) o.reader)
