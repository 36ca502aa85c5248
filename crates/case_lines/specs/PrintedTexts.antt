-- What is printed of a field, from what it says.
use Rattle.std.specs.Prelude.{ℕ, List, [], ◌++◌, take, Some, None, Option}
use Rattle.meaning.specs.declared.mark.Mark.{Mark}
use Rattle.case_lines.specs.declared.printed.Printed.{Printed}
use Rattle.case_lines.specs.Lines.{mark_lines}
use Rattle.case_lines.specs.LineTexts.{line_text}

-- its line, and a line for each of the marks, which are the first so many of the mark cells
abbrev pub printed_text : Printed → List Mark → List ℕ
printed_text x cells = line_text x.line ++ mark_lines (take x.marks cells)

abbrev pub maybe_printed : Option Printed → List Mark → List ℕ
maybe_printed None cells = []
maybe_printed (Some x) cells = printed_text x cells
