-- What is printed of an answer: a line for each row and one for their number and reach, or the refusal.
use Rattle.std.specs.Prelude.{ℕ, ◌+◌, List, [], ◌∷◌, ◌++◌, length, Ok, Err, codes, decimal}
use Rattle.std.specs.Fmt.{signed_decimal}
use Rattle.rules.specs.declared.row.Row.{Row}
use Rattle.rules.specs.declared.row.Row.TheVariants.{Test, Not, And, Or, Eventually, Always, Until}
use Rattle.rules.specs.declared.row.Side.{Side}
use Rattle.rules.specs.declared.row.Side.TheVariants.{AtLeast, AtMost}
use Rattle.rules.specs.declared.fault.RuleFault.{RuleFault}
use Rattle.rules.specs.Faults.{rule_fault_number, fault_place}
use Rattle.rules.specs.Rows.{reach}
use Rattle.rules.specs.Texts.{Answer}

abbrev pub side_text : Side → List ℕ
side_text AtLeast = codes ">="
side_text AtMost = codes "<="

abbrev pub row_text : Row → List ℕ
row_text (Test l s m) = codes "test line " ++ (decimal l ++ (codes " " ++ (side_text s ++ (codes " " ++ signed_decimal m))))
row_text (Not a) = codes "not " ++ decimal a
row_text (And a b) = codes "and " ++ (decimal a ++ (codes " " ++ decimal b))
row_text (Or a b) = codes "or " ++ (decimal a ++ (codes " " ++ decimal b))
row_text (Eventually a b c) = codes "F [" ++ (decimal a ++ (codes "," ++ (decimal b ++ (codes "] " ++ decimal c))))
row_text (Always a b c) = codes "G [" ++ (decimal a ++ (codes "," ++ (decimal b ++ (codes "] " ++ decimal c))))
row_text (Until a b l r) = codes "until [" ++ (decimal a ++ (codes "," ++ (decimal b ++ (codes "] " ++ (decimal l ++ (codes " " ++ decimal r))))))

-- the line of row k, and the lines of rows from number k on
abbrev pub row_line : ℕ → Row → List ℕ
row_line k row = decimal k ++ (codes " " ++ (row_text row ++ (10 ∷ [])))

abbrev pub row_lines : ℕ → List Row → List ℕ
row_lines k [] = []
row_lines k (r ∷ rows) = row_line k r ++ row_lines (k + 1) rows

abbrev pub last_line : ℕ → ℕ → List ℕ
last_line count ahead = decimal count ++ (codes " rows, reach " ++ (decimal ahead ++ (10 ∷ [])))

abbrev pub table_text : List Row → List ℕ
table_text rows = row_lines 0 rows ++ last_line (length rows) (reach rows)

abbrev pub refusal_text : RuleFault → List ℕ
refusal_text f = codes "refused " ++ (decimal (rule_fault_number f) ++ (codes " byte " ++ (decimal (fault_place f) ++ (10 ∷ []))))

abbrev pub listing_of : Answer → List ℕ
listing_of (Ok rows) = table_text rows
listing_of (Err f) = refusal_text f
