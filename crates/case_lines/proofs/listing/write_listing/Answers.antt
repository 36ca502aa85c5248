use Rattle.std.proofs.Common.{◌≡◌, ℕ, List, length, sym, rules, subst}
use Rattle.rules.specs.Texts.{table_of}
use Rattle.pieces.specs.declared.piece.Piece.{Piece}
use Rattle.meaning.specs.declared.reading.Reading.{Reading}
use Rattle.jobs.specs.Jobs.{state_of, cells_of}
use Rattle.lent.specs.Holding.{Contents, contents, counts}
use Rattle.cases.specs.Readers.{left_of, next_of}
use Rattle.cases.specs.Headings.{OpenedCase}
use Rattle.case_lines.specs.LineTexts.{line_text}
use Rattle.case_lines.specs.Listings.{LentCells, ListsFields, Listing}
use Rattle.case_lines.specs.Leaves.{CaseLeaves, CarriedOn}
use Rattle.case_lines.proofs.Left.{case_left}
use Rattle.case_lines.proofs.OneListing.{one_listing}
use Rattle.case_lines.proofs.OnOks.{on_ok, ok_anyway}
use Rattle.streams.proofs.Resting.{alike, lone}
use Rattle.case_lines.proofs.Whole.{begun_lists, lists_begun}
use Rattle.case_lines.proofs.listing.write_listing.Goals as goal

pub returns-in-Ok-clause-prints : goal.returns-in-Ok-clause-prints
returns-in-Ok-clause-prints g c =
    let h = c.in-Ok.opening.heading in
    let r = c.in-Ok.opening.reader in
    let lent : LentCells = record { pieces = length c.args.pieces.now; cells = counts c.args.cells.now } in
    let o : OpenedCase = record { lines = h.lines; rows = table_of h.rule; next = next_of r; rest = left_of r } in
    let s = state_of c.open-job.result in
    let read = c.in-Ok.ensures.prints in
    alike (g.W.Write.contents c.args.sink.now) (g.W.Write.contents c.write_rest.new.sink) (λ (text : List ℕ). (more : List ℕ) × ListsFields lent.cells o.rows o.next s o.rest more × (text ≡ more)) (Listing lent c.args.case.now) c.write_rest.result
    c.write_rest.ensures.prints (λ text l. begun_lists lent c.args.case.now o read.0 read.1 s c.open-job.ensures.state text l.0 l.1 l.2) (lists_begun lent c.args.case.now o read.0 read.1 s c.open-job.ensures.state)

pub returns-in-Ok-clause-leaves : goal.returns-in-Ok-clause-leaves
returns-in-Ok-clause-leaves g c =
    let h = c.in-Ok.opening.heading in
    let r = c.in-Ok.opening.reader in
    let o : OpenedCase = record { lines = h.lines; rows = table_of h.rule; next = next_of r; rest = left_of r } in
    let new = c.write_rest.new.lister in
    let on : CarriedOn c.open-job.result new.job.now = c.write_rest.ensures.pieces in
    let read = c.in-Ok.ensures.prints in
    on_ok c.write_rest.result _ (CaseLeaves c.args.case.now c.args.pieces.now c.pieces-1.given.0 (contents c.args.cells.now) (contents c.cells-1.given.0))
    (λ l.
    let left : CaseLeaves c.args.case.now c.args.pieces.now (cells_of new.job.now) (contents c.args.cells.now) (contents new.cells.now) =
    case_left c.args.case.now c.args.pieces.now o read.0 read.1 c.open-job.result new.job.now c.open-job.ensures.state c.open-job.ensures.behind on (contents c.args.cells.now) (contents new.cells.now) l in
    subst (λ (v : List (Piece Reading)). CaseLeaves c.args.case.now c.args.pieces.now v (contents c.args.cells.now) (contents c.cells-1.given.0)) (search rules)
    (subst (λ (w : Contents). CaseLeaves c.args.case.now c.args.pieces.now (cells_of new.job.now) (contents c.args.cells.now) w) (search rules) left))
    c.write_rest.ensures.leaves

pub returns-in-Err-clause-prints : goal.returns-in-Err-clause-prints
returns-in-Err-clause-prints g c =
    let lent : LentCells = record { pieces = length c.args.pieces.now; cells = counts c.args.cells.now } in
    let line : Listing lent c.args.case.now (line_text c.refusal_of.result) = subst (Listing lent c.args.case.now) (sym c.refusal_of.ensures) (c.in-Err.ensures.prints lent) in
    lone (g.W.Write.contents c.args.sink.now) (g.W.Write.contents c.write_line.new.sink) (Listing lent c.args.case.now) (line_text c.refusal_of.result) c.write_line.result line (λ text l. one_listing lent c.args.case.now text (line_text c.refusal_of.result) l line) c.write_line.ensures

pub returns-in-Err-clause-leaves : goal.returns-in-Err-clause-leaves
returns-in-Err-clause-leaves g c = ok_anyway c.write_line.result _ (c.in-Err.ensures.leaves c.args.pieces.now (contents c.args.cells.now))
