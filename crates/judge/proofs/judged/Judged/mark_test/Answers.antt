use Rattle.judge.proofs.WantSteps.{asks_read}
use Rattle.judge.proofs.RowMarks.{marked_as}
use Rattle.judge.proofs.judged.Judged.mark_test.Goals as goal

pub returns-in-Test : goal.returns-in-Test
returns-in-Test g c =
    let want = c.list-want in
    let range = c.list-range in
    marked_as c.args.row c.in-Test.line c.in-Test.side c.in-Test.limit c.in-Test.is _ _
    (asks_read g.G.Grade.kind g.G.Grade.value c.args.self.now.ranges.begins.now c.args.self.now.ranges.cells.now c.args.wants.begins.now c.args.wants.cells.now c.args.at want.result.pieces.now want.result.ok want.ensures c.args.k range.result.pieces.now range.result.ok range.ensures)
    c.args.self.now.limit c.args.k c.args.marks.now c.args.used c.mark_row.new.marks c.mark_row.result c.mark_row.ensures
