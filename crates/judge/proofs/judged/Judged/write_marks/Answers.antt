use Rattle.judge.proofs.Standing.{row_stands}
use Rattle.judge.proofs.MarkLists.{wants_stand, marks_written}
use Rattle.judge.proofs.judged.Judged.write_marks.Goals as goal

pub mark_rows-requires : goal.mark_rows-requires
mark_rows-requires g c =
    let j = c.args.self.now in
    let x = g.L.Lines.x j.lines.now in
    record {
      ranges = row_stands g.G.Grade.kind g.G.Grade.value j.rows.now x j.ranges.begins.now j.ranges.cells.now c.requires.stands.stand;
      wants = wants_stand g.G.Grade.kind j.rows.now x j.tick c.args.wants.begins.now c.args.wants.cells.now c.requires.wants;
    }

pub returns : goal.returns
returns g c =
    let j = c.args.self.now in
    let s = c.requires.stands in
    marks_written g.G.Grade.kind g.G.Grade.value j.rows.now s.sound (g.L.Lines.x j.lines.now) j.tick j.limit s.end j.ranges.begins.now j.ranges.cells.now s.stand
    c.args.wants.begins.now c.args.wants.cells.now c.requires.wants c.args.marks.now c.mark_rows.new.marks c.mark_rows.auto.marks c.mark_rows.result c.mark_rows.ensures
