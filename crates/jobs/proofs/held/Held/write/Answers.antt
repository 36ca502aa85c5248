use Rattle.std.proofs.Common.{◌*◌, ◌<◌, ◌≤◌, length, refl, arith, rules}
use Rattle.jobs.specs.Lines.{noted_count, held_pieces}
use Rattle.jobs.specs.Edits.{edited}
use Rattle.jobs.proofs.Turns.{edit_order, edit_size, edit_lists, turned_down, taken_up}
use Rattle.jobs.proofs.held.Held.write.Goals as goal

pub size_after-size-requires : goal.size_after-size-requires
size_after-size-requires c =
    let h = c.args.self.now in
    record {
      order = edit_order c.args.cells.now h c.requires.sound c.args.stretch.line c.requires.there c.line.result.pieces.now c.line.ensures.are c.plan-edit.result c.plan-edit.ensures.order;
      short = c.requires.sound.short c.args.stretch.line c.requires.there;
    }

pub splice-requires : goal.splice-requires
splice-requires c =
    let h = c.args.self.now in
    let few : noted_count h c.args.stretch.line ≤ 64 = c.requires.sound.short c.args.stretch.line c.requires.there in
    let room : 64 * h.lines ≤ length c.args.cells.now = c.requires.sound.room in
    record {
      order = edit_order c.args.cells.now h c.requires.sound c.args.stretch.line c.requires.there c.line.result.pieces.now c.line.ensures.are c.plan-edit.result c.plan-edit.ensures.order;
      before = omega (arith, few, room, c.requires.there);
      after = omega (arith, few, room, c.requires.there, c.if-size-gt-LINE_CELLS.false, c.size_after-size.ensures);
    }

pub returns-then-size-gt-LINE_CELLS : goal.returns-then-size-gt-LINE_CELLS
returns-then-size-gt-LINE_CELLS c =
    let h = c.args.self.now in
    let k = c.args.stretch.line in
    let e = c.plan-edit.result in
    let qs = c.line.result.pieces.now in
    let es = edited (held_pieces c.args.cells.now h k) e in
    let l = edit_lists c.args.cells.now h c.requires.sound k c.requires.there qs c.line.ensures.are e c.plan-edit.ensures.order c.args.stretch.from c.args.stretch.to c.args.reading c.plan-edit.ensures.lists in
    let n = edit_size c.args.cells.now h c.requires.sound k c.requires.there qs c.line.ensures.are e c.plan-edit.ensures.order c.size_after-size.result c.size_after-size.ensures in
    record {
      sound = c.requires.sound;
      turn = turned_down c.args.cells.now h c.requires.sound k c.requires.there c.args.stretch.from c.args.stretch.to c.args.reading c.requires.ready es l (omega (arith, n, c.if-size-gt-LINE_CELLS.true));
      cells = refl;
    }

pub returns : goal.returns
returns c =
    let h = c.args.self.now in
    let k = c.args.stretch.line in
    let e = c.plan-edit.result in
    let qs = c.line.result.pieces.now in
    let es = edited (held_pieces c.args.cells.now h k) e in
    let l = edit_lists c.args.cells.now h c.requires.sound k c.requires.there qs c.line.ensures.are e c.plan-edit.ensures.order c.args.stretch.from c.args.stretch.to c.args.reading c.plan-edit.ensures.lists in
    let n = edit_size c.args.cells.now h c.requires.sound k c.requires.there qs c.line.ensures.are e c.plan-edit.ensures.order c.size_after-size.result c.size_after-size.ensures in
    let in16 : k < length h.notes = search rules in
    let left = taken_up c.args.cells.now h c.requires.sound k c.requires.there c.args.stretch.from c.args.stretch.to c.args.reading c.requires.ready es l
    c.splice.new.cells (record { count = c.size_after-size.result }) c.saturating_add-self.result in16 (omega (arith, n, c.if-size-gt-LINE_CELLS.false)) c.splice.ensures n c.saturating_add-self.ensures in
    record { sound = left.0; turn = left.1; cells = left.2 }
