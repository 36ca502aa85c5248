use Rattle.std.proofs.Common.{rules, sym, length, drop}
use Rattle.std.proofs.lemmas.List.{take_at}
use Rattle.compare.proofs.lent.Lent.mark.Goals as goal

pub returns-clause-turn : goal.returns-clause-turn
returns-clause-turn g c =
    let marks : _ = take_at c.mark.new.marks (drop (length c.mark.new.marks) c.args.self.now.marks.items) c.args.self.now.marks.len (search rules) in
    rw marks (rw (sym c.as_mut_slice.ensures.value) (rw (sym c.as_mut_slice-2.ensures.value) (rw (sym c.as_mut_slice-3.ensures.value) c.mark.ensures.turn)))

pub returns-clause-cells : goal.returns-clause-cells
returns-clause-cells g c =
    let rows : _ = take_at c.mark.new.cells (drop (length c.mark.new.cells) c.args.self.now.rows.items) c.args.self.now.rows.len (search rules) in
    let wants : _ = take_at c.mark.new.wants (drop (length c.mark.new.wants) c.args.self.now.wants.items) c.args.self.now.wants.len (search rules) in
    let marks : _ = take_at c.mark.new.marks (drop (length c.mark.new.marks) c.args.self.now.marks.items) c.args.self.now.marks.len (search rules) in
    rw rows (rw wants (rw marks (rw (sym c.as_mut_slice.ensures.value) (rw (sym c.as_mut_slice-2.ensures.value) (rw (sym c.as_mut_slice-3.ensures.value) c.mark.ensures.cells)))))
