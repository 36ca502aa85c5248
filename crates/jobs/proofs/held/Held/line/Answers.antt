use Rattle.std.proofs.Common.{◌≡◌, ◌+◌, ◌-◌, ◌*◌, sym, ap, subst, arith}
use Rattle.pieces.proofs.Shows.{canonical_ordered}
use Rattle.jobs.specs.Lines.{cells_from, noted_count}
use Rattle.jobs.specs.Holds.{Kept}
use Rattle.jobs.proofs.Keeps.{kept_at}
use Rattle.jobs.proofs.held.Held.line.Goals as goal

pub invariant_of-result : goal.invariant_of-result
invariant_of-result c =
    let cells = c.args.cells.now in
    let h = c.args.self.now in
    let k = c.args.line in
    let n = noted_count h k in
    let e : 64 * k + n - 64 * k ≡ n = omega arith in
    let kept = subst Kept (sym (ap (cells_from cells (64 * k)) e)) (kept_at cells h c.requires.sound k c.requires.there) in
    record { ok = canonical_ordered (cells_from cells (64 * k) (64 * k + n - 64 * k)) kept.0 }

pub returns : goal.returns
returns c =
    let cells = c.args.cells.now in
    let h = c.args.self.now in
    let k = c.args.line in
    let n = noted_count h k in
    let e : 64 * k + n - 64 * k ≡ n = omega arith in
    let are = ap (cells_from cells (64 * k)) e in
    record { are = are; kept = subst Kept (sym are) (kept_at cells h c.requires.sound k c.requires.there) }
