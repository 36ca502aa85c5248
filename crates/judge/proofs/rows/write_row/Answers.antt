use Rattle.std.proofs.Common.{ℕ, ◌+◌, List, ◌++◌, take, sym, subst}
use Rattle.std.proofs.lemmas.Result.{err_from_is_err_and}
use Rattle.grades.specs.Ranges.{Span}
use Rattle.grades.specs.Worth.{worth}
use Rattle.grades.specs.declared.range.Range.{Range}
use Rattle.pieces.specs.declared.piece.Piece.{Piece}
use Rattle.pieces.specs.Cells.{Written, CellsWhole, CellsShort}
use Rattle.pieces.proofs.Behind.{whole_behind, short_behind}
use Rattle.meaning.specs.Values.{step}
use Rattle.meaning.specs.Verdicts.{ranges}
use Rattle.judge.specs.Places.{list_says, RowReady}
use Rattle.judge.proofs.rows.write_row.Goals as goal

pub invariant_of-signal : goal.invariant_of-signal
invariant_of-signal g c = record { ready = subst (RowReady c.args.row c.args.begins.now) (sym c.split_at_mut-cells.ensures.front) c.requires.ready }

pub returns-in_err-written : goal.returns-in_err-written
returns-in_err-written g c =
    let K = g.G.Grade.kind in
    let W = worth K g.G.Grade.value in
    let f : List (Piece (Range g.row.G.Denot)) → ℕ → Span K.Value = λ done. step (ranges K) (g.L.Lines.x c.args.lines.now) (list_says K g.G.Grade.value c.args.begins.now done) c.args.row in
    let before = c.args.cells.now in
    let s = c.split_at_mut-cells in
    let rest = c.sweep.new.cells in
    let front = s.ensures.front in
    let p = err_from_is_err_and c.from_residual.result c.from_residual.ensures.1 in
    subst (λ r. Written W (f (take c.args.used before)) before c.args.used (s.result.0.now ++ rest) r) (sym p.1)
    (subst (λ done. CellsShort W (f done) before c.args.used (s.result.0.now ++ rest)) front
    (short_behind W (f s.result.0.now) before s.result.0.now s.result.1.now rest c.args.used c.requires.within front s.ensures.back c.in_err-written.ensures))

pub returns : goal.returns
returns g c =
    let K = g.G.Grade.kind in
    let W = worth K g.G.Grade.value in
    let f : List (Piece (Range g.row.G.Denot)) → ℕ → Span K.Value = λ done. step (ranges K) (g.L.Lines.x c.args.lines.now) (list_says K g.G.Grade.value c.args.begins.now done) c.args.row in
    let before = c.args.cells.now in
    let s = c.split_at_mut-cells in
    let rest = c.sweep.new.cells in
    let front = s.ensures.front in
    let n = c.in_ok-written.written in
    subst (λ done. CellsWhole W (f done) before c.args.used (s.result.0.now ++ rest) (c.args.used + n)) front
    (whole_behind W (f s.result.0.now) before s.result.0.now s.result.1.now rest c.args.used c.requires.within front s.ensures.back n c.in_ok-written.ensures)
