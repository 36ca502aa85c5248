use Rattle.std.proofs.Common.{◌<◌, [], ◌∷◌, ◌++◌, length, arith}
use Rattle.std.proofs.lemmas.List.{length_push}
use Rattle.pieces.proofs.Puts.{put_push}
use Rattle.meaning.specs.declared.mark.Mark.{Mark}
use Rattle.judge.proofs.StretchLists.{upto_push, upto_all, found_next}
use Rattle.judge.proofs.stretches.mark_row.Goals as goal

pub loop-start-preserved : goal.loop-start-preserved
loop-start-preserved g c =
    let f = g.S.YesNo.f c.args.source.now in
    let limit = c.args.limit in
    let row = c.args.row in
    let ms = c.loop-start.invariant.0 in
    let i = c.loop-start.invariant.1 in
    let e = i.2.0 in
    let after = c.first-after.result in
    let m : Mark = record { row = row; first = c.loop-start.start; after = after } in
    let w : c.loop-start.end < length c.loop-start.marks = omega (arith, c.if-end-marks.false) in (
      ms ++ m ∷ [],
      (
        omega (arith, length_push ms m, i.0),
        put_push c.args.marks.now c.loop-start.marks c.args.used c.loop-start.end ms m i.0 w i.1,
        (
          after,
          (
            upto_push f limit row 0 e ms m i.2.1.0 (found_next f limit row e c.loop-start.start after i.2.1.1 c.loop-start-test.true c.first-after.ensures.first),
            c.first-start-in-loop-start.ensures.first,
          ),
        ),
      ),
    )

pub returns : goal.returns
returns g c =
    let f = g.S.YesNo.f c.args.source.now in
    let limit = c.args.limit in
    let ms = c.loop-start.invariant.0 in
    let i = c.loop-start.invariant.1 in
    let s = i.2.1.1 in
    (ms, (i.0, i.1, upto_all f limit c.args.row 0 i.2.0 ms i.2.1.0 (λ t x y. s.none t x (omega (arith, c.loop-start-test.false)))))
