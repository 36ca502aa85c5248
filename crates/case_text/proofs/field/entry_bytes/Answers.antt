use Rattle.std.proofs.Common.{◌<◌, ℤ, ap, ◌∙◌, to_z-of_z, w32, SFits, of_z, rules}
use Rattle.case_text.proofs.Bodies.{entry_said, fits_32, big}
use Rattle.case_text.proofs.field.entry_bytes.Goals as goal

pub returns : goal.returns
returns c =
    let e = c.args.e in
    let low : SFits w32 e.lower = search rules in
    let high : SFits w32 e.upper = search rules in
    let from : e.from < 4294967296 = search rules in
    let to : e.to < 4294967296 = search rules in
    entry_said e _ _ _ _ from to (fits_32 e.lower low) (fits_32 e.upper high) c.to_be_bytes-from.ensures c.to_be_bytes-to.ensures (c.to_be_bytes-lower.ensures ∙ ap (λ (z : ℤ). big (of_z w32 z)) (to_z-of_z low)) (c.to_be_bytes-upper.ensures ∙ ap (λ (z : ℤ). big (of_z w32 z)) (to_z-of_z high))
