use Rattle.std.proofs.Common.{arith}
use Rattle.std.proofs.lemmas.List.Sums.{prefix_len-le-length}
use Rattle.case_text.specs.Pieces.{gap_byte}
use Rattle.case_text.proofs.split.from_first.Goals as goal

pub slice_bounds-result-start : goal.slice_bounds-result-start
slice_bounds-result-start c = omega (arith, c.gap.ensures, prefix_len-le-length gap_byte c.args.bytes.now)

pub slice_bounds-result-count : goal.slice_bounds-result-count
slice_bounds-result-count c = omega (arith, c.gap.ensures, prefix_len-le-length gap_byte c.args.bytes.now)
