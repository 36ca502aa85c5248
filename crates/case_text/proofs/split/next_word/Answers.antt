use Rattle.std.proofs.Common.{◌<◌, length, sym, arith}
use Rattle.std.proofs.lemmas.Bool.{eqb-true, eqb-false}
use Rattle.std.proofs.lemmas.List.Sums.{prefix_len-le-length}
use Rattle.case_text.specs.Pieces.{word_byte}
use Rattle.case_text.proofs.Cutting.{no_words, cut_word}
use Rattle.case_text.proofs.split.next_word.Goals as goal

pub returns-then-is_empty : goal.returns-then-is_empty
returns-then-is_empty c = no_words c.args.bytes.now c.from_first-words.result.now c.from_first-words.ensures (eqb-true _ _ (sym c.if-is_empty.ensures))

pub slice_bounds-result-count : goal.slice_bounds-result-count
slice_bounds-result-count c = omega (arith, c.run-end.ensures, prefix_len-le-length word_byte c.from_first-words.result.now)

pub slice_bounds-result-start : goal.slice_bounds-result-start
slice_bounds-result-start c = omega (arith, c.run-end.ensures, prefix_len-le-length word_byte c.from_first-words.result.now)

pub returns : goal.returns
returns c =
    let some : 0 < length c.from_first-words.result.now = omega (arith, eqb-false _ _ (sym c.if-is_empty.ensures)) in
    cut_word c.args.bytes.now c.from_first-words.result.now c.run-end.result c.from_first-words.ensures some c.run-end.ensures
