use Rattle.std.proofs.Common.{◌≡◌, get_or, arith}
use Rattle.std.proofs.lemmas.Slice.{first_rest}
use Rattle.case_text.proofs.Signs.{minus_reads}
use Rattle.case_text.proofs.number.reading.Goals as goal

pub returns-in-45 : goal.returns-in-45
returns-in-45 c =
    let sign : get_or c.args.word.now 0 0 ≡ 45 = omega arith in
    minus_reads c.args.word.now _ _ _ (first_rest c.args.word.now 0 (omega arith)) sign c.minus.ensures
