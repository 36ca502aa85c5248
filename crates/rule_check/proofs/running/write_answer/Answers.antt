use Rattle.std.proofs.lemmas.Result.{err_from_is_err_and}
use Rattle.rules.specs.Texts.{answer_of}
use Rattle.rule_lines.specs.Listing.{listing_of}
use Rattle.rule_check.proofs.Shown.{unwritten}
use Rattle.rule_check.proofs.running.write_answer.Goals as goal

pub returns-in_err-hold_listing : goal.returns-in_err-hold_listing
returns-in_err-hold_listing g c =
    let p = err_from_is_err_and c.from_residual.result c.from_residual.ensures.1 in
    unwritten (g.W.Write.contents c.args.sink.now) (listing_of (answer_of c.args.answer)) c.from_residual.result p.0 p.1
