use Rattle.case_text.proofs.OneAnswer.{one_saying, one_stop, never_both}
use Rattle.case_text.proofs.laws.texts_have_one_answer.Goals as goal

pub returns : goal.returns
returns c = record { items = one_saying; line = one_stop; apart = never_both }
