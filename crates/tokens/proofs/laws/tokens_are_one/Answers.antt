use Rattle.tokens.proofs.OneWay.{one_split, one_place, never_both}
use Rattle.tokens.proofs.laws.tokens_are_one.Goals as goal

pub returns : goal.returns
returns c = record { tokens = one_split; place = one_place; apart = never_both }
