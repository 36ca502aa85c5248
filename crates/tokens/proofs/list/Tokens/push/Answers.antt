use Rattle.std.proofs.Common.{arith}
use Rattle.std.proofs.lemmas.List.{take_more_set}
use Rattle.tokens.proofs.list.Tokens.push.Goals as goal

pub returns : goal.returns
returns c =
    let self = c.args.self.now in
    record {
      tokens = take_more_set self.tokens self.count c.args.token (omega arith);
      places = take_more_set self.places self.count c.args.place (omega arith);
    }
