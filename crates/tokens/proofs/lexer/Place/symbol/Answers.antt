use Rattle.std.proofs.Common.{◌≡◌, ◌+◌, ◌<◌, length, get_or, rules, tests}
use Rattle.tokens.proofs.Places.{sign_word, order_word}
use Rattle.tokens.proofs.lexer.Place.symbol.Goals as goal

pub returns-in-Some : goal.returns-in-Some
returns-in-Some c names = let o = c.requires in sign_word names _ _ c.args.self.now.within o.0 o.1 o.2 _ (c.in-Some.ensures names)

pub returns-in-Some-order : goal.returns-in-Some-order
returns-in-Some-order c names =
    let o = c.requires in
    let text = c.args.self.now.text.now in
    let at = c.args.self.now.at in
    let behind : (at + 1 < length text) × (get_or text (at + 1) 0 ≡ 61) = search (rules, tests) in
    order_word names _ _ c.args.self.now.within o.0 o.1 o.2 behind.0 behind.1 _ (c.in-Some-order.ensures names)
