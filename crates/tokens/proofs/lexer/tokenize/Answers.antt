use Rattle.std.proofs.Common.{rules}
use Rattle.std.proofs.lemmas.Bool.Decides.{same_from_decides}
use Rattle.tokens.proofs.Runs.{is_blank, blank_decides, run_of}
use Rattle.tokens.proofs.Readings.{begun, gone_on}
use Rattle.tokens.proofs.lexer.tokenize.Goals as goal

pub loop-at-init : goal.loop-at-init
loop-at-init c =
    begun (run_of is_blank _ blank_decides (c.run_end-at.ensures.run is_blank (λ b r k. same_from_decides r _ (search rules) (blank_decides b)))) c.new-tokens.ensures.places c.new-tokens.ensures.tokens

pub loop-at-preserved : goal.loop-at-preserved
loop-at-preserved c =
    let pushed = c.push.ensures in
    gone_on c.loop-at.invariant c.in_ok-word.ensures (run_of is_blank _ blank_decides (c.run_end-at-in-loop-at.ensures.run is_blank (λ b r k. same_from_decides r _ (search rules) (blank_decides b)))) pushed.places pushed.tokens
