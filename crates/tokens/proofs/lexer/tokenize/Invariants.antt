use Rattle.std.proofs.Common.{◌-◌, length}
use Rattle.tokens.specs.Answers.{texts, tokens_of, places_of}
use Rattle.tokens.proofs.Readings.{SoFar}
use Rattle.tokens.proofs.lexer.tokenize.Given as goal

abbrev pub invariant-loop-at : goal.invariant-loop-at
invariant-loop-at l = SoFar (texts l.names) l.text l.at (places_of l.tokens) (tokens_of l.tokens)

abbrev pub decreases-loop-at : goal.decreases-loop-at
decreases-loop-at l = length l.text - l.at
