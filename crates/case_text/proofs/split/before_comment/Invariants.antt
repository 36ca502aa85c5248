use Rattle.std.proofs.Common.{◌≡◌, ◌+◌, true, drop}
use Rattle.case_text.specs.Pieces.{comment_at}
use Rattle.case_text.proofs.split.before_comment.Given as goal

abbrev pub invariant-loop-at : goal.invariant-loop-at
invariant-loop-at l = comment_at true l.line ≡ l.at + comment_at l.bare (drop l.at l.line)
