use Rattle.std.proofs.Common.{List, ℕ, ◌++◌, ap, ◌∙◌}
use Rattle.std.proofs.lemmas.Fmt.{contents_after_writes}
use Rattle.streams.specs.Buffers.{buffered}
use Rattle.case_lines.proofs.Lined.{ended}
use Rattle.case_lines.proofs.sink.hold_line.Goals as goal

pub returns : goal.returns
returns c =
    contents_after_writes _ buffered (λ _ _ _ t. t) _ _ _ c.in_ok-writeln.ensures.writes ∙ ap (λ (v : List ℕ). buffered c.args.buffer.now ++ v) (ended c.args.line)
