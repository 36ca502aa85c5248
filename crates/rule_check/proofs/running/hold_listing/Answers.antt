use Rattle.std.proofs.Common.{ℕ, List, ◌++◌, ap, ◌∙◌}
use Rattle.std.proofs.lemmas.Fmt.{contents_after_writes}
use Rattle.rules.specs.Texts.{answer_of}
use Rattle.rule_lines.specs.Listing.{listing_of}
use Rattle.streams.specs.Buffers.{buffered}
use Rattle.rule_check.proofs.running.hold_listing.Goals as goal

pub returns : goal.returns
returns c =
    contents_after_writes _ buffered (λ _ _ _ t. t) _ _ _ c.in_ok-write.ensures.writes ∙ ap (λ (v : List ℕ). v ++ listing_of (answer_of c.args.answer)) c.requires
