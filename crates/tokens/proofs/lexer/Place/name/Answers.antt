use Rattle.std.proofs.Common.{rules}
use Rattle.std.proofs.lemmas.Bool.Decides.{same_from_decides}
use Rattle.tokens.proofs.Places.{name_fault, name_word}
use Rattle.tokens.proofs.Runs.{is_name_byte, name_byte_decides, run_of}
use Rattle.tokens.proofs.lexer.Place.name.Goals as goal

pub returns-then-end-at-gt-NAME_BYTES : goal.returns-then-end-at-gt-NAME_BYTES
returns-then-end-at-gt-NAME_BYTES c =
    let run = run_of is_name_byte _ name_byte_decides (c.run_end-end.ensures.run is_name_byte (λ b r k. same_from_decides r _ (search rules) (name_byte_decides b))) in
    name_fault _ _ _ _ run c.requires c.if-end-at-gt-NAME_BYTES.true

pub returns : goal.returns
returns c =
    let run = run_of is_name_byte _ name_byte_decides (c.run_end-end.ensures.run is_name_byte (λ b r k. same_from_decides r _ (search rules) (name_byte_decides b))) in
    name_word _ _ _ _ run c.requires c.if-end-at-gt-NAME_BYTES.false _ c.line_of.ensures
