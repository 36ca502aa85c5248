use Rattle.std.proofs.Common.{List, [], ◌∷◌, ◌++◌, ℕ, get_or, take, sym, ap, ◌∙◌, subst, append_assoc}
use Rattle.std.proofs.lemmas.List.{take_more}
use Rattle.rule_lines.specs.Kept.{Heard}
use Rattle.rule_lines.proofs.input.Input.hear_all.Goals as goal

pub loop-byte-preserved : goal.loop-byte-preserved
loop-byte-preserved c bytes h =
    let more = c.args.more.now in
    let k = c.loop-byte.byte-index in
    let is = append_assoc bytes (take k more) (get_or more k 0 ∷ []) ∙ ap (λ (v : List ℕ). bytes ++ v) (sym (take_more more k 0 c.loop-byte-test.true)) in
    subst (λ (v : List ℕ). Heard v c.hear.new.self) is (c.hear.ensures (bytes ++ take k more) (c.loop-byte.invariant bytes h))
