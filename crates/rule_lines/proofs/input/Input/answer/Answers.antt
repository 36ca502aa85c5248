use Rattle.std.proofs.Common.{ℕ, List, map, subst}
use Rattle.rules.specs.Texts.{Answered, answer_of}
use Rattle.rule_lines.specs.Lines.{before, behind}
use Rattle.rule_lines.specs.Kept.{held}
use Rattle.rule_lines.proofs.Cutting.{answered}
use Rattle.rule_lines.proofs.input.Input.answer.Goals as goal

pub returns : goal.returns
returns c =
    let cells : List (List ℕ) = map held c.args.self.now.names.parts in
    let text : List ℕ = held c.args.self.now.text in
    let r = answer_of c.read.result in
    let names_are = subst (λ (v : List (List ℕ)). Answered v c.bytes.result.now r) c.list-names.ensures c.read.ensures in
    let kept : Answered cells text r = subst (λ (v : List ℕ). Answered cells v r) c.bytes.ensures names_are in
    record {
      kept = kept;
      whole = λ bytes h. answered (before 10 bytes) (behind 10 bytes) cells r h.names.cut (subst (λ (v : List ℕ). Answered cells v r) h.text kept);
    }
