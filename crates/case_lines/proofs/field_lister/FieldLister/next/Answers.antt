use Rattle.std.proofs.Common.{◌≡◌, List, ℕ, [], ◌++◌, MatchOption, subst}
use Rattle.case_lines.specs.declared.field_lister.FieldLister.{FieldLister}
use Rattle.case_lines.specs.LineTexts.{line_text}
use Rattle.case_lines.specs.Rests.{RestPrints}
use Rattle.case_lines.proofs.field_lister.FieldLister.next.Goals as goal

pub returns-in-None-clause-prints : goal.returns-in-None-clause-prints
returns-in-None-clause-prints c =
    subst (λ (x : FieldLister). MatchOption c.next_step.result (RestPrints x []) (λ line. (more : List ℕ) → RestPrints c.next_step.new.self more → RestPrints x (line_text line ++ more))) c.in-None.ensures.marks.1 c.next_step.ensures.prints

pub returns-in-None-clause-only : goal.returns-in-None-clause-only
returns-in-None-clause-only c =
    subst (λ (x : FieldLister). (text : List ℕ) → RestPrints x text → MatchOption c.next_step.result (text ≡ []) (λ line. (more : List ℕ) × RestPrints c.next_step.new.self more × (text ≡ line_text line ++ more))) c.in-None.ensures.marks.1 c.next_step.ensures.only
