use Rattle.std.proofs.Common.{Some, None, refl, sym, ap, ◌∙◌}
use Rattle.cases.specs.declared.field.Content.TheVariants as content
use Rattle.cases.specs.Contents.{rule}
use Rattle.case_text.specs.declared.keyword.Keyword.TheVariants.{Line, Rule, Enter, Tick}
use Rattle.case_text.specs.Keywords.{spelled}
use Rattle.case_text.specs.Pieces.{words_of}
use Rattle.case_text.proofs.Keywords.{by_name, by_rule, by_entry, by_tick, by_none}
use Rattle.case_text.proofs.line.content_of.Goals as goal

pub returns-in_err-keyword_of : goal.returns-in_err-keyword_of
returns-in_err-keyword_of c =
    let none = c.in_err-keyword_of.ensures in
    rw c.from_residual.ensures (λ line b. by_none _ line _ _ _ refl b (none Line) (none Rule) (none Enter) (none Tick))

pub returns-in-Line : goal.returns-in-Line
returns-in-Line c = λ line b. by_name _ line _ _ _ refl b (c.in_ok-keyword_of.ensures ∙ ap spelled c.in-Line.is) _ c.name_of.ensures

pub returns-in-Rule : goal.returns-in-Rule
returns-in-Rule c = λ line b. by_rule _ line _ _ _ refl b (content.Rule c.from_first.result) (c.in_ok-keyword_of.ensures ∙ ap spelled c.in-Rule.is) (ap rule c.from_first.ensures)

pub returns-in_err-entry_of-in-Enter : goal.returns-in_err-entry_of-in-Enter
returns-in_err-entry_of-in-Enter c =
    rw c.from_residual-in_err-entry_of-in-Enter.ensures (λ line b. by_entry _ line _ _ _ refl b (c.in_ok-keyword_of.ensures ∙ ap spelled c.in-Enter.is) None c.in_err-entry_of-in-Enter.ensures)

pub returns-in_ok-entry_of-in-Enter : goal.returns-in_ok-entry_of-in-Enter
returns-in_ok-entry_of-in-Enter c =
    let e = c.in_ok-entry_of-in-Enter.field-0 in
    λ line b. by_entry _ line _ _ _ refl b (c.in_ok-keyword_of.ensures ∙ ap spelled c.in-Enter.is) (Some (content.Entry e)) (e, c.in_ok-entry_of-in-Enter.ensures, refl)

pub returns-in-Tick : goal.returns-in-Tick
returns-in-Tick c = λ line b. by_tick _ line _ _ _ refl b (c.in_ok-keyword_of.ensures ∙ ap spelled c.in-Tick.is) _ c.tick_of.ensures
