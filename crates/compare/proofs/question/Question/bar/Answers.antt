use Rattle.std.proofs.Common.{rules, refl, inl, true, ◌∙◌}
use Rattle.std.proofs.lemmas.Iterator.{cases_from_any, YieldsList-from_slice}
use borrow.Author.Tests.{tests}
use Rattle.rules.specs.Texts.{table_of}
use Rattle.compare.proofs.Questions.{TestsFrom, lacks_lines}
use Rattle.compare.proofs.question.Question.bar.Goals as goal

pub returns-then-any : goal.returns-then-any
returns-then-any c = λ s e.
    let some : _ = cases_from_any _ _ true (TestsFrom c.args.lines) (λ row. TestsFrom c.args.lines row → ⊥) c.if-any.ensures.ran (YieldsList-from_slice (table_of c.args.self.now.rule.now) (c.iter.ensures.rest ∙ c.rows.ensures.is)) (λ x q k. search (rules, tests)) (λ x q k. search (rules, tests)) in
    inl ((λ has. lacks_lines (table_of c.args.self.now.rule.now) c.args.lines some s e has), refl)
