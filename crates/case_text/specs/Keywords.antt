-- The words that lines begin with.
use Rattle.std.specs.Prelude.{ℕ, List, codes}
use Rattle.case_text.specs.declared.keyword.Keyword.{Keyword}
use Rattle.case_text.specs.declared.keyword.Keyword.TheVariants.{Line, Rule, Enter, Tick}

abbrev pub spelled : Keyword → List ℕ
spelled Line = codes "line"
spelled Rule = codes "rule"
spelled Enter = codes "enter"
spelled Tick = codes "tick"
