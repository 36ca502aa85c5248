-- The words that a script's lines begin with.
use Rattle.std.specs.Prelude.{ℕ, List, codes}
use Rattle.script_lines.specs.declared.keyword.Keyword.{Keyword}
use Rattle.script_lines.specs.declared.keyword.Keyword.TheVariants.{Line, Rule, Enter, Known, Tally, Seal, Cells, Judge, Mark, Show, Wants}

abbrev pub script_word : Keyword → List ℕ
script_word Line = codes "line"
script_word Rule = codes "rule"
script_word Enter = codes "enter"
script_word Known = codes "known"
script_word Tally = codes "tally"
script_word Seal = codes "seal"
script_word Cells = codes "cells"
script_word Judge = codes "judge"
script_word Mark = codes "mark"
script_word Show = codes "show"
script_word Wants = codes "wants"
