-- The texts of the worked rules with the names of their lines, and what a rule text comes to on readings.
use Rattle.std.specs.Prelude.{ℕ, List, [], ◌∷◌, Ok, codes}
use Rattle.rules.specs.declared.row.Row.{Row}
use Rattle.rules.specs.Texts.{Answered}
use Rattle.meaning.specs.declared.outcome.Outcome.{Outcome}
use Rattle.meaning.specs.Readings.{Readings}
use Rattle.meaning.specs.Cases.{ComesTo}

abbrev pub hot_and_flow : List (List ℕ)
hot_and_flow = codes "hot" ∷ (codes "flow" ∷ [])

abbrev pub guard_text : List ℕ
guard_text = codes "G[0,3](flow<=0|hot>=1800)"

abbrev pub p_and_q : List (List ℕ)
p_and_q = codes "p" ∷ (codes "q" ∷ [])

abbrev pub until_text : List ℕ
until_text = codes "(p>=1U[0,3]q>=1)"

abbrev pub only_a : List (List ℕ)
only_a = codes "a" ∷ []

abbrev pub lowest_text : List ℕ
lowest_text = codes "a>=-500000"

abbrev pub above_text : List ℕ
above_text = codes "a>=-499999"

-- the text is a rule, of one list of rows only, and its verdict in truth comes to this
pub record TextComesTo (names : List (List ℕ)) (text : List ℕ) (x : Readings) (t : ℕ) (o : Outcome) : Type 0 where
  pub rows : List Row
  pub read : Answered names text (Ok rows)
  pub comes : ComesTo rows x t o
