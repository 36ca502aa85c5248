-- Which fields may stand where: 1 to 16 names, the rule, and then entries and ticks.
use Rattle.std.specs.Prelude.{◌≡◌, ℕ, ◌<◌, List, [], length, slice_index_or}
use Rattle.tokens.specs.Words.{IsName}
use Rattle.cases.specs.Contents.{Item, name, rule, entry, tick}

abbrev pub Repeated : List (List ℕ) → List ℕ → Type 0
Repeated names w = (k : ℕ) × (k < length names) × (slice_index_or names k [] ≡ w)

-- w may be the next name behind these
pub record Admits (names : List (List ℕ)) (w : List ℕ) : Type 0 where
  pub few : length names < 16
  pub formed : IsName w
  pub fresh : Repeated names w → ⊥

-- before the rule, behind these names: another name, or the rule if there is a name
abbrev pub MayStand : List (List ℕ) → Item → Type 0
MayStand names (name w) = Admits names w
MayStand names (rule text) = 0 < length names
MayStand names (entry e) = ⊥
MayStand names (tick t) = ⊥

-- behind the rule: entries and ticks
abbrev pub MayFollow : Item → Type 0
MayFollow (name w) = ⊥
MayFollow (rule text) = ⊥
MayFollow (entry e) = Unit {0}
MayFollow (tick t) = Unit {0}
