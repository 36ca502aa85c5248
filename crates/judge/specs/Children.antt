-- Where a row's child is wanted, as yes or no, from where the row is wanted and not settled.
use Rattle.std.specs.Prelude.{ℕ, ◌+◌, ◌<◌, Bool, true, false, cond, List, ◌==◌}
use Rattle.std.specs.Coded.{le_prop}
use Rattle.grades.specs.Kinds.{Kind}
use Rattle.grades.specs.declared.range.Range.{Range}
use Rattle.rules.specs.declared.row.Row.{Row}
use Rattle.rules.specs.declared.row.Row.TheVariants.{Test, Not, And, Or, Eventually, Always, Until}
use Rattle.pieces.specs.declared.piece.Piece.{Piece}
use Rattle.pieces.specs.Pieces.{at_from}
use Rattle.judge.specs.declared.trial.Trial.{Trial}
use Rattle.judge.specs.declared.trial.Trial.TheVariants.{Loose, Lowest, Higher}
use Rattle.judge.specs.Yes.{any}
use Rattle.judge.specs.Reaches.{sees, held_over}
use Rattle.judge.specs.Trials.{tried, asked}
use Rattle.judge.specs.Places.{list_at, list_says, ListStands, ListStands_prop, RowReady, RowReady_prop}

abbrev pub never : ℕ → Bool
never t = false

-- asks: the row is wanted and not settled; low and high: a child can only be lowest, can be more; all below the limit
abbrev pub child_says : Row → ℕ → (ℕ → Bool) → (ℕ → ℕ → Bool) → (ℕ → ℕ → Bool) → ℕ → ℕ → Bool
child_says (Test l s m) c asks low high limit u = false
child_says (Not d) c asks low high limit u = any (λ t. sees asks never 0 0 t u) limit
child_says (And l r) c asks low high limit u = any (λ t. sees asks never 0 0 t u) limit
child_says (Or l r) c asks low high limit u = any (λ t. sees asks never 0 0 t u) limit
child_says (Eventually a b d) c asks low high limit u = any (λ t. sees asks never a b t u) limit
child_says (Always a b d) c asks low high limit u = any (λ t. sees asks never a b t u) limit
child_says (Until a b l r) c asks low high limit u = cond (c == r) (any (λ t. sees asks (low l) a b t u) limit) (any (λ t. held_over asks (low l) (high r) a b t u) limit)

-- what a list says at each tick
abbrev pub said : List (Piece Bool) → ℕ → Bool
said ps t = at_from false ps t

-- how far behind a tick the row's window ends
abbrev pub window_end : Row → ℕ
window_end (Test l s m) = 0
window_end (Not d) = 0
window_end (And l r) = 0
window_end (Or l r) = 0
window_end (Eventually a b d) = b
window_end (Always a b d) = b
window_end (Until a b l r) = b

-- the row is a test
abbrev pub is_test : Row → Bool
is_test (Test l s m) = true
is_test (Not d) = false
is_test (And l r) = false
is_test (Or l r) = false
is_test (Eventually a b d) = false
is_test (Always a b d) = false
is_test (Until a b l r) = false

module _ (K : Kind) {G : Type 0} (value : G → K.Value) (begins : List ℕ) (ranges : List (Piece (Range G))) where
  -- what the trial says of row c's list at each tick
  abbrev pub row_says : Trial → ℕ → ℕ → Bool
  row_says trial c t = tried K trial (list_says K value begins ranges c t)

  -- where the child c of the row number k is wanted, by where the row is
  abbrev pub passed_on : Row → ℕ → ℕ → ℕ → (ℕ → Bool) → ℕ → Bool
  passed_on row k c limit want u = child_says row c (asked want (row_says Loose k)) (row_says Lowest) (row_says Higher) limit u

  -- where the row k is wanted, by its want list, number i, and not settled, by its ranges
  abbrev pub asks_at : List ℕ → List (Piece Bool) → ℕ → ℕ → ℕ → Bool
  asks_at starts wants k i = asked (said (list_at starts wants i)) (row_says Loose k)

-- the lists of the row and of its children are there, and no window goes past the last u32
pub record Askable {V : Type 0} (row : Row) (k limit : ℕ) (begins : List ℕ) (ranges : List (Piece V)) : Type 0 where
  pub ready : RowReady row begins ranges
  pub own : ListStands begins ranges k
  pub near : limit + window_end row < 4294967296

-- it has one proof at most, so a struct may keep it
pub Askable_prop : {V : Type 0} (row : Row) (k limit : ℕ) (begins : List ℕ) (ranges : List (Piece V)) → IsProp (Askable row k limit begins ranges)
Askable_prop row k limit begins ranges p q = λ i. record { ready = RowReady_prop row begins ranges p.ready q.ready i; own = ListStands_prop begins ranges k p.own q.own i; near = le_prop p.near q.near i }
