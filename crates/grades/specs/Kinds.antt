-- What a kind of grade is: a set of values with an order and operations, and their laws.
use Rattle.std.specs.Prelude.{◌≡◌, Bool, true, false, ℤ, ◌≤ℤ◌}
use Rattle.grades.specs.Gaps.{GapFits}

-- below is the order "at most", meet the lower of two, join the upper of two, same the test of sameness
pub record Kind : Type 1 where
  pub Value : Type 0
  pub below : Value → Value → Type 0
  pub meet : Value → Value → Value
  pub join : Value → Value → Value
  pub opposite : Value → Value
  pub lowest : Value
  pub highest : Value
  pub of_gap : ℤ → Value
  pub same : (x y : Value) → Dec (x ≡ y)

pub record Lawful (K : Kind) : Type 0 where
  pub below_refl : (x : K.Value) → K.below x x
  pub below_trans : (x y z : K.Value) → K.below x y → K.below y z → K.below x z
  pub below_antisym : (x y : K.Value) → K.below x y → K.below y x → x ≡ y
  pub meet_left : (x y : K.Value) → K.below (K.meet x y) x
  pub meet_right : (x y : K.Value) → K.below (K.meet x y) y
  pub meet_most : (x y z : K.Value) → K.below z x → K.below z y → K.below z (K.meet x y)
  pub join_left : (x y : K.Value) → K.below x (K.join x y)
  pub join_right : (x y : K.Value) → K.below y (K.join x y)
  pub join_least : (x y z : K.Value) → K.below x z → K.below y z → K.below (K.join x y) z
  pub opposite_twice : (x : K.Value) → K.opposite (K.opposite x) ≡ x
  pub opposite_turns : (x y : K.Value) → K.below x y → K.below (K.opposite y) (K.opposite x)
  pub lowest_below : (x : K.Value) → K.below K.lowest x
  pub highest_above : (x : K.Value) → K.below x K.highest
  pub gap_rises : (p q : ℤ) → GapFits p → GapFits q → p ≤ℤ q → K.below (K.of_gap p) (K.of_gap q)

-- the test's answer b says whether P holds
abbrev pub Tells : Bool → Type 0 → Type 0
Tells true P = P
Tells false P = P → ⊥
