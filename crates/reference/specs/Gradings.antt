-- Grades as whole numbers, and their laws.
use Rattle.std.specs.Prelude.{◌≡◌, Bool, true, false, cond, ◌⊎◌, T, ℤ, pos, negsuc, neg_ℤ, ◌-ℤ◌, ◌≤ℤ◌, int_le, refl}
use Rattle.std.proofs.Common.{sym, ap, ◌∙◌, subst, inl, inr, zero-le, le→leb}
use Rattle.std.specs.Int.Signed.{le_z_yes}
use Rattle.grades.specs.Gaps.{GapFits}
use Rattle.grades.specs.Wholes.{turned_twice, turned_below}
use Rattle.grades.specs.Margins.{turned_fits}

-- which numbers are grades, what a gap is graded, what a grade turns to in its opposite, and the lowest and the highest grade
pub record Grading : Type 1 where
  pub Grade : ℤ → Type 0
  pub of_gap : ℤ → ℤ
  pub opposite : ℤ → ℤ
  pub lowest : ℤ
  pub highest : ℤ

pub record GradingLaws (G : Grading) : Type 0 where
  pub gap_graded : (z : ℤ) → GapFits z → G.Grade (G.of_gap z)
  pub gap_rises : (y z : ℤ) → y ≤ℤ z → G.of_gap y ≤ℤ G.of_gap z
  pub opposite_graded : (z : ℤ) → G.Grade z → G.Grade (G.opposite z)
  pub opposite_twice : (z : ℤ) → G.Grade z → G.opposite (G.opposite z) ≡ z
  pub opposite_turns : (y z : ℤ) → G.Grade y → G.Grade z → y ≤ℤ z → G.opposite z ≤ℤ G.opposite y
  pub lowest_graded : G.Grade G.lowest
  pub lowest_below : (z : ℤ) → G.Grade z → G.lowest ≤ℤ z
  pub highest_graded : G.Grade G.highest
  pub highest_above : (z : ℤ) → G.Grade z → z ≤ℤ G.highest

-- 0 and 1 for false and true: a gap is true from 0 up
abbrev pub truth_grading : Grading
truth_grading = record { Grade = λ z. (z ≡ pos 0) ⊎ (z ≡ pos 1); of_gap = λ z. cond (int_le (pos 0) z) (pos 1) (pos 0); opposite = λ z. pos 1 -ℤ z; lowest = pos 0; highest = pos 1 }

-- each gap is a grade, itself, and opposites are numbers of the other sign
abbrev pub margin_grading : Grading
margin_grading = record { Grade = GapFits; of_gap = λ z. z; opposite = neg_ℤ; lowest = negsuc 999999; highest = pos 1000000 }

either : (b : Bool) → truth_grading.Grade (cond b (pos 1) (pos 0))
either true = inr refl
either false = inl refl

above_zero : (b : Bool) → pos 0 ≤ℤ cond b (pos 1) (pos 0)
above_zero true = le_z_yes tt
above_zero false = le_z_yes tt

below_one : (b c : Bool) → T c → cond b (pos 1) (pos 0) ≤ℤ cond c (pos 1) (pos 0)
below_one true true t = le_z_yes tt
below_one false true t = le_z_yes tt
below_one b false t = absurd t

truth_gap_rises : (y z : ℤ) → y ≤ℤ z → truth_grading.of_gap y ≤ℤ truth_grading.of_gap z
truth_gap_rises (pos m) (pos n) h = below_one (int_le (pos 0) (pos m)) (int_le (pos 0) (pos n)) (le→leb 0 n zero-le)
truth_gap_rises (pos m) (negsuc n) h = absurd h.le
truth_gap_rises (negsuc m) z h = above_zero (int_le (pos 0) z)

-- 1 less a number
abbrev from_one : ℤ → ℤ
from_one z = pos 1 -ℤ z

turned_graded : (z : ℤ) → truth_grading.Grade z → truth_grading.Grade (pos 1 -ℤ z)
turned_graded z h = elim h [ inl e ↦ inr (ap from_one e) | inr e ↦ inl (ap from_one e) ]

graded_twice : (z : ℤ) → truth_grading.Grade z → from_one (from_one z) ≡ z
graded_twice z h = elim h [ inl e ↦ ap (λ x. from_one (from_one x)) e ∙ sym e | inr e ↦ ap (λ x. from_one (from_one x)) e ∙ sym e ]

zero_below : (z : ℤ) → truth_grading.Grade z → pos 0 ≤ℤ z
zero_below z h = elim h [ inl e ↦ subst (λ x. pos 0 ≤ℤ x) (sym e) (le_z_yes tt) | inr e ↦ subst (λ x. pos 0 ≤ℤ x) (sym e) (le_z_yes tt) ]

one_above : (z : ℤ) → truth_grading.Grade z → z ≤ℤ pos 1
one_above z h = elim h [ inl e ↦ subst (λ x. x ≤ℤ pos 1) (sym e) (le_z_yes tt) | inr e ↦ subst (λ x. x ≤ℤ pos 1) (sym e) (le_z_yes tt) ]

turned_from_one : (y z : ℤ) → truth_grading.Grade y → truth_grading.Grade z → y ≤ℤ z → from_one z ≤ℤ from_one y
turned_from_one y z g h k = elim h [ inl e ↦ elim g [ inl f ↦ subst (λ x. from_one z ≤ℤ from_one x) (sym f) (subst (λ x. from_one x ≤ℤ pos 1) (sym e) (le_z_yes tt)) | inr f ↦ absurd (subst (λ x. x ≤ℤ pos 0) f (subst (λ x. y ≤ℤ x) e k)).le ] | inr e ↦ subst (λ x. from_one x ≤ℤ from_one y) (sym e) (zero_below (from_one y) (turned_graded y g)) ]

pub truth_grading_lawful : GradingLaws truth_grading
truth_grading_lawful = record { gap_graded = λ z h. either (int_le (pos 0) z); gap_rises = truth_gap_rises; opposite_graded = turned_graded; opposite_twice = graded_twice; opposite_turns = turned_from_one; lowest_graded = inl refl; lowest_below = zero_below; highest_graded = inr refl; highest_above = one_above }

pub margin_grading_lawful : GradingLaws margin_grading
margin_grading_lawful = record { gap_graded = λ z h. h; gap_rises = λ y z h. h; opposite_graded = turned_fits; opposite_twice = λ z h. turned_twice z; opposite_turns = λ y z _ _ h. turned_below y z h; lowest_graded = (le_z_yes tt, le_z_yes tt); lowest_below = λ z h. h.0; highest_graded = (le_z_yes tt, le_z_yes tt); highest_above = λ z h. h.1 }
