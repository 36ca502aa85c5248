-- The values of a kind of grade as the numbers of a scale.
use Rattle.std.specs.Prelude.{◌≡◌, Bool, true, false, not, cond, T, ℤ, pos, ◌≤ℤ◌, int_le, refl}
use Rattle.std.proofs.Common.{subst, inl, inr}
use Rattle.std.specs.Int.Signed.{le_z_yes}
use Rattle.grades.specs.Gaps.{GapFits}
use Rattle.grades.specs.Kinds.{Kind}
use Rattle.grades.specs.Truths.{truths, Implied}
use Rattle.grades.specs.Margins.{Level, level_number, level_path, clamped_is, margins}
use Rattle.reference.specs.Gradings.{Grading, truth_grading as zero_or_one, margin_grading as gaps}

-- the grades on the scale are the values of the kind: with no two alike, in the same order, with the same gaps, opposites and ends
pub record Measures (K : Kind) (S : Grading) (grade : K.Value → ℤ) : Type 0 where
  pub graded : (v : K.Value) → S.Grade (grade v)
  pub apart : (v w : K.Value) → grade v ≡ grade w → v ≡ w
  pub rises : (v w : K.Value) → K.below v w → grade v ≤ℤ grade w
  pub gap : (z : ℤ) → GapFits z → grade (K.of_gap z) ≡ S.of_gap z
  pub opposite : (v : K.Value) → grade (K.opposite v) ≡ S.opposite (grade v)
  pub lowest : grade K.lowest ≡ S.lowest
  pub highest : grade K.highest ≡ S.highest

-- number gives what stands for a value the grade of the value
pub record Numbers (K : Kind) {G : Type 0} (value : G → K.Value) (S : Grading) (number : G → ℤ) : Type 0 where
  pub grade : K.Value → ℤ
  pub measures : Measures K S grade
  pub is : (g : G) → number g ≡ grade (value g)

abbrev pub truth_number : Bool → ℤ
truth_number true = pos 1
truth_number false = pos 0

truth_graded : (v : Bool) → zero_or_one.Grade (truth_number v)
truth_graded true = inr refl
truth_graded false = inl refl

truth_apart : (v w : Bool) → truth_number v ≡ truth_number w → v ≡ w
truth_apart true true e = refl
truth_apart true false e = absurd (subst (λ z. T (int_le (pos 1) z)) e tt)
truth_apart false true e = absurd (subst (λ z. T (int_le z (pos 0))) e tt)
truth_apart false false e = refl

truth_rises : (v w : Bool) → Implied v w → truth_number v ≤ℤ truth_number w
truth_rises true true h = le_z_yes tt
truth_rises true false h = absurd h
truth_rises false true h = le_z_yes tt
truth_rises false false h = le_z_yes tt

truth_gap : (z : ℤ) → truth_number (int_le (pos 0) z) ≡ zero_or_one.of_gap z
truth_gap z = elim (int_le (pos 0) z) as (λ b. truth_number b ≡ cond b (pos 1) (pos 0)) [ true ↦ refl | false ↦ refl ]

truth_opposite : (v : Bool) → truth_number (not v) ≡ zero_or_one.opposite (truth_number v)
truth_opposite true = refl
truth_opposite false = refl

pub truths_measure : Measures truths zero_or_one truth_number
truths_measure = record { graded = truth_graded; apart = truth_apart; rises = truth_rises; gap = λ z h. truth_gap z; opposite = truth_opposite; lowest = refl; highest = refl }

pub margins_measure : Measures margins gaps level_number
margins_measure = record { graded = λ p. p.ok; apart = level_path; rises = λ p q h. h; gap = clamped_is; opposite = λ p. refl; lowest = refl; highest = refl }

pub truths_numbered : {G : Type 0} (value : G → Bool) → Numbers truths value zero_or_one (λ g. truth_number (value g))
truths_numbered value = record { grade = truth_number; measures = truths_measure; is = λ g. refl }

pub margins_numbered : {G : Type 0} (value : G → Level) → Numbers margins value gaps (λ g. (value g).number)
margins_numbered value = record { grade = level_number; measures = margins_measure; is = λ g. refl }
