-- What a margin stands for goes by its number.
use Rattle.std.proofs.Common.{◌≡◌, Bool, true, false, ℤ, sym, ap, ◌∙◌, arith}
use Rattle.std.specs.Int.{int_min, int_max}
use Rattle.std.proofs.lemmas.Int.{ints}
use Rattle.grades.specs.Gaps.{GapFits}
use Rattle.grades.specs.Kinds.{Tells}
use Rattle.grades.specs.Margins.{margins, Level, clamped_is}
use Rattle.grades.specs.declared.margin.Margin.{Margin}
use Rattle.grades.specs.Margins.{level_path}

abbrev pub level : Margin → Level
level m = record { number = m.number; ok = m.ok }

pub lower_level : (p q r : Level) → r.number ≡ int_min p.number q.number → r ≡ margins.meet p q
lower_level p q r e = level_path r (margins.meet p q) (grind (arith, ints))

pub upper_level : (p q r : Level) → r.number ≡ int_max p.number q.number → r ≡ margins.join p q
upper_level p q r e = level_path r (margins.join p q) (grind (arith, ints))

pub gap_level : (z : ℤ) → GapFits z → (r : Level) → r.number ≡ z → r ≡ margins.of_gap z
gap_level z h r e = level_path r (margins.of_gap z) (e ∙ sym (clamped_is z h))

number_of : (p q : Level) → p ≡ q → p.number ≡ q.number
number_of p q e = ap (λ (l : Level). l.number) e

-- a test of levels is a test of numbers
pub tells_level : (b : Bool) (p q : Level) → Tells b (p.number ≡ q.number) → Tells b (p ≡ q)
tells_level true p q h = level_path p q h
tells_level false p q h = λ e. h (number_of p q e)

pub tells_number : (b : Bool) (p q : Level) → Tells b (p ≡ q) → Tells b (p.number ≡ q.number)
tells_number true p q h = number_of p q h
tells_number false p q h = λ e. h (level_path p q e)
