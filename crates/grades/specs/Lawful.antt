-- Truths and margins keep the laws.
use Rattle.std.specs.Prelude.{◌≡◌, Bool, true, false, not, ◌&&◌, ◌||◌, T, ℤ, pos, negsuc, ◌≤ℤ◌, int_le, refl}
use Rattle.std.proofs.Common.{le→leb, zero-le}
use Rattle.std.specs.Int.Signed.{≤ℤ_refl}
use Rattle.grades.specs.Kinds.{Lawful}
use Rattle.grades.specs.Truths.{truths, Implied}
use Rattle.grades.specs.Wholes.{at_most_trans, at_most_both, turned_twice, turned_below, lower_left, lower_right, lower_most, upper_left, upper_right, upper_least}
use Rattle.grades.specs.Margins.{level_number, level_path, clamped_rises, margins}

implied_refl : (x : Bool) → Implied x x
implied_refl true = tt
implied_refl false = tt

implied_true : (x : Bool) → Implied x true
implied_true true = tt
implied_true false = tt

implied_trans : (x y z : Bool) → Implied x y → Implied y z → Implied x z
implied_trans true true z h k = k
implied_trans true false z h k = absurd h
implied_trans false y z h k = tt

implied_antisym : (x y : Bool) → Implied x y → Implied y x → x ≡ y
implied_antisym true true h k = refl
implied_antisym true false h k = absurd h
implied_antisym false true h k = absurd k
implied_antisym false false h k = refl

and_left : (x y : Bool) → Implied (x && y) x
and_left true y = implied_true y
and_left false y = tt

and_right : (x y : Bool) → Implied (x && y) y
and_right true y = implied_refl y
and_right false y = tt

and_most : (x y z : Bool) → Implied z x → Implied z y → Implied z (x && y)
and_most true y z h k = k
and_most false y true h k = absurd h
and_most false y false h k = tt

or_left : (x y : Bool) → Implied x (x || y)
or_left true y = tt
or_left false y = tt

or_right : (x y : Bool) → Implied y (x || y)
or_right true y = implied_true y
or_right false y = implied_refl y

or_least : (x y z : Bool) → Implied x z → Implied y z → Implied (x || y) z
or_least true y z h k = h
or_least false y z h k = k

not_twice : (x : Bool) → not (not x) ≡ x
not_twice true = refl
not_twice false = refl

not_turns : (x y : Bool) → Implied x y → Implied (not y) (not x)
not_turns x true h = tt
not_turns true false h = absurd h
not_turns false false h = tt

implied_by : (x y : Bool) → T y → Implied x y
implied_by true y h = h
implied_by false y h = tt

reached_rises : (p q : ℤ) → p ≤ℤ q → Implied (int_le (pos 0) p) (int_le (pos 0) q)
reached_rises (pos m) (pos n) h = implied_by (int_le (pos 0) (pos m)) (int_le (pos 0) (pos n)) (le→leb 0 n zero-le)
reached_rises (pos m) (negsuc n) h = absurd h.le
reached_rises (negsuc m) q h = tt

pub truths_lawful : Lawful truths
truths_lawful = record {
  below_refl = implied_refl;
  below_trans = implied_trans;
  below_antisym = implied_antisym;
  meet_left = and_left;
  meet_right = and_right;
  meet_most = and_most;
  join_left = or_left;
  join_right = or_right;
  join_least = or_least;
  opposite_twice = not_twice;
  opposite_turns = not_turns;
  lowest_below = λ x. tt;
  highest_above = implied_true;
  gap_rises = λ p q _ _ h. reached_rises p q h;
}

pub margins_lawful : Lawful margins
margins_lawful = record {
  below_refl = λ x. ≤ℤ_refl x.number;
  below_trans = λ x y z h k. at_most_trans x.number y.number z.number h k;
  below_antisym = λ x y h k. level_path x y (at_most_both x.number y.number h k);
  meet_left = lower_left level_number;
  meet_right = lower_right level_number;
  meet_most = λ x y z h k. lower_most level_number x y z.number h k;
  join_left = upper_left level_number;
  join_right = upper_right level_number;
  join_least = λ x y z h k. upper_least level_number x y z.number h k;
  opposite_twice = λ x. level_path _ _ (turned_twice x.number);
  opposite_turns = λ x y h. turned_below x.number y.number h;
  lowest_below = λ x. x.ok.0;
  highest_above = λ x. x.ok.1;
  gap_rises = λ p q _ _ h. clamped_rises p q h;
}
