-- What is known of a fact, put together.
use Rattle.std.proofs.Common.{◌≡◌, ℕ, ◌<◌, ◌≤◌, Bool, true, false, Some, None, Option, sym, refl, arith}
use mathlib.Core.Bool.{beq}
use Rattle.pieces.specs.Ticks.{Before, Later}
use Rattle.judge.specs.Yes.{clip}

pub clip_before : (o : Option ℕ) (e k : ℕ) → k < clip o e → Before o k
clip_before None e k h = tt
clip_before (Some n) e k h = omega arith

pub clip_later : (o : Option ℕ) (e s : ℕ) → Later s o → s < e → s < clip o e
clip_later None e s h k = k
clip_later (Some n) e s h k = omega arith

pub clip_most : (o : Option ℕ) (e : ℕ) → clip o e ≤ e
clip_most None e = omega arith
clip_most (Some n) e = omega arith

-- two answers that were compared
pub same_if : (a b : Bool) → beq a b ≡ true → a ≡ b
same_if true true e = refl
same_if true false e = sym e
same_if false true e = e
same_if false false e = refl

pub apart_if : (a b : Bool) → beq a b ≡ false → a ≡ b → ⊥
apart_if true true e h = let z : ◌≡◌ {A = ℕ} 0 1 = cc in omega arith
apart_if true false e h = let z : ◌≡◌ {A = ℕ} 0 1 = cc in omega arith
apart_if false true e h = let z : ◌≡◌ {A = ℕ} 0 1 = cc in omega arith
apart_if false false e h = let z : ◌≡◌ {A = ℕ} 0 1 = cc in omega arith
