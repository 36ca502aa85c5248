-- Tables of wants: one with none, and one in which the last row is asked for.
use Rattle.rules.specs.declared.row.Row.{Row}
use Rattle.reference.specs.RowWants.{AskedAt}
use Rattle.std.proofs.Common.{◌≡◌, ℕ, zero, suc, pred, ◌<◌, Bool, true, false, ◌&&◌, nat_lt, List, length, replicate, slice_index_or, refl, sym, subst, ap, inl, inr, arith}
use Rattle.std.specs.List.{slice_get}
use Rattle.reference.specs.declared.wants.Wants.{Wants}
use Rattle.reference.specs.Tables.{said_of, wanted_at}
use Rattle.reference.specs.Spreads.{SpreadFrom}

all_false : (n t : ℕ) → slice_index_or (replicate n false) t false ≡ false
all_false zero t = refl
all_false (suc n) zero = refl
all_false (suc n) (suc t) = all_false n t

none_in : (b c : Bool) → c ≡ false → (b && c) ≡ true → ⊥
none_in true c e h = absurd (cc)
none_in false c e h = absurd (cc)

none_said : (n row t : ℕ) → said_of (slice_get (replicate n (replicate 128 false)) row) t ≡ true → ⊥
none_said zero row t h = absurd (cc)
none_said (suc n) zero t h = none_in (nat_lt t 128) (slice_index_or (replicate 128 false) t false) (all_false 128 t) h
none_said (suc n) (suc row) t h = none_said n row t h

-- the last row is asked for, and then nothing else is wanted
pub asked_first : (rows : List Row) (tick last : ℕ) (v w : Wants) → v.rows ≡ replicate 64 (replicate 128 false) → length rows ≡ suc last → SpreadFrom tick v w → (last < 64 → tick < 128 → wanted_at w last tick ≡ true) → AskedAt rows tick w
asked_first rows tick last v w blank long spread there = record {
  last = λ some few kept. subst (λ k. wanted_at w k tick ≡ true) (sym (ap pred long)) (there (omega arith) kept);
  later = λ row t h. elim (spread.comes row t h) [ inl e ↦ absurd (none_said 64 row t (subst (λ r. said_of (slice_get r row) t ≡ true) blank e)) | inr l ↦ l ];
}

-- no rows, and nothing wanted
pub asked_none : (rows : List Row) (tick : ℕ) (w : Wants) → w.rows ≡ replicate 64 (replicate 128 false) → length rows ≡ 0 → AskedAt rows tick w
asked_none rows tick w blank short = record {
  last = λ some few kept. absurd (omega arith);
  later = λ row t h. absurd (none_said 64 row t (subst (λ r. said_of (slice_get r row) t ≡ true) blank h));
}
