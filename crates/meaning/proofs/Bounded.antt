-- Rows are wanted no earlier than the asked tick, and no later than the rule looks ahead.
use Rattle.std.proofs.Common.{ℕ, ◌+◌, ◌≤◌, List, [], get_or, inl, inr, arith}
use Rattle.grades.specs.Kinds.{Kind}
use Rattle.grades.specs.Ranges.{Span}
use Rattle.rules.specs.Rows.{row_at, Sound, reach, row_reach_by, reaches_from}
use Rattle.rules.specs.declared.row.Row.{Row}
use Rattle.rules.specs.declared.row.Row.TheVariants.{Test, Not, And, Or, Eventually, Always, Until}
use Rattle.meaning.specs.Wants.{Wants, Wanted, asked, passed}
use Rattle.meaning.proofs.Rows.{reach_of, reach_is}
use Rattle.meaning.proofs.Wanting.{wanted_below}

module _ (K : Kind) (v : ℕ → ℕ → Span K.Value) where
  pub wants_after : (r : Row) (t c u : ℕ) → Wants K v r t c u → t ≤ u
  wants_after (Test l s m) t c u h = absurd h
  wants_after (Not a) t c u h = let e = h.1 in omega arith
  wants_after (And a b) t c u h = let e = h.1 in omega arith
  wants_after (Or a b) t c u h = let e = h.1 in omega arith
  wants_after (Eventually a b d) t c u h = let e = h.1 in omega arith
  wants_after (Always a b d) t c u h = let e = h.1 in omega arith
  wants_after (Until a b l r) t c u (inl h) = let e = h.1.from in omega arith
  wants_after (Until a b l r) t c u (inr h) = h.1

  -- a child looks no further than its parent
  wants_near : (rs : List ℕ) (r : Row) (t c u : ℕ) → Wants K v r t c u → u + get_or rs c 0 ≤ t + row_reach_by rs r
  wants_near rs (Test l s m) t c u h = absurd h
  wants_near rs (Not a) t c u h = rw (h.0, h.1) (omega arith)
  wants_near rs (And a b) t c u h = elim h.0 [ inl e ↦ rw (e, h.1) (omega arith) | inr e ↦ rw (e, h.1) (omega arith) ]
  wants_near rs (Or a b) t c u h = elim h.0 [ inl e ↦ rw (e, h.1) (omega arith) | inr e ↦ rw (e, h.1) (omega arith) ]
  wants_near rs (Eventually a b d) t c u h = let o = h.2 in rw h.0 (omega arith)
  wants_near rs (Always a b d) t c u h = let o = h.2 in rw h.0 (omega arith)
  wants_near rs (Until a b l r) t c u (inl h) = let o = h.1.to in rw h.0 (omega arith)
  wants_near rs (Until a b l r) t c u (inr h) = let z = h.2 in let o = z.1 in let p = z.2.to in rw h.0 (omega arith)

  module _ {rows : List Row} (sound : Sound rows) (asked_at : ℕ) where
    pub wanted_after : (k t : ℕ) → Wanted K rows v asked_at k t → asked_at ≤ t
    wanted_after k t asked = omega arith
    wanted_after k t (passed j s _ _ h n w) = let a = wanted_after j s h in let b = wants_after (row_at rows j) s k t w in omega arith

    near : (k t : ℕ) → Wanted K rows v asked_at k t → t + reach_of rows k ≤ asked_at + reach rows
    near k t asked = omega arith
    near k t (passed j s _ _ h n w) =
        let a = near j s h in
        let b = wants_near (reaches_from [] rows) (row_at rows j) s k t w in
        let e = reach_is sound j (wanted_below K sound v asked_at j s h) in
        omega arith

    pub wanted_near : (k t : ℕ) → Wanted K rows v asked_at k t → t ≤ asked_at + reach rows
    wanted_near k t h = omega (arith, near k t h)
