-- No row's window ends further ahead than the whole rule looks.
use Rattle.std.proofs.Common.{◌≡◌, ℕ, zero, suc, pred, ◌+◌, ◌<◌, ◌≤◌, List, [], length, get_or, sym, ap, subst, inl, inr, ⊎_elim, arith}
use Rattle.std.proofs.lemmas.Bool.{cases_eq}
use Rattle.rules.specs.declared.row.Row.{Row}
use Rattle.rules.specs.declared.row.Row.TheVariants.{Test, Not, And, Or, Eventually, Always, Until}
use Rattle.rules.specs.Rows.{row_at, root, Child, Sound, row_reach_by, reaches_from, reach}
use Rattle.meaning.proofs.Rows.{reach_of, reach_is}
use Rattle.judge.specs.Children.{window_end}

window_near : (rs : List ℕ) (r : Row) → window_end r ≤ row_reach_by rs r
window_near rs (Test l s m) = omega arith
window_near rs (Not a) = omega arith
window_near rs (And a b) = omega arith
window_near rs (Or a b) = omega arith
window_near rs (Eventually a b d) = omega arith
window_near rs (Always a b d) = omega arith
window_near rs (Until a b l r) = omega arith

child_near : (rs : List ℕ) (r : Row) (c : ℕ) → Child r c → get_or rs c 0 ≤ row_reach_by rs r
child_near rs (Test l s m) c h = absurd h
child_near rs (Not a) c h = rw h (omega arith)
child_near rs (And a b) c h = elim h [ inl e ↦ rw e (omega arith) | inr e ↦ rw e (omega arith) ]
child_near rs (Or a b) c h = elim h [ inl e ↦ rw e (omega arith) | inr e ↦ rw e (omega arith) ]
child_near rs (Eventually a b d) c h = rw h (omega arith)
child_near rs (Always a b d) c h = rw h (omega arith)
child_near rs (Until a b l r) c h = elim h [ inl e ↦ rw e (omega arith) | inr e ↦ rw e (omega arith) ]

module _ (rows : List Row) (sound : Sound rows) where
  -- from the last row down
  row_near : (n k : ℕ) → length rows ≤ k + n → k < length rows → reach_of rows k ≤ reach rows
  row_near zero k a h = absurd (omega arith)
  row_near (suc n) k a h =
      ⊎_elim
      (λ (e : k ≡ root rows). subst (λ j. reach_of rows j ≤ reach rows) (sym e) (omega arith))
      (λ (ne : k ≡ root rows → ⊥).
      let p = sound.used k (below ne) in
      let lt = sound.earlier p.0 k p.1 p.2 in
      let up = row_near n p.0 (omega arith) p.1 in
      let e = reach_is sound p.0 p.1 in
      let c = child_near (reaches_from [] rows) (row_at rows p.0) k p.2 in
      omega arith)
      (cases_eq k (root rows))
    where
      below : (k ≡ pred (length rows) → ⊥) → suc k < length rows
      below ne = ⊎_elim (λ (e : suc k ≡ length rows). absurd (ne (ap pred e))) (λ (n : suc k ≡ length rows → ⊥). omega arith) (cases_eq (suc k) (length rows))

  pub far_near : (k : ℕ) → k < length rows → window_end (row_at rows k) ≤ reach rows
  far_near k h =
      let a = window_near (reaches_from [] rows) (row_at rows k) in
      let e = reach_is sound k h in
      let b = row_near (length rows) k (omega arith) h in
      omega arith
