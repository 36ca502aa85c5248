-- Where a row is wanted, by its parent.
use Rattle.std.proofs.Common.{◌≡◌, ℕ, pred, ◌<◌, ◌⊎◌, ◌↔◌, List, length, sym, refl, subst, inl, inr, arith}
use Rattle.grades.specs.Kinds.{Kind}
use Rattle.grades.specs.Ranges.{Span, Settled}
use Rattle.rules.specs.Rows.{row_at, root, Child, Sound}
use Rattle.rules.specs.declared.row.Row.{Row}
use Rattle.rules.specs.declared.row.Row.TheVariants.{Test, Not, And, Or, Eventually, Always, Until}
use Rattle.meaning.specs.Wants.{Wants, Wanted, asked, passed}
use Rattle.meaning.proofs.Rows.{root_below}

module _ (K : Kind) where
  pub wants_child : (v : ℕ → ℕ → Span K.Value) (r : Row) (t c u : ℕ) → Wants K v r t c u → Child r c
  wants_child v (Test l s m) t c u h = h
  wants_child v (Not a) t c u h = h.0
  wants_child v (And a b) t c u h = h.0
  wants_child v (Or a b) t c u h = h.0
  wants_child v (Eventually a b d) t c u h = h.0
  wants_child v (Always a b d) t c u h = h.0
  wants_child v (Until a b l r) t c u (inl h) = inr h.0
  wants_child v (Until a b l r) t c u (inr h) = inl h.0

  module _ {rows : List Row} (sound : Sound rows) (v : ℕ → ℕ → Span K.Value) (asked_at : ℕ) where
    -- some tick of the parent k wants the child c at u
    abbrev pub From : ℕ → ℕ → ℕ → Type 0
    From k c u = (t : ℕ) × Wanted K rows v asked_at k t × ¬ (Settled K (v k t)) × Wants K v (row_at rows k) t c u

    -- how a row came to be wanted
    abbrev Came : ℕ → ℕ → Type 0
    Came c u = ((c ≡ root rows) × (u ≡ asked_at)) ⊎ ((k : ℕ) × (k < length rows) × From k c u)

    pub wanted_below : (c u : ℕ) → Wanted K rows v asked_at c u → c < length rows
    wanted_below c u asked = root_below sound
    wanted_below c u (passed k t _ _ h n w) =
        let b = wanted_below k t h in
        let e = sound.earlier k c b (wants_child v (row_at rows k) t c u w) in
        omega arith

    came : (c u : ℕ) → Wanted K rows v asked_at c u → Came c u
    came c u asked = inl (refl, refl)
    came c u (passed k t _ _ h n w) = inr (k, wanted_below k t h, (t, h, n, w))

    pub root_wanted : (u : ℕ) → Wanted K rows v asked_at (root rows) u ↔ (u ≡ asked_at)
    root_wanted u = (λ h. from (came (root rows) u h), λ e. subst (λ j. Wanted K rows v asked_at (root rows) j) (sym e) asked)
      where
        from : Came (root rows) u → u ≡ asked_at
        from (inl h) = h.1
        from (inr h) =
            let w = h.2 in
            let e : pred (length rows) < h.0 = sound.earlier h.0 (root rows) h.1 (wants_child v (row_at rows h.0) w.0 (root rows) u w.3) in
            let b = h.1 in
            absurd (omega arith)

    pub child_wanted : (k c u : ℕ) → k < length rows → Child (row_at rows k) c → Wanted K rows v asked_at c u ↔ From k c u
    child_wanted k c u below child = (λ h. from (came c u h), λ h. passed k h.0 c u h.1 h.2 h.3)
      where
        from : Came c u → From k c u
        from (inl h) = let e = sound.earlier k c below child in let r : c ≡ pred (length rows) = h.0 in absurd (omega arith)
        from (inr h) =
            let w = h.2 in
            subst (λ j. From j c u) (sound.once h.0 k c h.1 below (wants_child v (row_at rows h.0) w.0 c u w.3) child) w
