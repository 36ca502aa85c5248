-- Whether a row is wanted at a tick, and whether it is marked there, can be told.
use Rattle.std.proofs.Common.{◌≡◌, ℕ, zero, suc, pred, ◌+◌, ◌<◌, ◌≤◌, List, length, sym, refl, subst, arith}
use native.Mathlib.Decide.{dec_le, dec_lt, ℕ_discrete}
use Rattle.grades.specs.Kinds.{Kind, Lawful}
use Rattle.grades.specs.Ranges.{Span, Settled}
use Rattle.rules.specs.Rows.{row_at, reach, Sound}
use Rattle.rules.specs.declared.row.Row.{Row}
use Rattle.rules.specs.declared.row.Row.TheVariants.{Test, Not, And, Or, Eventually, Always, Until}
use Rattle.meaning.specs.declared.mark.Mark.{Mark}
use Rattle.meaning.specs.Readings.{Readings}
use Rattle.meaning.specs.Values.{value}
use Rattle.meaning.specs.Verdicts.{ranges}
use Rattle.meaning.specs.Wants.{LeftLasts, Wants, Wanted}
use Rattle.rules.specs.Tested.{Tests}
use Rattle.meaning.specs.Marks.{Marked, Marks}
use Rattle.meaning.proofs.Deciding.{both?, either?, not?, as?, three?, some?}
use Rattle.meaning.proofs.Wanting.{root_wanted, child_wanted, wanted_below}
use Rattle.meaning.proofs.Bounded.{wants_after, wanted_near}
use Rattle.meaning.proofs.Lists.{has_list}
use Rattle.meaning.proofs.Untils.{lowest?}

module _ {K : Kind} (L : Lawful K) (v : ℕ → ℕ → Span K.Value) where
  settled? : (p : Span K.Value) → Dec (Settled K p)
  settled? p = K.same p.low p.high

  open? : (left : ℕ → Span K.Value) (a b t w : ℕ) → Dec (LeftLasts K left a b t w)
  open? left a b t w =
      as? (λ h. record { from = h.0; to = h.1; alive = λ p x y e. h.2 (p, (omega arith), (x, e)) })
      (λ o. (o.from, o.to, λ h. o.alive h.0 h.2.0 (let l = h.1 in omega arith) h.2.1))
      (three? (dec_le (t + a) w) (dec_le w (t + b)) (not? (some? (λ p. both? (dec_le t p) (lowest? L (left p))) (suc w))))

  wants? : (r : Row) (t c u : ℕ) → Dec (Wants K v r t c u)
  wants? (Test l s m) t c u = no (λ h. h)
  wants? (Not a) t c u = both? (ℕ_discrete c a) (ℕ_discrete u t)
  wants? (And a b) t c u = both? (either? (ℕ_discrete c a) (ℕ_discrete c b)) (ℕ_discrete u t)
  wants? (Or a b) t c u = both? (either? (ℕ_discrete c a) (ℕ_discrete c b)) (ℕ_discrete u t)
  wants? (Eventually a b d) t c u = three? (ℕ_discrete c d) (dec_le (t + a) u) (dec_le u (t + b))
  wants? (Always a b d) t c u = three? (ℕ_discrete c d) (dec_le (t + a) u) (dec_le u (t + b))
  wants? (Until a b l r) t c u = either? (both? (ℕ_discrete c r) (open? (v l) a b t u))
      (three? (ℕ_discrete c l) (dec_le t u)
      (as? (λ h. (h.0, h.2.0, h.2.1, h.2.2)) (λ h. (h.0, (let o = h.2.to in omega arith), (h.1, h.2, h.3)))
      (some? (λ w. three? (dec_le u w) (open? (v l) a b t w) (not? (lowest? L (v r w)))) (suc (t + b)))))

  module _ {rows : List Row} (sound : Sound rows) (asked_at : ℕ) where
    from_root? : (n c : ℕ) → length rows ≤ c + n → c < length rows → (u : ℕ) → Dec (Wanted K rows v asked_at c u)
    from_root? zero c far below u = absurd (omega arith)
    from_root? (suc n) c far below u = elim (dec_lt (suc c) (length rows)) [
      | yes inner ↦
          let parent = sound.used c inner in
          let k = parent.0 in
          let after : c < k = sound.earlier k c parent.1 parent.2 in
          let iff = child_wanted K sound v asked_at k c u parent.1 parent.2 in
          as? (λ h. iff.1 (h.0, h.2.0, h.2.1, h.2.2))
          (λ w. let h = iff.0 w in (h.0, (let o = wants_after K v (row_at rows k) h.0 c u h.3 in omega arith), (h.1, h.2, h.3)))
          (some? (λ t. three? (from_root? n k (omega arith) parent.1 t) (not? (settled? (v k t))) (wants? (row_at rows k) t c u)) (suc u))
      | no last ↦
          let is : c ≡ pred (length rows) = omega arith in
          let iff = root_wanted K sound v asked_at u in
          subst (λ j. Dec (Wanted K rows v asked_at j u)) (sym is) (as? iff.1 iff.0 (ℕ_discrete u asked_at))
    ]

    pub wanted? : (k u : ℕ) → Dec (Wanted K rows v asked_at k u)
    wanted? k u = elim (dec_lt k (length rows)) [
      | yes below ↦ from_root? (length rows) k (omega arith) below u
      | no n ↦ no (λ w. n (wanted_below K sound v asked_at k u w))
    ]

tests? : (r : Row) → Dec ((line : ℕ) × Tests r line)
tests? (Test l s m) = yes (l, refl)
tests? (Not a) = no (λ h. h.1)
tests? (And a b) = no (λ h. h.1)
tests? (Or a b) = no (λ h. h.1)
tests? (Eventually a b d) = no (λ h. h.1)
tests? (Always a b d) = no (λ h. h.1)
tests? (Until a b l r) = no (λ h. h.1)

pub marked? : {K : Kind} → Lawful K → {rows : List Row} → Sound rows → (x : Readings) (asked_at k u : ℕ) → Dec (Marked K rows x asked_at k u)
marked? {K} L {rows} sound x asked_at k u =
    as? (λ h. record { line = h.0.0; tests = h.0.1; wanted = h.1; unsettled = h.2 }) (λ m. ((m.line, m.tests), m.wanted, m.unsettled))
    (three? (tests? (row_at rows k)) (wanted? L v sound asked_at k u) (not? (settled? L v (v k u))))
  where
    v : ℕ → ℕ → Span K.Value
    v = value (ranges K) rows x

pub has_marks : {K : Kind} → Lawful K → {rows : List Row} → Sound rows → (x : Readings) (asked_at : ℕ) → (ms : List Mark) × Marks K rows x asked_at ms
has_marks {K} L {rows} sound x asked_at =
    has_list (Marked K rows x asked_at) (marked? L sound x asked_at) (length rows) (suc (asked_at + reach rows))
    (λ k u m. (wanted_below K sound v asked_at k u m.wanted, (let n = wanted_near K v sound asked_at k u m.wanted in omega arith)))
  where
    v : ℕ → ℕ → Span K.Value
    v = value (ranges K) rows x
