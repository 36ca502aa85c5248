-- Which rows are wanted at which ticks, once the last row is asked for at a tick.
use Rattle.std.specs.Prelude.{◌≡◌, ℕ, ◌+◌, ◌≤◌, ◌⊎◌, List}
use Rattle.grades.specs.Kinds.{Kind}
use Rattle.grades.specs.Ranges.{Span, Settled}
use Rattle.rules.specs.Rows.{row_at, root}
use Rattle.rules.specs.declared.row.Row.{Row}
use Rattle.rules.specs.declared.row.Row.TheVariants.{Test, Not, And, Or, Eventually, Always, Until}

module _ (K : Kind) where
  -- the range can be nothing but lowest
  abbrev pub Lowest : Span K.Value → Type 0
  Lowest p = p.high ≡ K.lowest

  -- tick w of an until's window at t, where left is lowest at no tick from t to w
  pub record LeftLasts (left : ℕ → Span K.Value) (a b t w : ℕ) : Type 0 where
    pub from : t + a ≤ w
    pub to : w ≤ t + b
    pub alive : (p : ℕ) → t ≤ p → p ≤ w → ¬ (Lowest (left p))

  -- a row that is wanted at t, and not settled there, wants its child c at u, where v has the rows' values
  abbrev pub Wants : (ℕ → ℕ → Span K.Value) → Row → ℕ → ℕ → ℕ → Type 0
  Wants v (Test l s m) t c u = ⊥
  Wants v (Not a) t c u = (c ≡ a) × (u ≡ t)
  Wants v (And a b) t c u = ((c ≡ a) ⊎ (c ≡ b)) × (u ≡ t)
  Wants v (Or a b) t c u = ((c ≡ a) ⊎ (c ≡ b)) × (u ≡ t)
  Wants v (Eventually a b d) t c u = (c ≡ d) × (t + a ≤ u) × (u ≤ t + b)
  Wants v (Always a b d) t c u = (c ≡ d) × (t + a ≤ u) × (u ≤ t + b)
  Wants v (Until a b l r) t c u =
      ((c ≡ r) × LeftLasts (v l) a b t u) ⊎
      ((c ≡ l) × (t ≤ u) × ((w : ℕ) × (u ≤ w) × LeftLasts (v l) a b t w × ¬ (Lowest (v r w))))

  -- row and tick, when the last row is asked for at the tick `asked_at`
  pub data Wanted (rows : List Row) (v : ℕ → ℕ → Span K.Value) (asked_at : ℕ) : ℕ → ℕ → Type 0 where
    asked : Wanted rows v asked_at (root rows) asked_at
    passed : (k t c u : ℕ) → Wanted rows v asked_at k t → ¬ (Settled K (v k t)) → Wants v (row_at rows k) t c u → Wanted rows v asked_at c u
