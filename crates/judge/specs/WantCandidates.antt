-- Ticks that a step of where a child is wanted may name as the next change.
use Rattle.std.specs.Prelude.{◌≡◌, ℕ, ◌+◌, Bool, true, List, ◌⊎◌, None, Option}
use Rattle.pieces.specs.declared.piece.Piece.{Piece}
use Rattle.rules.specs.declared.row.Row.{Row}
use Rattle.rules.specs.declared.row.Row.TheVariants.{Test, Not, And, Or, Eventually, Always, Until}
use Rattle.judge.specs.Candidates.{Starts, NeverOr}

-- r is s, or a tick at which P holds
abbrev pub FromOr : (ℕ → Type 0) → ℕ → ℕ → Type 0
FromOr P s r = (r ≡ s) ⊎ P r

-- asks, dead, need: the ticks at which a list changes that says where the row asks, where its left child can only be lowest, and where its right one can be more
module _ (asks dead : ℕ → Type 0) (a b limit : ℕ) where
  -- n is the first tick that is seen from p, which is 0 or a tick at which the row's asking or its left child changes
  abbrev pub FirstSeen : ℕ → Type 0
  FirstSeen n = (p : ℕ) × ((n ≡ p + a) × ((p ≡ 0) ⊎ (asks p ⊎ dead p)))

  -- n is the last tick that is seen from q, which is the limit or a tick at which the row's asking changes
  abbrev pub LastSeen : ℕ → Type 0
  LastSeen n = (q : ℕ) × ((n ≡ q + b) × ((q ≡ limit) ⊎ asks q))

  -- of the one child of a row, or of an until's right child
  abbrev pub RightCandidate : ℕ → Type 0
  RightCandidate n = dead n ⊎ (FirstSeen n ⊎ LastSeen n)

  -- of an until's left child: also where the row begins to ask, or where its right child changes, now or b ticks on
  abbrev pub LeftCandidate : (ℕ → Type 0) → ℕ → Type 0
  LeftCandidate need n = RightCandidate n ⊎ (asks n ⊎ (need n ⊎ (dead (n + b) ⊎ need (n + b))))

-- where w is the first dead or needed tick: w itself, if it is dead; the tick b ticks before it; a change of what is dead or needed; or the end
abbrev pub AheadCandidate : (ℕ → Bool) → (ℕ → Type 0) → (ℕ → Type 0) → ℕ → ℕ → ℕ → ℕ → Type 0
AheadCandidate gone dead need b end w n = ((n ≡ w) × (gone w ≡ true)) ⊎ ((n + b ≡ w) ⊎ ((dead n ⊎ need n) ⊎ (n ≡ end)))

-- of the child c of a row whose asking changes at most at `asks`, where `lists` has the list of each row: a test has no child, and no change is named
abbrev pub ChildCandidate : {V : Type 0} → (ℕ → List (Piece V)) → Row → ℕ → ℕ → (ℕ → Type 0) → Option ℕ → Type 0
ChildCandidate lists (Test l s m) c limit asks o = o ≡ None
ChildCandidate lists (Not d) c limit asks o = NeverOr (RightCandidate asks (λ n. ⊥) 0 0 limit) o
ChildCandidate lists (And l r) c limit asks o = NeverOr (RightCandidate asks (λ n. ⊥) 0 0 limit) o
ChildCandidate lists (Or l r) c limit asks o = NeverOr (RightCandidate asks (λ n. ⊥) 0 0 limit) o
ChildCandidate lists (Eventually a b d) c limit asks o = NeverOr (RightCandidate asks (λ n. ⊥) a b limit) o
ChildCandidate lists (Always a b d) c limit asks o = NeverOr (RightCandidate asks (λ n. ⊥) a b limit) o
ChildCandidate lists (Until a b l r) c limit asks o = (c ≡ r → NeverOr (RightCandidate asks (Starts (lists l)) a b limit) o) × ((c ≡ r → ⊥) → NeverOr (LeftCandidate asks (Starts (lists l)) a b limit (Starts (lists r))) o)
