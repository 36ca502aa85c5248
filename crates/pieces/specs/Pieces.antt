-- Piece lists, the function of ticks that one stands for, and the one list that is kept of such a function.
use Rattle.std.specs.Prelude.{◌≡◌, ℕ, zero, suc, ◌+◌, ◌<◌, ◌≤◌, Bool, true, false, cond, List, [], ◌∷◌, Some, None, Option, ◌==◌, ◌≢◌, nat_le, nat_lt, length, slice_index_or}
use borrow.Author.Tests.{clash}
use Rattle.pieces.specs.declared.piece.Piece.{Piece}

module _ {C : Type 0} where
  -- the value at t, where v is in force before the pieces
  abbrev pub at_from : C → List (Piece C) → ℕ → C
  at_from v [] t = v
  at_from v (p ∷ ps) t = cond (nat_le p.start t) (at_from p.value ps t) v

  -- the first start above t
  abbrev pub next_from : List (Piece C) → ℕ → Option ℕ
  next_from [] t = None
  next_from (p ∷ ps) t = cond (nat_le p.start t) (next_from ps t) (Some p.start)

  -- how many pieces at the front start before t
  abbrev pub count_before : ℕ → List (Piece C) → ℕ
  count_before t [] = 0
  count_before t (p ∷ ps) = cond (nat_lt p.start t) (suc (count_before t ps)) 0

  -- the start of the piece at k, if there is one
  abbrev pub start_of : List (Piece C) → ℕ → Option ℕ
  start_of [] k = None
  start_of (p ∷ ps) zero = Some p.start
  start_of (p ∷ ps) (suc k) = start_of ps k

  -- the value of the last piece, and its start
  abbrev pub last_from : C → List (Piece C) → C
  last_from v [] = v
  last_from v (p ∷ ps) = last_from p.value ps

  abbrev pub last_start : ℕ → List (Piece C) → ℕ
  last_start s [] = s
  last_start s (p ∷ ps) = last_start p.start ps

  -- the starts rise above s
  abbrev pub ascending : ℕ → List (Piece C) → Bool
  ascending s [] = true
  ascending s (q ∷ qs) = cond (nat_lt s q.start) (ascending q.start qs) false

  -- there is a first piece, it starts at 0, and the starts rise
  abbrev pub ordered : List (Piece C) → Bool
  ordered [] = false
  ordered (p ∷ ps) = cond (p.start == 0) (ascending 0 ps) false

  -- an ordered list as a function of ticks
  abbrev pub at_list : (ps : List (Piece C)) → ordered ps ≡ true → ℕ → C
  at_list [] e t = absurd (clash e)
  at_list (p ∷ ps) e t = at_from p.value ps t

  -- an ordered list has v at t, and its next start above t is o
  abbrev pub Found : List (Piece C) → ℕ → C → Option ℕ → Type 0
  Found [] t v o = ⊥
  Found (p ∷ ps) t v o = (v ≡ at_from p.value ps t) × (o ≡ next_from ps t)

  -- the piece at k is the one that holds t: it starts at t or before, and the piece behind it, if there is one, starts after t
  pub record HoldsTick (ps : List (Piece C)) (t k : ℕ) : Type 0 where
    pub within : k < length ps
    pub from : (d : Piece C) → (slice_index_or ps k d).start ≤ t
    pub behind : (d : Piece C) → k + 1 < length ps → t < (slice_index_or ps (k + 1) d).start

  -- starts rise, and neighbours differ
  abbrev pub Rising : Piece C → List (Piece C) → Type 0
  Rising p [] = Unit {0}
  Rising p (q ∷ qs) = (p.start < q.start) × (p.value ≢ q.value) × Rising q qs

  abbrev pub Canonical : List (Piece C) → Type 0
  Canonical [] = ⊥
  Canonical (p ∷ ps) = (p.start ≡ 0) × Rising p ps

  -- the pieces say what f says, at every tick
  abbrev pub Represents : List (Piece C) → (ℕ → C) → Type 0
  Represents [] f = ⊥
  Represents (p ∷ ps) f = (t : ℕ) → at_from p.value ps t ≡ f t

  -- ps is the list of f
  abbrev pub Lists : (ℕ → C) → List (Piece C) → Type 0
  Lists f ps = Canonical ps × Represents ps f

  -- p and ps are how the list of f begins, and there is more of it: they say what f says up to some tick behind the last start, and there f is another value
  pub record Begun (f : ℕ → C) (p : Piece C) (ps : List (Piece C)) : Type 0 where
    pub first : p.start ≡ 0
    pub rising : Rising p ps
    pub until : ℕ
    pub behind : last_start p.start ps < until
    pub agrees : (t : ℕ) → t < until → at_from p.value ps t ≡ f t
    pub differs : last_from p.value ps ≡ f until → ⊥

  abbrev pub ListBegins : (ℕ → C) → List (Piece C) → Type 0
  ListBegins f [] = Unit {0}
  ListBegins f (p ∷ ps) = Begun f p ps
