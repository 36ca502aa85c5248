-- Ticks that a step may name as the next change: a tick at which one of the lists that it reads changes, seen from as far before as its window reaches.
use Rattle.std.specs.Prelude.{◌≡◌, ℕ, ◌+◌, List, [], ◌∷◌, ◌⊎◌, Some, None, Option}
use Rattle.pieces.specs.declared.piece.Piece.{Piece}
use Rattle.pieces.specs.Ticks.{Changed}
use Rattle.rules.specs.declared.row.Row.{Row}
use Rattle.rules.specs.declared.row.Row.TheVariants.{Test, Not, And, Or, Eventually, Always, Until}
use Rattle.meaning.specs.Readings.{Readings}
use Rattle.judge.specs.Signals.{Stays}

-- some piece of the list starts at n
abbrev pub Starts : {V : Type 0} → List (Piece V) → ℕ → Type 0
Starts [] n = ⊥
Starts (p ∷ ps) n = (p.start ≡ n) ⊎ Starts ps n

-- a piece of one of the two lists starts at n
abbrev pub EitherStarts : {V W : Type 0} → List (Piece V) → List (Piece W) → ℕ → Type 0
EitherStarts ps qs n = Starts ps n ⊎ Starts qs n

-- o is never, or a tick at which P holds
abbrev pub NeverOr : (ℕ → Type 0) → Option ℕ → Type 0
NeverOr P None = Unit {0}
NeverOr P (Some n) = P n

-- f is as it is at t up to o, and changes there, if o ever comes
abbrev pub ChangesNext : {C : Type 0} → (ℕ → C) → ℕ → Option ℕ → Type 0
ChangesNext f t o = Stays f t o × Changed f (f t) o

-- P holds at the first or the last tick of the window from n + a to n + b
abbrev pub AtEnds : (ℕ → Type 0) → ℕ → ℕ → ℕ → Type 0
AtEnds P a b n = P (n + a) ⊎ P (n + b)

-- the left list changes at n, or one of both at an end of the window
abbrev pub UntilCandidate : {V : Type 0} → List (Piece V) → List (Piece V) → ℕ → ℕ → ℕ → Type 0
UntilCandidate ps qs a b n = Starts ps n ⊎ AtEnds (EitherStarts ps qs) a b n

-- what a row's step at t may name as the next change, by the readings and the lists of the rows before it: a test the next change of its line,
-- and any other row a change of a child's list, seen from as far before as its window reaches
abbrev pub RowCandidate : {V : Type 0} → Readings → (ℕ → List (Piece V)) → Row → ℕ → Option ℕ → Type 0
RowCandidate x lists (Test l s m) t o = ChangesNext (x l) t o
RowCandidate x lists (Not c) t o = NeverOr (Starts (lists c)) o
RowCandidate x lists (And l r) t o = NeverOr (EitherStarts (lists l) (lists r)) o
RowCandidate x lists (Or l r) t o = NeverOr (EitherStarts (lists l) (lists r)) o
RowCandidate x lists (Eventually a b c) t o = NeverOr (AtEnds (Starts (lists c)) a b) o
RowCandidate x lists (Always a b c) t o = NeverOr (AtEnds (Starts (lists c)) a b) o
RowCandidate x lists (Until a b l r) t o = NeverOr (UntilCandidate (lists l) (lists r) a b) o
