-- What is kept of a line holds in one way, so that it can be had from what a job promises.
use Rattle.std.proofs.Common.{ℕ, ◌<◌, List, ap}
use mathlib.Core.Logic.{∥∥₁_elim}
use mathlib.Core.HLevel.{Discrete, hedberg, ×_prop, Π_prop}
use lib.IntN.{ℤ_discrete}
use Rattle.pieces.specs.declared.piece.Piece.{Piece}
use Rattle.pieces.proofs.Propositions.{canonical_prop}
use Rattle.meaning.specs.declared.reading.Reading.{Reading}
use Rattle.meaning.specs.Readings.{widest}
use Rattle.meaning.proofs.Readings.{reading_same}
use Rattle.runs.specs.States.{reading_at}
use Rattle.jobs.specs.declared.held.Held.{Held}
use Rattle.jobs.specs.Lines.{held_pieces}
use Rattle.jobs.specs.Holds.{Kept, AllKept, HeldSound}

reading_discrete : Discrete Reading
reading_discrete p q = elim (ℤ_discrete p.lower q.lower) [
  | yes e ↦ elim (ℤ_discrete p.upper q.upper) [ yes f ↦ yes (reading_same p q e f) | no n ↦ no (λ s. n (ap (λ (r : Reading). r.upper) s)) ]
  | no n ↦ no (λ s. n (ap (λ (r : Reading). r.lower) s))
]

kept_prop : (ps : List (Piece Reading)) → IsProp (Kept ps)
kept_prop ps = ×_prop (canonical_prop ps) (Π_prop (λ t. Π_prop (λ h. hedberg reading_discrete (reading_at ps t) widest)))

pub kept_at : (cells : List (Piece Reading)) (h : Held) → HeldSound cells h → (k : ℕ) → k < h.lines → Kept (held_pieces cells h k)
kept_at cells h s k l = ∥∥₁_elim s.kept (kept_prop (held_pieces cells h k)) (λ (all : AllKept cells h). all k l)
