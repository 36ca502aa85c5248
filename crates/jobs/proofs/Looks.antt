-- What a line's pieces tell of it: what it reads at a tick, and where first nothing is known.
use Rattle.std.proofs.Common.{◌≡◌, ℕ, ◌<◌, ◌≤◌, true, List, [], ◌∷◌, get_or, Some, None, Option, unwrap_or, sym, refl, ◌∙◌, subst, arith}
use borrow.Author.Tests.{clash}
use Rattle.pieces.specs.declared.piece.Piece.{Piece}
use Rattle.pieces.specs.Ticks.{Before, Later, Steady, Changed, FirstTick}
use Rattle.pieces.specs.Pieces.{ordered, at_list, Found, Canonical, Lists}
use Rattle.pieces.proofs.Steadies.{before_self}
use Rattle.pieces.proofs.Shows.{found_steady}
use Rattle.pieces.proofs.Chains.{next_change}
use Rattle.meaning.specs.declared.reading.Reading.{Reading}
use Rattle.meaning.specs.Readings.{widest, Within}
use Rattle.runs.specs.States.{State, reading_at, readings_of}
use Rattle.runs.specs.Jobs.{FirstUnknown}
use Rattle.jobs.specs.Holds.{Kept}

-- the pieces are the list of what they say
pub own_list : (ps : List (Piece Reading)) → Canonical ps → Lists (reading_at ps) ps
own_list [] c = absurd c
own_list (p ∷ ps) c = (c, λ t. refl)

pub told : (ps qs : List (Piece Reading)) (t : ℕ) (v : Reading) (o : Option ℕ) → qs ≡ ps → Canonical ps → Found ps t v o →
    Steady (reading_at qs) t v o × Changed (reading_at qs) v o
told ps qs t v o e c h =
    let P : List (Piece Reading) → Type 0 = λ xs. Steady (reading_at xs) t v o × Changed (reading_at xs) v o in
    subst P (sym e) (next_change Reading (reading_at ps) ps t v o (own_list ps c) h)

-- what an ordered list says at a tick is what a line with these pieces reads
reads_list : (P : (ℕ → Reading) → Type 0) (ps : List (Piece Reading)) (ok : ordered ps ≡ true) → P (at_list ps ok) → P (reading_at ps)
reads_list P [] ok h = absurd (clash ok)
reads_list P (p ∷ ps) ok h = h

-- a look-up at t in these pieces, with the next start at n or the end: what is inside the value found is inside up to n
module _ (ps : List (Piece Reading)) (ok : ordered ps ≡ true) (p v : Reading) (o : Option ℕ) (t : ℕ) (f : Found ps t v o) where
  steady : Steady (reading_at ps) t v o
  steady = reads_list (λ f. Steady f t v o) ps ok (found_steady (λ (r : Reading). r) ps ok t v o f)

  pub narrow_here : Within p (reading_at ps t) → Within p v
  narrow_here w = subst (Within p) (sym (steady.1 t (omega arith) (before_self t o steady.0))) w

  pub narrow_step : (to n : ℕ) → n ≡ unwrap_or o to → t < to → Within p v → (t < n) × ((u : ℕ) → t ≤ u → u < n → Within p (reading_at ps u))
  narrow_step to n b h w =
      let k = next_after o n steady.0 b in
      (k.0, λ u a l. subst (Within p) (steady.1 u a (k.1 u l)) w)
    where
      next_after : (o : Option ℕ) (n : ℕ) → Later t o → n ≡ unwrap_or o to → (t < n) × ((u : ℕ) → u < n → Before o u)
      next_after None n l b = (omega arith, λ u a. tt)
      next_after (Some m) n l b = (omega arith, λ u a. omega arith)

-- the line reads the widest somewhere, and first where its list has it
pub some_wide : (ps : List (Piece Reading)) (ok : ordered ps ≡ true) (w : Reading) → w ≡ widest → Kept ps → FirstTick (at_list ps ok) w None → ⊥
some_wide ps ok w e k n = reads_list (λ f. FirstTick f w None) ps ok n 1000000001 (k.1 1000000001 (omega arith) ∙ sym e)

pub first_reads : (ps : List (Piece Reading)) (ok : ordered ps ≡ true) (w : Reading) (t : ℕ) → w ≡ widest → FirstTick (at_list ps ok) w (Some t) → FirstTick (reading_at ps) widest (Some t)
first_reads ps ok w t e h = subst (λ v. FirstTick (reading_at ps) v (Some t)) e (reads_list (λ f. FirstTick f w (Some t)) ps ok h)

pub first_unknown_at : (s : State) (k t : ℕ) (ps : List (Piece Reading)) → get_or s.lines k [] ≡ ps → FirstTick (reading_at ps) widest (Some t) → FirstUnknown (readings_of s) k t
first_unknown_at s k t ps e f = let g = subst (λ qs. FirstTick (reading_at qs) widest (Some t)) (sym e) f in record { here = g.0; before = g.1 }
