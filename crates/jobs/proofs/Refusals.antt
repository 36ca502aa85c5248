-- The conditions of an entry, from the first that fails.
use Rattle.std.proofs.Common.{◌≡◌, ℕ, ◌<◌, ◌≤◌, List, [], length, get_or, take, drop, ℤ, ◌≤ℤ◌, Some, None, Ok, Err, Option, sym, refl, ◌∙◌, subst, inl, arith}
use borrow.Author.Tests.{clash}
use Rattle.rules.specs.Rows.{NumberFits}
use Rattle.pieces.specs.declared.piece.Piece.{Piece}
use Rattle.meaning.specs.declared.reading.Reading.{Reading}
use Rattle.meaning.specs.Readings.{ReadingEnds, ReadingWith, Within}
use Rattle.meaning.proofs.Readings.{reading_same}
use Rattle.runs.specs.States.{State, reading_at, readings_of}
use Rattle.runs.specs.Conditions.{Condition, AllHold, FirstFailing}
use Rattle.runs.proofs.Conditions.{none_failing, failing_behind}
use Rattle.runs.specs.Jobs.{Narrows, FitsLine, enter_asks}
use Rattle.jobs.specs.declared.fault.EnterFault.{EnterFault}
use Rattle.jobs.specs.declared.fault.EnterFault.TheVariants.{Sealed, NoSuchLine, BadStretch, NotReading, NotInside, TooManyPieces}
use Rattle.jobs.specs.declared.held.Held.{Held}
use Rattle.jobs.specs.Faults.{enter_fault_number}
use Rattle.jobs.specs.Lines.{held_state}
use Rattle.jobs.specs.Checks.{Barred, Ready}
use Rattle.jobs.proofs.Parts.{length_lines}

-- numbers have one reading
pub one_reading : (lower upper : ℤ) (p q : Reading) → ReadingWith lower upper (Some p) → ReadingWith lower upper (Some q) → p ≡ q
one_reading lower upper p q r t = reading_same p q (r.0 ∙ sym t.0) (r.1 ∙ sym t.1)

pub ends_of : (lower upper : ℤ) (p : Reading) → ReadingWith lower upper (Some p) → ReadingEnds lower upper
ends_of lower upper p r = (
  subst NumberFits r.0 p.bottom,
  subst NumberFits r.1 p.top,
  subst (λ z. z ≤ℤ upper) r.0 (subst (λ z. p.lower ≤ℤ z) r.1 p.ordered),
)

-- the numbers as they were passed
pub reads_as : (l u lower upper : ℤ) (o : Option Reading) → l ≡ lower → u ≡ upper → ReadingWith l u o → ReadingWith lower upper o
reads_as l u lower upper o e f r = subst (λ z. ReadingWith z upper o) e (subst (λ z. ReadingWith l z o) f r)

pub fails_as : (s : State) (line from to : ℕ) (l u lower upper : ℤ) (o : Option ℕ) → l ≡ lower → u ≡ upper → FirstFailing (enter_asks s line from to l u) o → FirstFailing (enter_asks s line from to lower upper) o
fails_as s line from to l u lower upper o e f r =
    subst (λ z. FirstFailing (enter_asks s line from to z upper) o) e (subst (λ z. FirstFailing (enter_asks s line from to l z) o) f r)

-- an entry into a job
module _ (cells : List (Piece Reading)) (h : Held) (line from to : ℕ) (lower upper : ℤ) where
  abbrev s : State
  s = held_state cells h

  abbrev asked : List Condition
  asked = enter_asks s line from to lower upper

  abbrev Fails : EnterFault → Type 0
  Fails e = FirstFailing asked (Some (enter_fault_number e))

  pub barred_fails : (e : EnterFault) → Barred h line from to (Err e) → Fails e
  barred_fails Sealed b = inl (λ f. clash (sym f ∙ b), refl)
  barred_fails NoSuchLine b = failing_behind (take 1 asked) (drop 1 asked) (Some 2) (b.0, tt) (inl (λ l. omega (arith, b.1, length_lines cells h), refl))
  barred_fails BadStretch b = failing_behind (take 2 asked) (drop 2 asked) (Some 3) (b.0, (omega (arith, b.1, length_lines cells h), tt)) (inl (b.2, refl))
  barred_fails NotReading b = absurd b
  barred_fails NotInside b = absurd b
  barred_fails TooManyPieces b = absurd b

  module _ (b : Barred h line from to (Ok tt)) where
    there : line < length s.lines
    there = omega (arith, b.1, length_lines cells h)

    pub fails_4 : (ReadingEnds lower upper → ⊥) → Fails NotReading
    fails_4 n = failing_behind (take 3 asked) (drop 3 asked) (Some 4) (b.0, (there, ((b.2, b.3), tt))) (inl (n, refl))

    module _ (p : Reading) (r : ReadingWith lower upper (Some p)) (ps : List (Piece Reading)) (is : get_or s.lines line [] ≡ ps) where
      -- the reading is inside what the line reads on the stretch
      abbrev Inside : List (Piece Reading) → Type 0
      Inside xs = (u : ℕ) → from ≤ u → u < to → Within p (reading_at xs u)

      pub fails_5 : (Inside ps → ⊥) → Fails NotInside
      fails_5 n =
          failing_behind (take 4 asked) (drop 4 asked) (Some 5) (b.0, (there, ((b.2, b.3), (ends_of lower upper p r, tt)))) (inl (λ all. n (subst Inside is (all p r)), refl))

      pub is_ready : Inside ps → Ready s line from to p
      is_ready i = record { unsealed = b.0; there = there; stretch = (b.2, b.3); narrows = subst Inside (sym is) i }

-- an entry for which all but the last condition hold
module _ (s : State) (line from to : ℕ) (lower upper : ℤ) (p : Reading) (r : ReadingWith lower upper (Some p)) (ready : Ready s line from to p) where
  narrow : Narrows s line from to lower upper
  narrow q t u a b = subst (λ z. Within z (readings_of s line u)) (one_reading lower upper p q r t) (ready.narrows u a b)

  abbrev asks_of : List Condition
  asks_of = enter_asks s line from to lower upper

  first_five : AllHold (take 5 asks_of)
  first_five = (ready.unsealed, (ready.there, (ready.stretch, (ends_of lower upper p r, (narrow, tt)))))

  pub fails_6 : (FitsLine s line from to lower upper → ⊥) → FirstFailing asks_of (Some (enter_fault_number TooManyPieces))
  fails_6 n = failing_behind (take 5 asks_of) (drop 5 asks_of) (Some 6) first_five (inl (n, refl))

  pub all_pass : FitsLine s line from to lower upper → FirstFailing asks_of None
  all_pass room = failing_behind (take 5 asks_of) (drop 5 asks_of) None first_five (none_failing (drop 5 asks_of) (room, tt))
