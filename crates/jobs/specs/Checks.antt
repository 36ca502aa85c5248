-- An entry on its way: what has been seen to hold of it.
use Rattle.std.specs.Prelude.{◌≡◌, ℕ, ◌<◌, ◌≤◌, true, false, length, ℤ, Some, Ok, Err, Result}
use Rattle.meaning.specs.declared.reading.Reading.{Reading}
use Rattle.meaning.specs.Readings.{ReadingWith, Within}
use Rattle.runs.specs.Bounds.{last_end}
use Rattle.runs.specs.States.{State, readings_of}
use Rattle.runs.specs.Conditions.{FirstFailing}
use Rattle.runs.specs.Jobs.{enter_asks}
use Rattle.jobs.specs.declared.fault.EnterFault.{EnterFault}
use Rattle.jobs.specs.declared.fault.EnterFault.TheVariants.{Sealed, NoSuchLine, BadStretch, NotReading, NotInside, TooManyPieces}
use Rattle.jobs.specs.declared.held.Held.{Held}
use Rattle.jobs.specs.Faults.{enter_fault_number}

-- the job is not sealed, it has the line, and the ticks are a stretch; or the first of these that fails
abbrev pub Barred : Held → ℕ → ℕ → ℕ → Result (Unit {0}) EnterFault → Type 0
Barred h line from to (Ok u) = (h.sealed ≡ false) × (line < h.lines) × (from < to) × (to ≤ last_end)
Barred h line from to (Err Sealed) = h.sealed ≡ true
Barred h line from to (Err NoSuchLine) = (h.sealed ≡ false) × (h.lines ≤ line)
Barred h line from to (Err BadStretch) = (h.sealed ≡ false) × (line < h.lines) × ((from < to) × (to ≤ last_end) → ⊥)
Barred h line from to (Err NotReading) = ⊥
Barred h line from to (Err NotInside) = ⊥
Barred h line from to (Err TooManyPieces) = ⊥

-- the first five conditions hold of the entry of p
pub record Ready (s : State) (line from to : ℕ) (p : Reading) : Type 0 where
  pub unsealed : s.sealed ≡ false
  pub there : line < length s.lines
  pub stretch : (from < to) × (to ≤ last_end)
  pub narrows : (u : ℕ) → from ≤ u → u < to → Within p (readings_of s line u)

-- the reading to be entered, or the number of the condition that fails
abbrev pub Checked : State → ℕ → ℕ → ℕ → ℤ → ℤ → Result Reading EnterFault → Type 0
Checked s line from to lower upper (Ok p) = ReadingWith lower upper (Some p) × Ready s line from to p
Checked s line from to lower upper (Err e) = FirstFailing (enter_asks s line from to lower upper) (Some (enter_fault_number e))
