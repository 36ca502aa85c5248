-- An entry that is made on a job and on the reference.
use Rattle.std.specs.Prelude.{List, Ok, Err, Result}
use Rattle.cases.specs.declared.field.Entry.{Entry}
use Rattle.runs.specs.States.{State}
use Rattle.runs.specs.Jobs.{JobTurn, enter}
use Rattle.jobs.specs.declared.fault.EnterFault.{EnterFault}
use Rattle.jobs.specs.Faults.{enter_reply}
use Rattle.jobs.specs.Entries.{Changes}
use Rattle.reference.specs.declared.forecast.Forecast.{Forecast}
use Rattle.reference.specs.Known.{EntryAnswer, Left}
use Rattle.compare.specs.declared.mismatch.Mismatch.{Mismatch}

-- the job takes the step of the entry, from the state s to z, and answers r; of its cells only the line's own change, and none where r is a fault
pub record JobEnters {X : Type 0} (s : State) (before : List X) (e : Entry) (r : Result (Unit {0}) EnterFault) (z : State) (after : List X) : Type 0 where
  pub turn : JobTurn s (enter e.line e.from e.to e.lower e.upper) (enter_reply r) z
  pub cells : Changes e.line before after r

-- the reference answers r, and comes from f to g
pub record Notes (f : Forecast) (e : Entry) (r : Result (Unit {0}) EnterFault) (g : Forecast) : Type 0 where
  pub answer : EntryAnswer f e r
  pub left : Left f e r g

-- P holds of the answer that is given, or of some answer where the two disagree
abbrev pub Given : Result (Result (Unit {0}) EnterFault) Mismatch → (Result (Unit {0}) EnterFault → Type 0) → Type 0
Given (Ok r) P = P r
Given (Err m) P = (r : Result (Unit {0}) EnterFault) × P r
