-- What is known of lines, tick by tick, and what an entry is answered.
use Rattle.std.specs.Prelude.{◌≡◌, ℕ, ◌+◌, ◌<◌, ◌≤◌, min, Bool, true, false, List, pos, negsuc, ◌≤ℤ◌, Some, None, Option, MatchOption, Ok, Err, Result, ◌≢◌, slice_get, slice_index_or}
use Rattle.reference.specs.declared.ends.Ends.{Ends}
use Rattle.reference.specs.declared.forecast.Forecast.{Forecast}
use Rattle.cases.specs.declared.field.Entry.{Entry}
use Rattle.cases.specs.Contents.{Covers}
use Rattle.jobs.specs.declared.fault.EnterFault.{EnterFault}
use Rattle.jobs.specs.declared.fault.EnterFault.TheVariants.{Sealed, NoSuchLine, BadStretch, NotReading, NotInside, TooManyPieces}

-- the entry's reading
abbrev pub ends_of : Entry → Ends
ends_of e = record { lower = e.lower; upper = e.upper }

-- the reading of a line of which nothing is known
abbrev pub widest_ends : Ends
widest_ends = record { lower = negsuc 499999; upper = pos 500000 }

-- p is inside q
pub record EndsWithin (p q : Ends) : Type 0 where
  pub lower : q.lower ≤ℤ p.lower
  pub upper : p.upper ≤ℤ q.upper

-- the reading at a tick that is kept, if the line is
abbrev pub kept : Option (List Ends) → ℕ → Ends
kept (Some readings) t = slice_index_or readings t (record { lower = pos 0; upper = pos 0 })
kept None t = widest_ends

-- what a line reads at a tick: from tick 48 on always the same, and nothing is known of a line that is not kept
abbrev pub forecast_reading : Forecast → ℕ → ℕ → Ends
forecast_reading f line t = kept (slice_get f.readings line) (min t 48)

-- a forecast of so many lines, three at most, of which nothing is known
pub record NewForecast (lines : ℕ) (f : Forecast) : Type 0 where
  pub few : f.lines ≡ min lines 3
  pub none_yet : f.tally ≡ 0
  pub unsealed : f.sealed ≡ false
  pub unknown : (line t : ℕ) → forecast_reading f line t ≡ widest_ends

-- there is a first tick before the end, and no tick lies behind the last
abbrev pub EntryStretch : Entry → Type 0
EntryStretch e = (e.from < e.to) × (e.to ≤ 1000000001)

-- the two numbers are the ends of a reading
abbrev pub Readable : Entry → Type 0
Readable e = EndsWithin (ends_of e) widest_ends × (e.lower ≤ℤ e.upper)

-- the reading is inside the standing one at each tick of the stretch that is kept
abbrev pub EntryNarrows : Forecast → Entry → Type 0
EntryNarrows f e = (t : ℕ) → e.from ≤ t → t < e.to → t < 49 → EndsWithin (ends_of e) (forecast_reading f e.line t)

-- nothing stands against the entry, or what is the first thing to do so
abbrev pub EntryAnswer : Forecast → Entry → Result (Unit {0}) EnterFault → Type 0
EntryAnswer f e (Ok u) = (f.sealed ≡ false) × (e.line < f.lines) × EntryStretch e × Readable e × EntryNarrows f e
EntryAnswer f e (Err Sealed) = f.sealed ≡ true
EntryAnswer f e (Err NoSuchLine) = (f.sealed ≡ false) × (f.lines ≤ e.line)
EntryAnswer f e (Err BadStretch) = (f.sealed ≡ false) × (e.line < f.lines) × (EntryStretch e → ⊥)
EntryAnswer f e (Err NotReading) = (f.sealed ≡ false) × (e.line < f.lines) × EntryStretch e × (Readable e → ⊥)
EntryAnswer f e (Err NotInside) = (f.sealed ≡ false) × (e.line < f.lines) × EntryStretch e × Readable e × (EntryNarrows f e → ⊥)
EntryAnswer f e (Err TooManyPieces) = ⊥

-- the readings of the lines that are kept are the entry's where it covers them, and elsewhere as they were
pub record SetsInForecast (f : Forecast) (e : Entry) (g : Forecast) : Type 0 where
  pub inside : (line t : ℕ) → line < 3 → t < 49 → Covers e line t → forecast_reading g line t ≡ ends_of e
  pub outside : (line t : ℕ) → t < 49 → (Covers e line t → ⊥) → forecast_reading g line t ≡ forecast_reading f line t

-- setting a reading leaves all else alone
pub record OthersKept (f g : Forecast) : Type 0 where
  pub lines : g.lines ≡ f.lines
  pub sealed : g.sealed ≡ f.sealed
  pub tally : g.tally ≡ f.tally

-- an entry is set and counted, and the job stays open with its lines; one that is turned down changes nothing
abbrev pub Left : Forecast → Entry → Result (Unit {0}) EnterFault → Forecast → Type 0
Left f e (Ok u) g = (g.lines ≡ f.lines) × (g.sealed ≡ f.sealed) × (g.tally ≡ min (f.tally + 1) 4294967295) × SetsInForecast f e g
Left f e (Err fault) g = g ≡ f

-- the first tick with the widest reading: tick 48, where there is none before it
pub record FirstWidest (f : Forecast) (line t : ℕ) : Type 0 where
  pub within : t ≤ 48
  pub here : t < 48 → forecast_reading f line t ≡ widest_ends
  pub before : (k : ℕ) → k < t → forecast_reading f line k ≢ widest_ends

-- the first tick from t on at which the line reads otherwise than at t, if there is one
abbrev pub NextDifferent : Forecast → ℕ → ℕ → Option ℕ → Type 0
NextDifferent f line t o =
    MatchOption o ((k : ℕ) → t ≤ k → k < 49 → forecast_reading f line k ≡ forecast_reading f line t) (λ u. (t ≤ u) × (u < 49) × (forecast_reading f line u ≢ forecast_reading f line t) × ((k : ℕ) → t ≤ k → k < u → forecast_reading f line k ≡ forecast_reading f line t))
