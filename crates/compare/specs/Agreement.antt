-- A job, and what the reference has of it, as far as both may be asked.
use Rattle.std.specs.Prelude.{◌≡◌, ℕ, ◌<◌, length, Some, Option}
use Rattle.meaning.specs.declared.reading.Reading.{Reading}
use Rattle.runs.specs.States.{State, readings_of}
use Rattle.runs.specs.Jobs.{FirstUnknown}
use Rattle.jobs.specs.Jobs.{Looked}
use Rattle.reference.specs.declared.forecast.Forecast.{Forecast}
use Rattle.reference.specs.Known.{forecast_reading, FirstWidest, NextDifferent}

module _ (s : State) (f : Forecast) where
  -- both read the same at a tick of the line, and name the same next change
  pub record ReadsAlike (line t : ℕ) : Type 0 where
    pub read : Reading
    pub next : Option ℕ
    pub job : Looked s line t (Some (read, next))
    pub reference : NextDifferent f line t next
    pub same : forecast_reading f line t ≡ record { lower = read.lower; upper = read.upper }

  -- both name the same tick as the line's first of which nothing is known
  pub record KnownAlike (line : ℕ) : Type 0 where
    pub tick : ℕ
    pub job : FirstUnknown (readings_of s) line tick
    pub reference : FirstWidest f line tick

  -- both have the same lines, which read alike at each tick that is kept, and have accepted as many entries
  pub record Agrees : Type 0 where
    pub tally : s.tally ≡ f.tally
    pub lines : length s.lines ≡ f.lines
    pub reads : (line t : ℕ) → line < 3 → line < length s.lines → t < 49 → ReadsAlike line t
    pub known : (line : ℕ) → line < 3 → line < length s.lines → KnownAlike line
