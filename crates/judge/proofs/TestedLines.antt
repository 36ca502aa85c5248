-- What a job reads on a line that it lacks.
use Rattle.std.proofs.Common.{◌≡◌, ℕ, ◌≤◌, [], length, Some, None, Option, unwrap_or, sym, ap, ◌∙◌}
use Rattle.std.proofs.lemmas.List.{get_or_past}
use Rattle.pieces.specs.Ticks.{Steady, Changed}
use Rattle.meaning.specs.declared.reading.Reading.{Reading}
use Rattle.meaning.specs.Readings.{widest}
use Rattle.runs.specs.States.{State, reading_at, readings_of}
use Rattle.jobs.specs.Jobs.{Looked}

pub lacked_reads : (s : State) (line u : ℕ) → length s.lines ≤ line → readings_of s line u ≡ widest
lacked_reads s line u h = ap (λ ps. reading_at ps u) (get_or_past s.lines line [] h)

-- a look-up, or the widest reading for ever where the line is lacking, tells what the line reads and when that next changes
abbrev pub ReadsOn : State → ℕ → ℕ → Reading × Option ℕ → Type 0
ReadsOn s line t r = Steady (readings_of s line) t r.0 r.1 × Changed (readings_of s line) r.0 r.1

pub reads_on : (s : State) (line t : ℕ) (o : Option (Reading × Option ℕ)) (w : Reading) → w ≡ widest → Looked s line t o → ReadsOn s line t (unwrap_or o (w, None))
reads_on s line t None w e h = ((tt, λ u a b. e ∙ sym (lacked_reads s line u h)), tt)
reads_on s line t (Some r) w e h = (h.1, h.2)
