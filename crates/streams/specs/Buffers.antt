-- Lines that wait in a buffer until they are sent to a sink.
use Rattle.std.specs.Prelude.{◌≡◌, ℕ, List, ◌++◌, take, Ok, Err, Option, Result}
use Rattle.std.specs.Io.KnownBytes.{Appends}
use Rattle.streams.specs.declared.buffer.LineBuffer.{LineBuffer}

abbrev pub buffered : LineBuffer → List ℕ
buffered b = take b.size b.bytes

-- at Ok what waited before, with the line behind it, is sent or waits; at Err a beginning of what waited before is sent
abbrev pub PutsLine : {E : Type 0} → Option (List ℕ) → Option (List ℕ) → List ℕ → List ℕ → List ℕ → Result (Unit {0}) E → Type 0
PutsLine old new before line after (Ok u) = (sent : List ℕ) × Appends old new sent × (before ++ line ≡ sent ++ after)
PutsLine old new before line after (Err e) = (front : List ℕ) × (rest : List ℕ) × (before ≡ front ++ rest) × Appends old new front
