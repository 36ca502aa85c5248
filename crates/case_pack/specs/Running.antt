-- What a run of the program leaves in its sink: the case of the text, nothing where a line is bad, and a beginning of the case at an error.
use Rattle.std.specs.Prelude.{◌≡◌, ℕ, List, ◌++◌, Ok, Err, Option, Result}
use Rattle.std.specs.Io.KnownBytes.{Appends}
use Rattle.case_text.specs.declared.fault.BadLine.{BadLine}
use Rattle.case_text.specs.Packs.{Packed, StopsAtLine}

-- nothing was written, or the first bytes of the text's case
pub data BreaksOff (text : List ℕ) (old new : Option (List ℕ)) : Type 0 where
  untouched : new ≡ old → BreaksOff text old new
  begun : (case front rest : List ℕ) → Packed text case → case ≡ front ++ rest → Appends old new front → BreaksOff text old new

abbrev pub PacksInto : {E : Type 0} → List ℕ → Option (List ℕ) → Option (List ℕ) → Result (Result (Unit {0}) BadLine) E → Type 0
PacksInto text old new (Ok (Ok u)) = (case : List ℕ) × Packed text case × Appends old new case
PacksInto text old new (Ok (Err b)) = StopsAtLine text b.number × (new ≡ old)
PacksInto text old new (Err e) = BreaksOff text old new
