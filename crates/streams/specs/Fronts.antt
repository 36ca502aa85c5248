-- What a write leaves in a sink, at an error too.
use Rattle.std.specs.Prelude.{◌≡◌, ℕ, List, ◌++◌, Ok, Err, Option, Result}
use Rattle.std.specs.Io.KnownBytes.{Appends}

-- all the bytes are appended at Ok, and a beginning of them at Err
abbrev pub WritesFront : {E : Type 0} → Option (List ℕ) → Option (List ℕ) → List ℕ → Result (Unit {0}) E → Type 0
WritesFront old new bytes (Ok u) = Appends old new bytes
WritesFront old new bytes (Err e) = (front : List ℕ) × (rest : List ℕ) × (bytes ≡ front ++ rest) × Appends old new front

-- a text that has the property is appended at Ok, and a beginning of each such text at Err
abbrev pub WritesSome : {E : Type 0} → Option (List ℕ) → Option (List ℕ) → (List ℕ → Type 0) → Result (Unit {0}) E → Type 0
WritesSome old new P (Ok u) = (text : List ℕ) × P text × Appends old new text
WritesSome old new P (Err e) = (text : List ℕ) → P text → (front : List ℕ) × (rest : List ℕ) × (text ≡ front ++ rest) × Appends old new front
