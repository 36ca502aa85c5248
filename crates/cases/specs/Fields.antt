-- What a field is: a tag, a length in two bytes, and as many bytes as that.
use Rattle.std.specs.Prelude.{◌≡◌, ℕ, ◌+◌, ◌*◌, ◌<◌, List, ◌∷◌, ◌++◌, length}

-- the bytes begin with a field that has this tag and this body, and rest stands behind it
pub record Leads (bytes : List ℕ) (tag : ℕ) (body rest : List ℕ) : Type 0 where
  pub high : ℕ
  pub low : ℕ
  pub whole : bytes ≡ tag ∷ (high ∷ (low ∷ (body ++ rest)))
  pub size : length body ≡ high * 256 + low

-- there are bytes, and they begin with no field
pub record CutShort (bytes : List ℕ) : Type 0 where
  pub some : 0 < length bytes
  pub none : (tag : ℕ) (body rest : List ℕ) → Leads bytes tag body rest → ⊥
