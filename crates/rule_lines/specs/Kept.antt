-- What is kept of the input.
use Rattle.std.specs.Prelude.{◌≡◌, ℕ, ◌<◌, min, List, [], map, length, take, slice_index_or}
use Rattle.rule_lines.specs.declared.front.Front.{Front}
use Rattle.rule_lines.specs.declared.names.Names.{Names}
use Rattle.rule_lines.specs.declared.input.Input.{Input}
use Rattle.rule_lines.specs.Lines.{before, behind, has, later_parts, parts}

-- the bytes that a front has
abbrev pub held : {n : ℕ} → Front n → List ℕ
held f = take f.size f.bytes

-- of each of the first 16 parts of the line the first 9 bytes, and nothing where there is no such part
abbrev pub PartsCut : List ℕ → List (List ℕ) → Type 0
PartsCut line cells = (k : ℕ) → k < 16 → slice_index_or cells k [] ≡ take 9 (slice_index_or (parts line) k [])

pub record NamesKept (line : List ℕ) (names : Names) : Type 0 where
  pub cut : PartsCut line (map held names.parts)
  pub ended : names.ended ≡ min 16 (length (later_parts line))

-- the names of the first line so, and of the text behind it the first 1,025 bytes
pub record Heard (bytes : List ℕ) (input : Input) : Type 0 where
  pub names : NamesKept (before 10 bytes) input.names
  pub text : held input.text ≡ take 1025 (behind 10 bytes)
  pub over : input.in_text ≡ has 10 bytes
