-- What packing a text answers: the bytes of a case that is read back as what the text's lines say, or the first bad line.
use Rattle.std.specs.Prelude.{◌≡◌, ℕ, ◌+◌, ◌≤◌, List, [], ◌∷◌, ◌++◌, length}
use Rattle.cases.specs.Fields.{Leads}
use Rattle.cases.specs.Contents.{Item, Says}
use Rattle.case_text.specs.Pieces.{lines_of}
use Rattle.case_text.specs.Sayings.{LinesSay, Bad, at_first, and_all}

-- the bytes are fields, one behind the other, that say these items
pub data ReadsBack : List ℕ → List Item → Type 0 where
  nothing : {bytes : List ℕ} {items : List Item} → bytes ≡ [] → items ≡ [] → ReadsBack bytes items
  field : {bytes body rest : List ℕ} {tag : ℕ} {i : Item} {items more : List Item} → Leads bytes tag body rest → Says tag body i → items ≡ i ∷ more → ReadsBack rest more → ReadsBack bytes items

pub record Packed (text bytes : List ℕ) : Type 0 where
  pub items : List Item
  pub said : LinesSay at_first (lines_of text) items
  pub back : ReadsBack bytes items
  pub short : length bytes ≤ 16384

-- lines count from 1; those before line n say items or nothing, and line n is bad
pub record StopsAtLine (text : List ℕ) (n : ℕ) : Type 0 where
  pub before : List (List ℕ)
  pub line : List ℕ
  pub behind : List (List ℕ)
  pub items : List Item
  pub split : lines_of text ≡ before ++ (line ∷ behind)
  pub count : n ≡ length before + 1
  pub said : LinesSay at_first before items
  pub bad : Bad (and_all at_first items) line
