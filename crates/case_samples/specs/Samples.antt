-- What is printed of a sample text: the listing of the case that it packs into, or its first bad line.
use Rattle.std.specs.Prelude.{◌≡◌, ℕ, List, [], ◌∷◌, ◌++◌, codes, decimal}
use Rattle.case_text.specs.Packs.{Packed, StopsAtLine}
use Rattle.case_lines.specs.Listings.{Listing, lent_cells}

abbrev pub SampleListed : List ℕ → List ℕ → Type 0
SampleListed case shown = Listing (lent_cells 1024 1024 1024 1024 256) case shown

abbrev pub FaultShown : ℕ → List ℕ → Type 0
FaultShown n shown = shown ≡ codes "bad line " ++ (decimal n ++ (10 ∷ []))

pub data Shown (text shown : List ℕ) : Type 0 where
  listing : (case : List ℕ) → Packed text case → SampleListed case shown → Shown text shown
  bad_line : (n : ℕ) → StopsAtLine text n → FaultShown n shown → Shown text shown
