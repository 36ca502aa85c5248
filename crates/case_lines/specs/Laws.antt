-- What holds of every case: its listing leaves no choice, and there is one.
use Rattle.std.specs.Prelude.{◌≡◌, ℕ, List, [], Result}
use Rattle.cases.specs.declared.fault.CaseRefusal.{CaseRefusal}
use Rattle.cases.specs.Headings.{OpenedCase, Opens}
use Rattle.case_lines.specs.Listings.{LentCells, Listing}

abbrev pub OneListing : Type 0
OneListing = (lent : LentCells) (case text other : List ℕ) → Listing lent case text → Listing lent case other → text ≡ other

-- once the fields up to the rule have an answer, which reading gives for the bytes of every case
abbrev pub SomeListing : Type 0
SomeListing = (lent : LentCells) (case : List ℕ) (r : Result OpenedCase CaseRefusal) → Opens 1 [] case r → (text : List ℕ) × Listing lent case text

-- whatever cells are lent, one text is the listing of the case, and no other is
abbrev pub HasOneListing : List ℕ → Type 0
HasOneListing case = (lent : LentCells) → (text : List ℕ) × Listing lent case text × ((other : List ℕ) → Listing lent case other → other ≡ text)
