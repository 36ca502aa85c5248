-- Every case has one listing.
use Rattle.std.proofs.Common.{List, [], ℕ, Err, Result, refl}
use Rattle.cases.specs.declared.fault.CaseRefusal.{CaseRefusal}
use Rattle.cases.specs.Headings.{OpenedCase, Opens}
use Rattle.cases.specs.Steps.{Sized}
use Rattle.case_lines.specs.Lines.{refusal_line}
use Rattle.case_lines.specs.Listings.{LentCells, Listing, too_long}
use Rattle.case_lines.specs.Laws.{HasOneListing}
use Rattle.case_lines.proofs.OneListing.{one_listing}
use Rattle.case_lines.proofs.SomeListing.{some_listing}

module _ (case : List ℕ) where
  alone : ((lent : LentCells) → (text : List ℕ) × Listing lent case text) → HasOneListing case
  alone some = λ lent. let found = some lent in (found.0, found.1, λ other l. one_listing lent case other found.0 l found.1)

  pub too_long_listed : (e : CaseRefusal) → Sized case (Err e) → HasOneListing case
  too_long_listed e long = alone (λ lent. (refusal_line e, too_long e long refl))

  pub read_listed : (r : Result OpenedCase CaseRefusal) → Opens 1 [] case r → HasOneListing case
  read_listed r opens = alone (λ lent. some_listing lent case r opens)
