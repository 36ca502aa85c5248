-- The listing of a whole case.
use Rattle.std.proofs.Common.{◌≡◌, ℕ, ◌+◌, List, [], Ok, Err, Result, sym, refl, subst}
use Rattle.runs.specs.States.{State, opened, line_count}
use Rattle.cases.specs.declared.fault.CaseRefusal.{CaseRefusal}
use Rattle.cases.specs.Headings.{OpenedCase, Opens}
use Rattle.cases.specs.Steps.{Sized}
use Rattle.cases.proofs.OneReading.{one_opening}
use Rattle.cases.proofs.OpenedRules.{heading_apart, same_heading}
use Rattle.case_lines.specs.Listings.{ListsFields, LentCells, Listing, too_long, no_heading, listed}
use Rattle.case_lines.proofs.OneListing.{sized_one}

-- a heading read from the start of the case
pub whole : (case : List ℕ) (n : ℕ) (bytes : List ℕ) → n ≡ 0 → bytes ≡ case → (x : Result OpenedCase CaseRefusal) → Opens (n + 1) [] bytes x → Opens 1 [] case x
whole case n bytes first all x o = subst (λ (v : List ℕ). Opens 1 [] v x) all (subst (λ (i : ℕ). Opens (i + 1) [] bytes x) first o)

-- a listing behind a heading that is read is what the fields behind it print
pub listed_only : (lent : LentCells) (case text : List ℕ) (o : OpenedCase) → Sized case (Ok tt) → Opens 1 [] case (Ok o) → Listing lent case text → ListsFields lent.cells o.rows o.next (opened (line_count o.lines lent.pieces)) o.rest text
listed_only lent case text o sized opens (too_long e p q) = absurd (sized_one case e sized p)
listed_only lent case text o sized opens (no_heading e p g q) = absurd (heading_apart o e (one_opening 1 [] case (Ok o) (Err e) opens g))
listed_only lent case text o sized opens (listed i p g l) =
    subst (λ (x : OpenedCase). ListsFields lent.cells x.rows x.next (opened (line_count x.lines lent.pieces)) x.rest text) (same_heading i o (one_opening 1 [] case (Ok i) (Ok o) g opens)) l

-- and what the fields behind such a heading print is a listing
module _ (lent : LentCells) (case : List ℕ) (o : OpenedCase) (sized : Sized case (Ok tt)) (opens : Opens 1 [] case (Ok o)) (s : State) (is : s ≡ opened (line_count o.lines lent.pieces)) where
  pub begun_lists : (text more : List ℕ) → ListsFields lent.cells o.rows o.next s o.rest more → text ≡ more → Listing lent case text
  begun_lists text more l e = listed o sized opens (subst (λ (v : List ℕ). ListsFields lent.cells o.rows o.next (opened (line_count o.lines lent.pieces)) o.rest v) (sym e) (subst (λ (z : State). ListsFields lent.cells o.rows o.next z o.rest more) is l))

  pub lists_begun : (text : List ℕ) → Listing lent case text → (more : List ℕ) × ListsFields lent.cells o.rows o.next s o.rest more × (text ≡ more)
  lists_begun text l = (text, subst (λ (z : State). ListsFields lent.cells o.rows o.next z o.rest text) (sym is) (listed_only lent case text o sized opens l), refl)
