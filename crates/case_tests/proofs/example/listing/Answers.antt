use Rattle.std.proofs.Common.{List, ℕ, ◌++◌, refl, sym, ap, ◌∙◌, subst, min}
use Rattle.case_lines.specs.Listings.{Listing, lent_cells}
use Rattle.case_tests.proofs.Lendings.{recounted, cut}
use Rattle.case_tests.proofs.example.listing.Goals as goal

pub returns : goal.returns
returns c =
    let lent = c.args.lent in
    let h = c.in_ok-write_listing.ensures.prints in
    subst (Listing (lent_cells 1024 (min lent.rows 64) (min lent.rows 64) (min lent.wants 64) (min lent.marks 64)) c.args.case.now) (sym (h.2 ∙ ap (λ (v : List ℕ). v ++ h.0) c.new-text.ensures.items))
    (recounted c.args.case.now h.0 refl
    (cut _ c.min-rows.result lent.rows refl c.min-rows.ensures) (cut _ c.min-rows.result lent.rows refl c.min-rows.ensures)
    (cut _ c.min-want_cells.result lent.wants refl c.min-want_cells.ensures) (cut _ c.min-mark_cells.result lent.marks refl c.min-mark_cells.ensures) h.1)
