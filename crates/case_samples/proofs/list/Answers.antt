use Rattle.std.proofs.Common.{List, ℕ, ◌++◌, sym, ap, ◌∙◌, subst}
use Rattle.case_samples.specs.Samples.{SampleListed}
use Rattle.case_samples.proofs.list.Goals as goal

pub returns : goal.returns
returns c =
    let h = c.in_ok-write_listing.ensures.prints in
    subst (SampleListed c.args.case.now) (sym (h.2 ∙ ap (λ (v : List ℕ). v ++ h.0) c.new-shown.ensures.items)) h.1
