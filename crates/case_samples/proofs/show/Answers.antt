use Rattle.std.proofs.Common.{ℕ, List, vec_items, subst}
use Rattle.std.proofs.lemmas.Result.{IfOk-weaker}
use Rattle.case_samples.specs.Samples.{SampleListed, listing, bad_line}
use Rattle.case_samples.proofs.show.Goals as goal

pub returns-in-Ok : goal.returns-in-Ok
returns-in-Ok c = IfOk-weaker c.list.result _ _ (λ s l. listing c.in-Ok.case.items c.in-Ok.ensures (subst (λ (v : List ℕ). SampleListed v (vec_items s)) c.as_slice.ensures.value l)) c.list.ensures

pub returns-in-Err : goal.returns-in-Err
returns-in-Err c = IfOk-weaker c.show_fault.result _ _ (λ s f. bad_line c.in-Err.fault.number c.in-Err.ensures f) c.show_fault.ensures
