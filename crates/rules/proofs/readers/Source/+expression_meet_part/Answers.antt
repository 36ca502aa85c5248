use Rattle.std.proofs.Common.{refl, ◌∙◌}
use Rattle.rules.specs.Grammar.{span}
use Rattle.rules.specs.Readers.{NoEnd}
use Rattle.rules.proofs.Places.{at_end, at_token}
use Rattle.rules.proofs.Growth.{stop_e, end_e, over_e, grow_e, fail_e, stop_m, end_m, over_m, grow_m, fail_m, p_end, p_rest, p_not_stop, p_not, p_window, p_modal_stop, p_modal, p_open, p_no_end, p_brackets, p_until_window, p_second_stop, p_no_close, p_until}
use Rattle.rules.proofs.Stopping.{stopped}
use Rattle.rules.proofs.readers.Source.+expression_meet_part.Goals as goal

pub expression-returns-in_err-left : goal.expression-returns-in_err-left
expression-returns-in_err-left t c = stopped _ _ _ _ c.from_residual.ensures.1 (fail_e c.in_err-left.ensures)

pub expression-returns-in_err-right : goal.expression-returns-in_err-right
expression-returns-in_err-right t c =
    let h = rw c.loop-table-test.true at c.has.ensures in
    stopped _ _ _ _ c.from_residual-in_err-right.ensures.1 (stop_e c.in_ok-left.ensures c.loop-table.invariant h.there h.is c.in_err-right.ensures)

pub expression-loop-table-preserved : goal.expression-loop-table-preserved
expression-loop-table-preserved t c =
    let h = rw c.loop-table-test.true at c.has.ensures in
    grow_e c.loop-table.invariant h.there h.is c.in_ok-right.ensures c.push-root.ensures

pub expression-returns : goal.expression-returns
expression-returns t c =
    let h = rw c.loop-table-test.false at c.has.ensures in
    end_e c.in_ok-left.ensures c.loop-table.invariant (over_e _ c.loop-table.invariant.over h)

pub meet-returns-in_err-left : goal.meet-returns-in_err-left
meet-returns-in_err-left t c = stopped _ _ _ _ c.from_residual.ensures.1 (fail_m c.in_err-left.ensures)

pub meet-returns-in_err-right : goal.meet-returns-in_err-right
meet-returns-in_err-right t c =
    let h = rw c.loop-table-test.true at c.has.ensures in
    stopped _ _ _ _ c.from_residual-in_err-right.ensures.1 (stop_m c.in_ok-left.ensures c.loop-table.invariant h.there h.is c.in_err-right.ensures)

pub meet-loop-table-preserved : goal.meet-loop-table-preserved
meet-loop-table-preserved t c =
    let h = rw c.loop-table-test.true at c.has.ensures in
    grow_m c.loop-table.invariant h.there h.is c.in_ok-right.ensures c.push-root.ensures

pub meet-returns : goal.meet-returns
meet-returns t c =
    let h = rw c.loop-table-test.false at c.has.ensures in
    end_m c.in_ok-left.ensures c.loop-table.invariant (over_m _ h)

pub part-returns-in_err-token : goal.part-returns-in_err-token
part-returns-in_err-token t c = stopped _ _ _ _ c.from_residual.ensures.1 (p_end _ _ _ c.requires.within c.in_err-token.ensures.0 c.in_err-token.ensures.1)

pub part-returns-in_default : goal.part-returns-in_default
part-returns-in_default t c = p_rest _ _ _ c.in_ok-token.ensures c.in_default.not-Name c.in_default.not-Not c.in_default.not-Eventually c.in_default.not-Always c.in_default.not-Open

pub part-returns-in_err-child-in-Not : goal.part-returns-in_err-child-in-Not
part-returns-in_err-child-in-Not t c = stopped _ _ _ _ c.from_residual-in_err-child-in-Not.ensures.1 (p_not_stop _ _ _ c.in_ok-token.ensures.there (c.in_ok-token.ensures.is ∙ c.in-Not.is) c.in_err-child-in-Not.ensures)

pub part-returns-in_ok-child-in-Not : goal.part-returns-in_ok-child-in-Not
part-returns-in_ok-child-in-Not t c = p_not _ _ _ _ _ _ c.in_ok-token.ensures.there (c.in_ok-token.ensures.is ∙ c.in-Not.is) c.rise.ensures c.in_ok-child-in-Not.ensures c.push-root.ensures

pub part-returns-in_err-first-in-Open : goal.part-returns-in_err-first-in-Open
part-returns-in_err-first-in-Open t c = stopped _ _ _ _ c.from_residual-in_err-first-in-Open.ensures.1 (p_open _ _ _ c.in_ok-token.ensures.there (c.in_ok-token.ensures.is ∙ c.in-Open.is) c.in_err-first-in-Open.ensures)

pub part-returns-in_err-behind-in-Open : goal.part-returns-in_err-behind-in-Open
part-returns-in_err-behind-in-Open t c = stopped _ _ _ _ c.from_residual-in_err-behind-in-Open.ensures.1 (p_no_end c.in_ok-first-in-Open.ensures.phrase _ _ _ _ c.in_ok-token.ensures.there (c.in_ok-token.ensures.is ∙ c.in-Open.is) c.in_ok-first-in-Open.ensures.read c.in_err-behind-in-Open.ensures.0 (at_end (λ r. NoEnd r) _ _ c.in_err-behind-in-Open.ensures.1 tt))

pub part-returns-in_default-behind : goal.part-returns-in_default-behind
part-returns-in_default-behind t c = p_no_end c.in_ok-first-in-Open.ensures.phrase _ _ _ _ c.in_ok-token.ensures.there (c.in_ok-token.ensures.is ∙ c.in-Open.is) c.in_ok-first-in-Open.ensures.read refl (at_token (λ r. NoEnd r) _ _ _ c.in_ok-behind-in-Open.ensures (c.in_default-behind.not-Close, c.in_default-behind.not-Until))

pub part-returns-in-Close : goal.part-returns-in-Close
part-returns-in-Close t c = p_brackets _ _ _ _ _ c.in_ok-token.ensures.there (c.in_ok-token.ensures.is ∙ c.in-Open.is) c.rise-in-Open.ensures c.in_ok-first-in-Open.ensures c.in_ok-behind-in-Open.ensures.there (c.in_ok-behind-in-Open.ensures.is ∙ c.in-Close.is)

pub part-returns-in_err-span-in-Until : goal.part-returns-in_err-span-in-Until
part-returns-in_err-span-in-Until t c = stopped _ _ _ _ c.from_residual-in_err-span-in-Until.ensures.1 (p_until_window c.in_ok-first-in-Open.ensures.phrase _ _ _ _ c.in_ok-token.ensures.there (c.in_ok-token.ensures.is ∙ c.in-Open.is) c.in_ok-first-in-Open.ensures.read c.in_ok-behind-in-Open.ensures.there (c.in_ok-behind-in-Open.ensures.is ∙ c.in-Until.is) c.in_err-span-in-Until.ensures)

pub part-returns-in_err-second-in-Until : goal.part-returns-in_err-second-in-Until
part-returns-in_err-second-in-Until t c = stopped _ _ _ _ c.from_residual-in_err-second-in-Until.ensures.1 (p_second_stop c.in_ok-first-in-Open.ensures.phrase _ _ _ _ _ _ c.in_ok-token.ensures.there (c.in_ok-token.ensures.is ∙ c.in-Open.is) c.in_ok-first-in-Open.ensures.read c.in_ok-behind-in-Open.ensures.there (c.in_ok-behind-in-Open.ensures.is ∙ c.in-Until.is) c.in_ok-span-in-Until.ensures c.in_err-second-in-Until.ensures)

pub part-returns-in_err-next-in-Until : goal.part-returns-in_err-next-in-Until
part-returns-in_err-next-in-Until t c = stopped _ _ _ _ c.from_residual-in_err-next-in-Until.ensures.1 (p_no_close c.in_ok-first-in-Open.ensures.phrase c.in_ok-second-in-Until.ensures.phrase _ _ _ _ _ _ _ c.in_ok-token.ensures.there (c.in_ok-token.ensures.is ∙ c.in-Open.is) c.in_ok-first-in-Open.ensures.read c.in_ok-behind-in-Open.ensures.there (c.in_ok-behind-in-Open.ensures.is ∙ c.in-Until.is) c.in_ok-span-in-Until.ensures c.in_ok-second-in-Until.ensures.read c.in_err-next-in-Until.ensures)

pub part-returns-in_ok-next-in-Until : goal.part-returns-in_ok-next-in-Until
part-returns-in_ok-next-in-Until t c = p_until (span _ _) _ _ _ _ _ _ _ _ _ _ c.in_ok-token.ensures.there (c.in_ok-token.ensures.is ∙ c.in-Open.is) c.rise-in-Open.ensures c.in_ok-first-in-Open.ensures c.in_ok-behind-in-Open.ensures.there (c.in_ok-behind-in-Open.ensures.is ∙ c.in-Until.is) c.in_ok-span-in-Until.ensures c.in_ok-second-in-Until.ensures c.in_ok-next-in-Until.ensures c.push-root-in-Until.ensures

pub modal-returns-in_err-span : goal.modal-returns-in_err-span
modal-returns-in_err-span t c =
    let h = c.requires.token in
    stopped _ _ _ _ c.from_residual.ensures.1 (p_window c.args.modality _ _ _ h.there h.is c.in_err-span.ensures)

pub modal-returns-in_err-child : goal.modal-returns-in_err-child
modal-returns-in_err-child t c =
    let h = c.requires.token in
    stopped _ _ _ _ c.from_residual-in_err-child.ensures.1 (p_modal_stop c.args.modality _ _ _ _ _ h.there h.is c.in_ok-span.ensures c.in_err-child.ensures)

pub modal-returns : goal.modal-returns
modal-returns t c =
    let h = c.requires.token in
    p_modal c.args.modality (span _ _) _ _ _ _ _ _ _ h.there h.is c.rise.ensures c.in_ok-span.ensures c.in_ok-child.ensures (rw c.row.ensures at c.push-root.ensures)
