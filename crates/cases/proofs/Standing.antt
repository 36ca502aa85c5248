-- Where reading stands.
use Rattle.std.proofs.Common.{◌≡◌, ℕ, ◌+◌, sym, ap, ◌∙◌, subst}
use Rattle.cases.specs.declared.field.Field.{Field}
use Rattle.cases.specs.declared.reader.CaseReader.{CaseReader}
use Rattle.cases.specs.Readers.{left_of, next_of, TookField, NoField, passes, stays, GoesTo, last, over, Asked, AskedTo}

module _ (before after : CaseReader) where
  pub taken : (f : Field) → TookField before f after → Asked before after
  taken f h = (h.same, passes h.leads (ap (λ (n : ℕ). n + 1) (h.count ∙ h.number)))

  pub untaken : NoField (left_of before) → after ≡ before → Asked before after
  untaken none is = (ap (λ (r : CaseReader). r.bytes) is, stays none (ap next_of is) (ap left_of is))

  module _ (k : ℕ) where
    pub ends : k ≡ next_of before → Asked before after → AskedTo k before after
    ends is h = (h.0, last (sym is) h.1)

    pub onward : (between : CaseReader) (f : Field) → TookField before f between → AskedTo k between after → AskedTo k before after
    onward between f h g = (g.0 ∙ h.same, over h.leads (subst (λ (n : ℕ). GoesTo k (n + 1) (left_of between) (next_of after) (left_of after)) (h.count ∙ h.number) g.1))
