-- The rule of a case whose heading is read is a table of sound rows.
use Rattle.std.proofs.Common.{◌≡◌, ℕ, List, Ok, Err, Result, sym, subst, arith}
use Rattle.rules.specs.Rows.{Sound}
use Rattle.rules.proofs.AnswerSound.{answered_sound}
use Rattle.cases.specs.declared.fault.CaseRefusal.{CaseRefusal}
use Rattle.cases.specs.Headings.{OpenedCase, Opens, missing, cut, wrong, misplaced, named, no_rule, ruled}

pub heading_apart : (o : OpenedCase) (e : CaseRefusal) → ◌≡◌ {A = Result OpenedCase CaseRefusal} (Ok o) (Err e) → ⊥
heading_apart o e h = let z : ◌≡◌ {A = ℕ} 0 1 = cc in omega arith

pub same_heading : (o p : OpenedCase) → ◌≡◌ {A = Result OpenedCase CaseRefusal} (Ok o) (Ok p) → o ≡ p
same_heading o p h = cc

pub opened_sound : (o : OpenedCase) {n : ℕ} {names : List (List ℕ)} {bytes : List ℕ} → Opens n names bytes (Ok o) → Sound o.rows
opened_sound o (missing z e) = absurd (heading_apart o _ e)
opened_sound o (cut c e) = absurd (heading_apart o _ e)
opened_sound o (wrong l w e) = absurd (heading_apart o _ e)
opened_sound o (misplaced l s off e) = absurd (heading_apart o _ e)
opened_sound o (named l s st more) = opened_sound o more
opened_sound o (no_rule f l s st a e) = absurd (heading_apart o _ e)
opened_sound o (ruled {names = names} {text = text} rows l s st a e) = subst (λ (x : OpenedCase). Sound x.rows) (sym (same_heading o _ e)) (answered_sound rows names text a)
