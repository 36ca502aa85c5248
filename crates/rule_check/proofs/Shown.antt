-- What is heard of a source, and what is shown of it.
use Rattle.std.proofs.Common.{◌≡◌, ℕ, Bool, List, [], ◌++◌, Option, None, Some, IfSome, Result, Ok, Err, is_ok, refl, sym, ap, ◌∙◌, subst, append-nil}
use Rattle.std.specs.Io.KnownBytes.{Appends, Consumes, IsAtEnd}
use Rattle.std.proofs.KnownBytes.{Consumes-nil, Consumes-trans}
use Rattle.rules.specs.Texts.{Answer, answer_of}
use Rattle.rules.specs.declared.rule.Rule.{Rule}
use Rattle.rules.specs.declared.fault.RuleFault.{RuleFault}
use Rattle.rules.proofs.OneAnswer.{one_answer}
use Rattle.rule_lines.specs.Lines.{names_in, text_in}
use Rattle.rule_lines.specs.Listing.{listing_of}
use Rattle.rule_lines.specs.Kept.{Heard}
use Rattle.rule_lines.specs.declared.input.Input.{Input}
use Rattle.streams.specs.Fronts.{WritesFront}
use Rattle.streams.proofs.Sunk.{none_sent}
use Rattle.rule_check.specs.Shows.{InputAnswer, ShowsRule}

-- what was consumed was heard
abbrev pub HeardSofar : Option (List ℕ) → Option (List ℕ) → Input → Type 0
HeardSofar old new input = (bytes : List ℕ) × Consumes old new bytes × Heard bytes input

pub none_heard : (a : Option (List ℕ)) (input : Input) → Heard [] input → HeardSofar a a input
none_heard a input h = ([], Consumes-nil a, h)

pub heard_more : (a b c : Option (List ℕ)) (input later : Input) (more : List ℕ) → HeardSofar a b input → Consumes b c more → ((bytes : List ℕ) → Heard bytes input → Heard (bytes ++ more) later) → HeardSofar a c later
heard_more a b c input later more h p on = (h.0 ++ more, Consumes-trans a b c h.0 more h.1 p, on h.0 h.2)

-- at the end of the source all of it was
pub heard_all : (a b : Option (List ℕ)) (input : Input) → HeardSofar a b input → IsAtEnd b → IfSome a (λ xs. Heard xs input)
heard_all None b input h e = tt
heard_all (Some xs) None input h e = absurd h.1
heard_all (Some xs) (Some ys) input h e = subst (λ (v : List ℕ). Heard v input) (sym (h.1 ∙ ap (λ (v : List ℕ). h.0 ++ v) e ∙ append-nil h.0)) h.2

-- nothing is written
pub unwritten : {E : Type 0} (a : Option (List ℕ)) (bytes : List ℕ) (q : Result (Unit {0}) E) (e : E) → q ≡ Err e → WritesFront a a bytes q
unwritten a bytes q e is = subst (WritesFront a a bytes) (sym is) (none_sent a bytes)

-- whether there is a rule
pub told : (answer : Result Rule RuleFault) → is_ok answer ≡ is_ok (answer_of answer)
told (Ok rule) = refl
told (Err fault) = refl

module _ (a b : Option (List ℕ)) (input : Input) (answer : Answer) (whole : (bytes : List ℕ) → Heard bytes input → InputAnswer bytes answer) where
  pub unshown : {E : Type 0} (r : Option (List ℕ)) → IfSome r (λ xs. Heard xs input) → (q : Result Bool E) (e : E) → q ≡ Err e → ((front : List ℕ) × (rest : List ℕ) × (listing_of answer ≡ front ++ rest) × Appends a b front) → IfSome r (λ xs. ShowsRule a b xs q)
  unshown None h q e is k = tt
  unshown (Some xs) h q e is k =
      subst (ShowsRule a b xs) (sym is) (λ other o. (k.0, k.1, ap listing_of (one_answer (names_in xs) (text_in xs) other answer o (whole xs h)) ∙ k.2, k.3))

  pub shown : (r : Option (List ℕ)) → IfSome r (λ xs. Heard xs input) → (is_rule : Bool) → is_rule ≡ is_ok answer → Appends a b (listing_of answer) → IfSome r (λ xs. (other : Answer) × InputAnswer xs other × (is_rule ≡ is_ok other) × Appends a b (listing_of other))
  shown None h is_rule is p = tt
  shown (Some xs) h is_rule is p = (answer, whole xs h, is, p)
