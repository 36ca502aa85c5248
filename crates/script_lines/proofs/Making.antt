-- The calls of the steps so far.
use Rattle.std.proofs.Common.{◌≡◌, ℕ, ◌+◌, ◌<◌, List, [], ◌∷◌, ◌++◌, length, take, get_or, None, sym, refl, ap, subst}
use Rattle.std.proofs.lemmas.List.{take_more}
use Rattle.rules.specs.declared.rule.Rule.{Rule}
use Rattle.scripts.specs.declared.call.Call.{Call}
use Rattle.script_lines.specs.declared.step.Step.{Step}
use Rattle.script_lines.specs.Makes.{IsCall, CallOf, AreCalls, no_steps, a_call, no_call}

pub one_call : (rules : List Rule) (ss : List Step) (cs : List Call) (s : Step) (c : Call) → AreCalls rules ss cs → IsCall rules s c → AreCalls rules (ss ++ s ∷ []) (cs ++ c ∷ [])
one_call rules ss cs s c (no_steps es ec) is = a_call s c [] [] (ap (λ (v : List Step). v ++ s ∷ []) es) (ap (λ (v : List Call). v ++ c ∷ []) ec) is (no_steps refl refl)
one_call rules ss cs s c (a_call t d steps calls es ec that h) is = a_call t d (steps ++ s ∷ []) (calls ++ c ∷ []) (ap (λ (v : List Step). v ++ s ∷ []) es) (ap (λ (v : List Call). v ++ c ∷ []) ec) that (one_call rules steps calls s c h is)
one_call rules ss cs s c (no_call t steps es none h) is = no_call t (steps ++ s ∷ []) (ap (λ (v : List Step). v ++ s ∷ []) es) none (one_call rules steps cs s c h is)

pub one_other : (rules : List Rule) (ss : List Step) (cs : List Call) (s : Step) → AreCalls rules ss cs → CallOf rules s None → AreCalls rules (ss ++ s ∷ []) cs
one_other rules ss cs s (no_steps es ec) none = no_call s [] (ap (λ (v : List Step). v ++ s ∷ []) es) none (no_steps refl ec)
one_other rules ss cs s (a_call t d steps calls es ec that h) none = a_call t d (steps ++ s ∷ []) calls (ap (λ (v : List Step). v ++ s ∷ []) es) ec that (one_other rules steps calls s h none)
one_other rules ss cs s (no_call t steps es other h) none = no_call t (steps ++ s ∷ []) (ap (λ (v : List Step). v ++ s ∷ []) es) other (one_other rules steps cs s h none)

-- one step more, in the list of all: over rules that are the same
pub call_more : (rules there : List Rule) (steps : List Step) (cs : List Call) (i : ℕ) (c : Call) (d : Step) → i < length steps → AreCalls rules (take i steps) cs → there ≡ rules → IsCall there (get_or steps i d) c → AreCalls rules (take (i + 1) steps) (cs ++ c ∷ [])
call_more rules there steps cs i c d lt sofar same is =
    subst (λ (v : List Step). AreCalls rules v (cs ++ c ∷ [])) (sym (take_more steps i d lt)) (one_call rules (take i steps) cs (get_or steps i d) c sofar (subst (λ (v : List Rule). IsCall v (get_or steps i d) c) same is))

pub other_more : (rules there : List Rule) (steps : List Step) (cs : List Call) (i : ℕ) (d : Step) → i < length steps → AreCalls rules (take i steps) cs → there ≡ rules → CallOf there (get_or steps i d) None → AreCalls rules (take (i + 1) steps) cs
other_more rules there steps cs i d lt sofar same is =
    subst (λ (v : List Step). AreCalls rules v cs) (sym (take_more steps i d lt)) (one_other rules (take i steps) cs (get_or steps i d) sofar (subst (λ (v : List Rule). CallOf v (get_or steps i d) None) same is))
