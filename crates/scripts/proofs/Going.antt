-- A list of calls on its way.
use Rattle.std.proofs.Common.{◌≡◌, ℕ, ◌+◌, ◌<◌, List, [], ◌∷◌, length, drop, get_or, Ok, Err, Result, sym, refl, ap, ◌∙◌, subst}
use Rattle.std.proofs.lemmas.List.{drop_more}
use Rattle.runs.specs.Runs.{Event, Ran}
use Rattle.scripts.specs.declared.call.Call.{Call}
use Rattle.runs.specs.Families.{truth_and_margin}
use Rattle.scripts.specs.Moments.{Moment}
use Rattle.scripts.specs.Hearing.{Hearing}
use Rattle.scripts.specs.Heard.{HeardOne, AllHeard, none_left, fails_at, goes_on}

module _ {S E : Type 0} (hears : Hearing S E) where
  -- some events are those of the calls
  abbrev pub Whole : List Call → Moment → S → Moment → S → Result (Unit {0}) E → Type 0
  Whole cs m l z k o = (es : List (Event truth_and_margin)) × AllHeard hears cs m l es z k o

  -- what is left of the calls, carried out from n on, makes the whole of them
  abbrev pub Going : List Call → Moment → S → List Call → Moment → S → Type 0
  Going cs m l left n j = (z : Moment) (k : S) (o : Result (Unit {0}) E) → Whole left n j z k o → Whole cs m l z k o

  pub begun : (cs : List Call) (m : Moment) (l : S) → Going cs m l cs m l
  begun cs m l z k o w = w

  -- the calls from number i on begin with c
  pub next_call : (cs : List Call) (i : ℕ) (c : Call) → i < length cs → c ≡ get_or cs i c → drop i cs ≡ c ∷ drop (i + 1) cs
  next_call cs i c lt is = drop_more cs i c lt ∙ ap (λ (v : Call). v ∷ drop (i + 1) cs) (sym is)

  pub onward : (cs : List Call) (m n z : Moment) (l j k : S) (i : ℕ) (c : Call) → i < length cs → c ≡ get_or cs i c → Going cs m l (drop i cs) n j → (e : Event truth_and_margin) → HeardOne hears c n j e z k (Ok tt) → Going cs m l (drop (i + 1) cs) z k
  onward cs m n z l j k i c lt is go e one y q o w = go y q o (e ∷ w.0, goes_on c (drop (i + 1) cs) e w.0 z k (next_call cs i c lt is) refl one w.1)

  pub failed : (cs : List Call) (m n z : Moment) (l j k : S) (i : ℕ) (c : Call) → i < length cs → c ≡ get_or cs i c → Going cs m l (drop i cs) n j → (e : Event truth_and_margin) (o : Result (Unit {0}) E) (error : E) → o ≡ Err error → HeardOne hears c n j e z k (Err error) → Whole cs m l z k o
  failed cs m n z l j k i c lt is go e o error eq one = go z k o (e ∷ [], fails_at c (drop (i + 1) cs) e error (next_call cs i c lt is) refl one eq)

  pub done : (cs : List Call) (m n : Moment) (l j : S) (left : List Call) → left ≡ [] → Going cs m l left n j → Whole cs m l n j (Ok tt)
  done cs m n l j left none go = go n j (Ok tt) ([], none_left none refl refl refl refl)

  -- the calls that are heard are a run
  pub ran_of : {cs : List Call} {m z : Moment} {l k : S} {es : List (Event truth_and_margin)} {o : Result (Unit {0}) E} → AllHeard hears cs m l es z k o → Ran truth_and_margin m.state es z.state
  ran_of {m = m} {z = z} (none_left ec ee ez ek eo) = subst (λ (v : List (Event truth_and_margin)). Ran truth_and_margin m.state v z.state) (sym ee) (ap (λ (v : Moment). v.state) ez)
  ran_of {m = m} {z = z} (fails_at c left e error ec ee one eo) = subst (λ (v : List (Event truth_and_margin)). Ran truth_and_margin m.state v z.state) (sym ee) (z.state, (one.plays.turn, refl))
  ran_of {m = m} {z = z} (goes_on c left e more n j ec ee one h) = subst (λ (v : List (Event truth_and_margin)). Ran truth_and_margin m.state v z.state) (sym ee) (n.state, (one.plays.turn, ran_of h))
