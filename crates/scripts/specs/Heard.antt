-- Lists of calls, with a listener that is told of each.
use Rattle.std.specs.Prelude.{◌≡◌, List, [], ◌∷◌, Ok, Err, Result}
use Rattle.runs.specs.Runs.{Event}
use Rattle.runs.specs.Families.{truth_and_margin}
use Rattle.scripts.specs.Moments.{Moment}
use Rattle.scripts.specs.Plays.{Plays}
use Rattle.scripts.specs.Hearing.{Hearing}
use Rattle.scripts.specs.declared.call.Call.{Call}
use Rattle.scripts.specs.declared.reply.Reply.{Reply}

module _ {S E : Type 0} (hears : Hearing S E) where
  -- one call: it is carried out, and then the listener is told of it
  pub record HeardOne (c : Call) (before : Moment) (l : S) (e : Event truth_and_margin) (after : Moment) (k : S) (outcome : Result (Unit {0}) E) : Type 0 where
    pub reply : Reply
    pub plays : Plays c before reply e after
    pub heard : hears l c reply after.lent k outcome

  -- the calls in turn, as the events: up to the last, or up to the first at which the listener fails, and then no other is carried out
  pub data AllHeard : List Call → Moment → S → List (Event truth_and_margin) → Moment → S → Result (Unit {0}) E → Type 0 where
    none_left : {cs : List Call} {before after : Moment} {l k : S} {es : List (Event truth_and_margin)} {outcome : Result (Unit {0}) E} → cs ≡ [] → es ≡ [] → after ≡ before → k ≡ l → outcome ≡ Ok tt → AllHeard cs before l es after k outcome
    fails_at : {cs : List Call} {before after : Moment} {l k : S} {es : List (Event truth_and_margin)} {outcome : Result (Unit {0}) E} (c : Call) (left : List Call) (e : Event truth_and_margin) (error : E) →
        cs ≡ c ∷ left → es ≡ e ∷ [] → HeardOne c before l e after k (Err error) → outcome ≡ Err error → AllHeard cs before l es after k outcome
    goes_on : {cs : List Call} {before after : Moment} {l k : S} {es : List (Event truth_and_margin)} {outcome : Result (Unit {0}) E} (c : Call) (left : List Call) (e : Event truth_and_margin) (more : List (Event truth_and_margin)) (between : Moment) (j : S) →
        cs ≡ c ∷ left → es ≡ e ∷ more → HeardOne c before l e between j (Ok tt) → AllHeard left between j more after k outcome → AllHeard cs before l es after k outcome
