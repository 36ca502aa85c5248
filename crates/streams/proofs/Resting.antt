-- A listing that is written line by line.
use Rattle.std.proofs.Common.{◌≡◌, ℕ, List, [], ◌++◌, Option, None, Some, IfSome, Ok, Err, Result, refl, sym, ap, ◌∙◌, subst, append_assoc, append-nil}
use Rattle.std.specs.Io.KnownBytes.{Appends}
use Rattle.std.proofs.KnownBytes.{Appends-trans, Appends-nil}
use Rattle.streams.specs.Fronts.{WritesFront, WritesSome}

module _ (a : Option (List ℕ)) (P : List ℕ → Type 0) where
  -- what was written so far, with what is left, is the whole, and the whole is nothing else
  pub record Sofar (b : Option (List ℕ)) (Q : List ℕ → Type 0) : Type 0 where
    pub done : List ℕ
    pub written : Appends a b done
    pub whole : (more : List ℕ) → Q more → P (done ++ more)
    pub only : (text : List ℕ) → P text → (more : List ℕ) × Q more × (text ≡ done ++ more)

  pub none_yet : Sofar a P
  none_yet = record { done = []; written = Appends-nil a; whole = λ more q. q; only = λ text p. (text, p, refl) }

  module _ (b : Option (List ℕ)) (Q : List ℕ → Type 0) (sofar : Sofar b Q) where
    pub one_more : (c : Option (List ℕ)) (line : List ℕ) (R : List ℕ → Type 0) → ((more : List ℕ) → R more → Q (line ++ more)) → ((text : List ℕ) → Q text → (more : List ℕ) × R more × (text ≡ line ++ more)) → Appends b c line → Sofar c R
    one_more c line R on back w = record {
      done = sofar.done ++ line;
      written = Appends-trans a b c sofar.done line sofar.written w;
      whole = λ more r. subst P (sym (append_assoc sofar.done line more)) (sofar.whole (line ++ more) (on more r));
      only = λ text p.
          let h = sofar.only text p in
          let k = back h.0 h.1 in
          (k.0, k.1, h.2 ∙ ap (λ (v : List ℕ). sofar.done ++ v) k.2 ∙ sym (append_assoc sofar.done line k.0));
    }

    pub finished : Q [] → (text : List ℕ) × P text × Appends a b text
    finished q = (sofar.done ++ [], sofar.whole [] q, subst (Appends a b) (sym (append-nil sofar.done)) sofar.written)

    pub broken : (c : Option (List ℕ)) (line : List ℕ) (R : List ℕ → Type 0) → ((text : List ℕ) → Q text → (more : List ℕ) × R more × (text ≡ line ++ more)) → ((front : List ℕ) × (rest : List ℕ) × (line ≡ front ++ rest) × Appends b c front) →
        (text : List ℕ) → P text → (front : List ℕ) × (rest : List ℕ) × (text ≡ front ++ rest) × Appends a c front
    broken c line R back f text p =
        let h = sofar.only text p in
        let k = back h.0 h.1 in (
          sofar.done ++ f.0,
          f.1 ++ k.0,
          h.2 ∙ ap (λ (v : List ℕ). sofar.done ++ v) (k.2 ∙ ap (λ (v : List ℕ). v ++ k.0) f.2 ∙ append_assoc f.0 f.1 k.0) ∙ sym (append_assoc sofar.done f.0 (f.1 ++ k.0)),
          Appends-trans a b c sofar.done f.0 sofar.written f.3,
        )

-- what is not sent yet: what waits, and what is left behind it
abbrev pub Unsent : List ℕ → (List ℕ → Type 0) → List ℕ → Type 0
Unsent buf Q text = (more : List ℕ) × Q more × (text ≡ buf ++ more)

module _ (P : List ℕ → Type 0) where
  pub nothing_waits : (buf text : List ℕ) → buf ≡ [] → Unsent buf P text → P text
  nothing_waits buf text none h = subst P (sym (h.2 ∙ ap (λ (v : List ℕ). v ++ h.0) none)) h.1

  pub waits_for_nothing : (buf text : List ℕ) → buf ≡ [] → P text → Unsent buf P text
  waits_for_nothing buf text none p = (text, p, sym (ap (λ (v : List ℕ). v ++ text) none))

module _ (buf sent later line : List ℕ) (split : buf ++ line ≡ sent ++ later) (Q R : List ℕ → Type 0) where
  pub unsent_on : ((more : List ℕ) → R more → Q (line ++ more)) → (text : List ℕ) → Unsent later R text → Unsent buf Q (sent ++ text)
  unsent_on on text h =
      (line ++ h.0, on h.0 h.1, ap (λ (v : List ℕ). sent ++ v) h.2 ∙ sym (append_assoc sent later h.0) ∙ ap (λ (v : List ℕ). v ++ h.0) (sym split) ∙ append_assoc buf line h.0)

  pub unsent_back : ((text : List ℕ) → Q text → (more : List ℕ) × R more × (text ≡ line ++ more)) → (text : List ℕ) → Unsent buf Q text → (more : List ℕ) × Unsent later R more × (text ≡ sent ++ more)
  unsent_back back text h =
      let k = back h.0 h.1 in
      (later ++ k.0, (k.0, k.1, refl), h.2 ∙ ap (λ (v : List ℕ). buf ++ v) k.2 ∙ sym (append_assoc buf line k.0) ∙ ap (λ (v : List ℕ). v ++ k.0) split ∙ append_assoc sent later k.0)

-- nothing waits at first, and all that waits is sent in the end
module _ (a : Option (List ℕ)) (P : List ℕ → Type 0) (buf : List ℕ) where
  pub start : buf ≡ [] → Sofar a P a (Unsent buf P)
  start none = record { done = []; written = Appends-nil a; whole = λ more q. nothing_waits P buf more none q; only = λ text p. (text, waits_for_nothing P buf text none p, refl) }

  pub at_last : {E : Type 0} (b c : Option (List ℕ)) (Q : List ℕ → Type 0) (r : Result (Unit {0}) E) → Sofar a P b (Unsent buf Q) → Q [] → WritesFront b c buf r → WritesSome a c P r
  at_last b c Q (Ok u) sofar q w = finished a P c Q (one_more a P b (Unsent buf Q) sofar c buf Q (λ more x. (more, x, refl)) (λ text h. h) w) q
  at_last b c Q (Err e) sofar q w = broken a P b (Unsent buf Q) sofar c buf Q (λ text h. h) w

-- the same of another property of the same texts
pub alike : {E : Type 0} (a b : Option (List ℕ)) (P Q : List ℕ → Type 0) (r : Result (Unit {0}) E) → WritesSome a b P r → ((text : List ℕ) → P text → Q text) → ((text : List ℕ) → Q text → P text) → WritesSome a b Q r
alike a b P Q (Ok u) h on back = (h.0, on h.0 h.1, h.2)
alike a b P Q (Err e) h on back = λ text q. h text (back text q)

-- one text that alone has the property
pub lone : {E : Type 0} (a b : Option (List ℕ)) (P : List ℕ → Type 0) (line : List ℕ) (r : Result (Unit {0}) E) → P line → ((text : List ℕ) → P text → text ≡ line) → WritesFront a b line r → WritesSome a b P r
lone a b P line (Ok u) p one h = (line, p, h)
lone a b P line (Err e) p one h = λ text q. (h.0, h.1, one text q ∙ h.2, h.3)

-- an error that came from another
pub failed : {E : Type 0} (a b : Option (List ℕ)) (P : List ℕ → Type 0) (r : Result (Unit {0}) E) (e : E) → r ≡ Err e → ((text : List ℕ) → P text → (front : List ℕ) × (rest : List ℕ) × (text ≡ front ++ rest) × Appends a b front) → WritesSome a b P r
failed a b P r e is h = subst (WritesSome a b P) (sym is) h

-- nothing is written
pub nothing : {E : Type 0} (r : Option (List ℕ)) (a : Option (List ℕ)) (P : List ℕ → List ℕ → Type 0) (q : Result (Unit {0}) E) (e : E) → q ≡ Err e → IfSome r (λ xs. WritesSome a a (P xs) q)
nothing None a P q e is = tt
nothing (Some xs) a P q e is = failed a a (P xs) q e is (λ text p. ([], text, refl, Appends-nil a))
