-- Bytes that a sink takes, write by write.
use Rattle.std.proofs.Common.{◌≡◌, ℕ, ◌+◌, ◌-◌, List, [], ◌++◌, length, take, drop, Option, Ok, Err, Result, refl, sym, ap, ◌∙◌, subst, append_assoc, append-nil, take-append-drop, arith}
use Rattle.std.proofs.lemmas.List.{take_all, length-drop}
use Rattle.std.specs.Io.KnownBytes.{Appends}
use Rattle.streams.specs.Fronts.{WritesFront}
use Rattle.streams.specs.Buffers.{PutsLine}
use Rattle.std.proofs.KnownBytes.{Appends-trans, Appends-nil}
use lib.Seq.{take-add}

module _ (a b : Option (List ℕ)) (bytes : List ℕ) where
  pub cut : (d : ℕ) → Appends a b (take d bytes) → (front : List ℕ) × (rest : List ℕ) × (bytes ≡ front ++ rest) × Appends a b front
  cut d p = (take d bytes, drop d bytes, sym (take-append-drop d bytes), p)

  pub more : (c : Option (List ℕ)) (d n : ℕ) → Appends a b (take d bytes) → Appends b c (take n (take (length bytes - d) (drop d bytes))) → Appends a c (take (d + n) bytes)
  more c d n p q =
      let all : take (length bytes - d) (drop d bytes) ≡ drop d bytes = take_all (length bytes - d) (drop d bytes) (omega (arith, length-drop d bytes)) in
      subst (Appends a c) (sym (take-add d n bytes)) (Appends-trans a b c (take d bytes) (take n (drop d bytes)) p (subst (λ (v : List ℕ). Appends b c (take n v)) all q))

-- of what waited, nothing was sent, or all was
pub none_sent : (a : Option (List ℕ)) (before : List ℕ) → (front : List ℕ) × (rest : List ℕ) × (before ≡ front ++ rest) × Appends a a front
none_sent a before = ([], before, refl, Appends-nil a)

pub all_sent : (a b : Option (List ℕ)) (before : List ℕ) → Appends a b before → (front : List ℕ) × (rest : List ℕ) × (before ≡ front ++ rest) × Appends a b front
all_sent a b before h = (before, [], sym (append-nil before), h)

pub broke : {E : Type 0} (a b : Option (List ℕ)) (before line after : List ℕ) (r : Result (Unit {0}) E) (e : E) → r ≡ Err e → ((front : List ℕ) × (rest : List ℕ) × (before ≡ front ++ rest) × Appends a b front) → PutsLine a b before line after r
broke a b before line after r e is h = subst (PutsLine a b before line after) (sym is) h

-- one line alone
module _ {E : Type 0} (a : Option (List ℕ)) (buf line : List ℕ) (none : buf ≡ []) where
  pub line_fails : (b : Option (List ℕ)) (r : Result (Unit {0}) E) (e : E) → r ≡ Err e → ((front : List ℕ) × (rest : List ℕ) × (buf ≡ front ++ rest) × Appends a b front) → WritesFront a b line r
  line_fails b r e is h = subst (WritesFront a b line) (sym is) (h.0, h.1 ++ line, ap (λ (v : List ℕ). v ++ line) (sym none ∙ h.2) ∙ append_assoc h.0 h.1 line, h.3)

  pub line_sent : (b c : Option (List ℕ)) (sent after : List ℕ) (r : Result (Unit {0}) E) → Appends a b sent → buf ++ line ≡ sent ++ after → WritesFront b c after r → WritesFront a c line r
  line_sent b c sent after (Ok u) p split q = subst (Appends a c) (sym split ∙ ap (λ (v : List ℕ). v ++ line) none) (Appends-trans a b c sent after p q)
  line_sent b c sent after (Err e) p split q =
      (sent ++ q.0, q.1, ap (λ (v : List ℕ). v ++ line) (sym none) ∙ split ∙ ap (λ (v : List ℕ). sent ++ v) q.2 ∙ sym (append_assoc sent q.0 q.1), Appends-trans a b c sent q.0 p q.3)
