-- What is seen from a tick, as a fact and as yes or no.
use Rattle.std.proofs.Common.{◌≡◌, ℕ, suc, ◌+◌, ◌≤◌, Bool, true, false, ◌&&◌, leb, ⊎_elim, arith, le-leb, leb-true}
use borrow.Author.Tests.{both_ways}
use Rattle.std.proofs.lemmas.Bool.{and_parts, and_from, not-true, not_from_false, cases_Bool}
use Rattle.judge.specs.Yes.{any}
use Rattle.judge.specs.Reaches.{Sees, clear, sees, HeldOver, held_over}
use Rattle.judge.proofs.Anys.{any_from, any_some}

module _ (dead : ℕ → Bool) where
  -- one argument of Alive does not matter
  pub clear_alive : (t w : ℕ) → clear dead t w ≡ true → (k : ℕ) → t ≤ k → k ≤ w → dead k ≡ false
  clear_alive t w e k a b =
      ⊎_elim
      (λ (d : dead k ≡ true). absurd (both_ways (any (λ k. leb t k && dead k) (suc w)) (not-true _ e) (any_from (λ k. leb t k && dead k) (suc w) k (omega arith) (and_from (leb t k) (dead k) (le-leb t k a) d))))
      (λ h. h)
      (cases_Bool (dead k))

  pub alive_clear : (t w : ℕ) → ((k : ℕ) → t ≤ k → k ≤ w → dead k ≡ false) → clear dead t w ≡ true
  alive_clear t w h =
      ⊎_elim
      (λ (e : any (λ k. leb t k && dead k) (suc w) ≡ true).
      let r = any_some (λ k. leb t k && dead k) (suc w) e in
      let both = and_parts (leb t r.0) (dead r.0) r.1.1 in
      absurd (both_ways (dead r.0) (h r.0 (leb-true t r.0 both.0) (omega (arith, r.1.0))) both.1))
      (λ e. not_from_false _ e)
      (cases_Bool (any (λ k. leb t k && dead k) (suc w)))

module _ (asks dead : ℕ → Bool) (a b : ℕ) where
  pub sees_is : (t w : ℕ) → sees asks dead a b t w ≡ true → Sees asks dead a b t w
  sees_is t w e =
      let x = and_parts (asks t) (leb (t + a) w && (leb w (t + b) && clear dead t w)) e in
      let y = and_parts (leb (t + a) w) (leb w (t + b) && clear dead t w) x.1 in
      let z = and_parts (leb w (t + b)) (clear dead t w) y.1 in
      record { wants = x.0; from = leb-true (t + a) w y.0; to = leb-true w (t + b) z.0; alive = clear_alive dead t w z.1 }

  pub is_sees : (t w : ℕ) → Sees asks dead a b t w → sees asks dead a b t w ≡ true
  is_sees t w s =
      and_from (asks t) _ s.wants (and_from (leb (t + a) w) _ (le-leb (t + a) w s.from) (and_from (leb w (t + b)) _ (le-leb w (t + b) s.to) (alive_clear dead t w s.alive)))

module _ (asks dead need : ℕ → Bool) (a b : ℕ) where
  pub holds_is : (t v : ℕ) → held_over asks dead need a b t v ≡ true → HeldOver asks dead need a b t v
  holds_is t v e =
      let x = and_parts (leb t v) _ e in
      let r = any_some (λ w. leb v w && (need w && sees asks dead a b t w)) (suc (t + b)) x.1 in
      let w = r.0 in
      let y = and_parts (leb v w) (need w && sees asks dead a b t w) r.1.1 in
      let z = and_parts (need w) (sees asks dead a b t w) y.1 in
      record { from = leb-true t v x.0; at = w; after = leb-true v w y.0; needs = z.0; seen = sees_is asks dead a b t w z.1 }

  pub is_holds : (t v : ℕ) → HeldOver asks dead need a b t v → held_over asks dead need a b t v ≡ true
  is_holds t v h =
      let w = h.at in
      and_from (leb t v) _ (le-leb t v h.from)
      (any_from (λ w. leb v w && (need w && sees asks dead a b t w)) (suc (t + b)) w (omega (arith, h.seen.to))
      (and_from (leb v w) _ (le-leb v w h.after) (and_from (need w) _ h.needs (is_sees asks dead a b t w h.seen))))
