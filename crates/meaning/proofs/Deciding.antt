-- What can be told of facts about numbers, if each of them can be told.
use Rattle.std.proofs.Common.{ℕ, zero, suc, ◌+◌, ◌<◌, ◌≤◌, ◌⊎◌, subst, inl, inr, arith}
use native.Mathlib.Decide.{dec_lt, ℕ_discrete}

pub both? : {P Q : Type 0} → Dec P → Dec Q → Dec (P × Q)
both? (yes p) (yes q) = yes (p, q)
both? (yes p) (no n) = no (λ h. n h.1)
both? (no n) d = no (λ h. n h.0)

pub either? : {P Q : Type 0} → Dec P → Dec Q → Dec (P ⊎ Q)
either? (yes p) d = yes (inl p)
either? (no n) (yes q) = yes (inr q)
either? (no n) (no m) = no (elim [ inl p ↦ n p | inr q ↦ m q ])

pub not? : {P : Type 0} → Dec P → Dec (¬ P)
not? (yes p) = no (λ n. n p)
not? (no n) = yes n

pub as? : {P Q : Type 0} → (P → Q) → (Q → P) → Dec P → Dec Q
as? f g (yes p) = yes (f p)
as? f g (no n) = no (λ q. n (g q))

pub three? : {P Q R : Type 0} → Dec P → Dec Q → Dec R → Dec (P × Q × R)
three? p q r = as? (λ h. (h.0, h.1.0, h.1.1)) (λ h. (h.0, (h.1, h.2))) (both? p (both? q r))

-- r is the first number from s on at which P holds, or e
pub record First (P : ℕ → Type 0) (s e r : ℕ) : Type 0 where
  pub from : s ≤ r
  pub to : r ≤ e
  pub none : (u : ℕ) → s ≤ u → u < r → ¬ (P u)
  pub here : r < e → P r

-- r is the last number from s on and below e at which P holds
pub record Last (P : ℕ → Type 0) (s e r : ℕ) : Type 0 where
  pub from : s ≤ r
  pub to : r < e
  pub here : P r
  pub none : (u : ℕ) → r < u → u < e → ¬ (P u)

module _ {P : ℕ → Type 0} (d : (k : ℕ) → Dec (P k)) where
  pub first : (s n : ℕ) → (r : ℕ) × First P s (s + n) r
  first s zero = (s, record { from = omega arith; to = omega arith; none = λ u a b. absurd (omega arith); here = λ h. absurd (omega arith) })
  first s (suc n) = by (d s) (first (suc s) n)
    where
      by : Dec (P s) → (r : ℕ) × First P (suc s) (suc s + n) r → (r : ℕ) × First P s (s + suc n) r
      by (yes p) h = (s, record { from = omega arith; to = omega arith; none = λ u a b. absurd (omega arith); here = λ _. p })
      by (no m) h =
          let f = h.1 in (
            h.0,
            record {
              from = omega arith;
              to = omega arith;
              none = λ u a b e. elim (ℕ_discrete s u) [ yes is ↦ m (subst P (omega arith) e) | no ne ↦ f.none u (omega arith) b e ];
              here = λ l. f.here (omega arith);
            },
          )

  pub last : (s n : ℕ) → ((r : ℕ) × Last P s (s + n) r) ⊎ ((u : ℕ) → s ≤ u → u < s + n → ¬ (P u))
  last s zero = inr (λ u a b. absurd (omega arith))
  last s (suc n) = by (d (s + n)) (last s n)
    where
      by : Dec (P (s + n)) → ((r : ℕ) × Last P s (s + n) r) ⊎ ((u : ℕ) → s ≤ u → u < s + n → ¬ (P u)) →
          ((r : ℕ) × Last P s (s + suc n) r) ⊎ ((u : ℕ) → s ≤ u → u < s + suc n → ¬ (P u))
      by (yes p) h = inl (s + n, record { from = omega arith; to = omega arith; here = p; none = λ u a b. absurd (omega arith) })
      by (no m) (inl h) =
          let f = h.1 in
          inl (
            h.0,
            record {
              from = omega arith;
              to = omega arith;
              here = f.here;
              none = λ u a b e. elim (ℕ_discrete u (s + n)) [ yes is ↦ m (subst P is e) | no ne ↦ f.none u a (omega arith) e ];
            },
          )
      by (no m) (inr f) = inr (λ u a b e. elim (ℕ_discrete u (s + n)) [ yes is ↦ m (subst P is e) | no ne ↦ f u a (omega arith) e ])

  -- some number below n
  pub some? : (n : ℕ) → Dec ((k : ℕ) × (k < n) × P k)
  some? n =
      let h = first 0 n in
      let f = h.1 in
      elim (dec_lt h.0 n) [
        | yes l ↦ yes (h.0, l, f.here (omega arith))
        | no m ↦ no (λ e. let l = e.1 in f.none e.0 (omega arith) (omega arith) e.2)
      ]
