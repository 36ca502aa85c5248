-- Lists of lists, one for each number below another.
use Rattle.std.proofs.Common.{◌≡◌, ℕ, zero, suc, ◌+◌, ◌<◌, ◌≤◌, List, [], ◌∷◌, length, get_or, refl, ap, subst, ap₂, arith}

module _ {X : Type 0} where
  -- with a list for each number from s on, there are n of them
  pub collect : (P : ℕ → List X → Type 0) (s n : ℕ) → ((k : ℕ) → s ≤ k → k < s + n → (ps : List X) × P k ps) → (pss : List (List X)) × ((length pss ≡ n) × ((k : ℕ) → k < n → P (s + k) (get_or pss k [])))
  collect P s zero each = ([], (refl, λ k h. absurd (omega arith)))
  collect P s (suc n) each =
      let first = each s (omega arith) (omega arith) in
      let rest = collect P (suc s) n (λ k a b. each k (omega arith) (omega arith)) in
      (first.0 ∷ rest.0, (ap suc rest.1.0, placed P s n first.0 rest.0 first.1 rest.1.1))
    where
      placed : (P : ℕ → List X → Type 0) (s n : ℕ) (ps : List X) (pss : List (List X)) → P s ps → ((k : ℕ) → k < n → P (suc s + k) (get_or pss k [])) → (k : ℕ) → k < suc n → P (s + k) (get_or (ps ∷ pss) k [])
      placed P s n ps pss p h zero lt = let z : s ≡ s + 0 = omega arith in subst (λ (j : ℕ). P j ps) z p
      placed P s n ps pss p h (suc k) lt = let z : suc s + k ≡ s + suc k = omega arith in subst (λ (j : ℕ). P j (get_or pss k [])) z (h k (omega arith))

  -- lists that have the same at each place are the same
  pub same_lists : (pss qss : List (List X)) → length pss ≡ length qss → ((k : ℕ) → k < length pss → get_or pss k [] ≡ get_or qss k []) → pss ≡ qss
  same_lists [] [] e h = refl
  same_lists [] (q ∷ qs) e h = absurd (omega arith)
  same_lists (p ∷ ps) [] e h = absurd (omega arith)
  same_lists (p ∷ ps) (q ∷ qs) e h = ap₂ (λ (x : List X) (xs : List (List X)). x ∷ xs) (h 0 (omega arith)) (same_lists ps qs (omega arith) (λ k lt. h (suc k) (omega arith)))
