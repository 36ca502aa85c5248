-- A listing with as many cells, counted another way.
use Rattle.std.proofs.Common.{◌≡◌, ℕ, min, List, length, take, subst, arith}
use Rattle.std.proofs.lemmas.List.{length-take}
use Rattle.case_lines.specs.Listings.{LentCells, Listing, lent_cells}

same_lent : {p a b w m p' a' b' w' m' : ℕ} → p ≡ p' → a ≡ a' → b ≡ b' → w ≡ w' → m ≡ m' → lent_cells p a b w m ≡ lent_cells p' a' b' w' m'
same_lent e f g h k = λ i. lent_cells (e i) (f i) (g i) (h i) (k i)

pub recounted : (case text : List ℕ) {p a b w m p' a' b' w' m' : ℕ} → p ≡ p' → a ≡ a' → b ≡ b' → w ≡ w' → m ≡ m' → Listing (lent_cells p a b w m) case text → Listing (lent_cells p' a' b' w' m') case text
recounted case text e g h k l x = subst (λ (y : LentCells). Listing y case text) (same_lent e g h k l) x

-- so many of 64 cells
pub cut : {X : Type 0} (xs : List X) (n m : ℕ) → length xs ≡ 64 → n ≡ min m 64 → length (take n xs) ≡ min m 64
cut xs n m all e = omega (arith, length-take n xs)
