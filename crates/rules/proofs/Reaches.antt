-- The reaches of rows, one row after the other.
use Rattle.std.proofs.Common.{◌≡◌, ℕ, zero, suc, ◌+◌, ◌-◌, ◌*◌, ◌≤◌, List, [], ◌∷◌, ◌++◌, length, get_or, sym, refl, ap, ◌∙◌, subst, sub-one, arith, length-append}
use Rattle.rules.specs.declared.row.Row.{Row}
use Rattle.rules.specs.Rows.{row_reach_by, reaches_from, reach}

pub reaches_more : (rs : List ℕ) (xs : List Row) (r : Row) → reaches_from rs (xs ++ (r ∷ [])) ≡ reaches_from rs xs ++ (row_reach_by (reaches_from rs xs) r ∷ [])
reaches_more rs [] r = refl
reaches_more rs (x ∷ xs) r = reaches_more (rs ++ (row_reach_by rs x ∷ [])) xs r

-- no reach is above m
abbrev pub Within : List ℕ → ℕ → Type 0
Within rs m = (c : ℕ) → get_or rs c 0 ≤ m

pub within_more : (rs : List ℕ) (x m n : ℕ) → Within rs m → m ≤ n → x ≤ n → Within (rs ++ (x ∷ [])) n
within_more [] x m n h le lx zero = lx
within_more [] x m n h le lx (suc c) = omega arith
within_more (r ∷ rs) x m n h le lx zero = omega (arith, h 0)
within_more (r ∷ rs) x m n h le lx (suc c) = within_more rs x m n (λ d. h (suc d)) le lx c

-- what the loop keeps: the reaches of the rows so far
pub record Sofar (rows : List Row) (found : List ℕ) : Type 0 where
  pub is : found ≡ reaches_from [] rows
  pub many : length found ≡ length rows
  pub bound : Within found (length rows * 4294967296)

pub first : Sofar [] []
first = record { is = refl; many = refl; bound = λ c. omega arith }

pub again : (rows : List Row) (found later : List ℕ) (r : Row) (x : ℕ) → Sofar rows found → x ≡ row_reach_by found r → x ≤ length rows * 4294967296 + 4294967296 → later ≡ found ++ (x ∷ []) → Sofar (rows ++ (r ∷ [])) later
again rows found later r x s e le more =
    let long : length (rows ++ (r ∷ [])) ≡ length rows + 1 = length-append rows (r ∷ []) in
    record {
      is = more ∙ ap (λ (v : List ℕ). v ++ (x ∷ [])) s.is ∙ ap (λ (n : ℕ). reaches_from [] rows ++ (n ∷ [])) (e ∙ ap (λ (v : List ℕ). row_reach_by v r) s.is) ∙ sym (reaches_more [] rows r);
      many = omega (arith, ap length more, length-append found (x ∷ []), s.many, long);
      bound = subst (λ (v : List ℕ). Within v (length (rows ++ (r ∷ [])) * 4294967296)) (sym more) (within_more found x _ _ s.bound (omega (arith, long)) (omega (arith, long)));
    }

-- after the last row
pub done : (rows : List Row) (found : List ℕ) → Sofar rows found → get_or found (length rows - 1) 0 ≡ reach rows
done rows found s = ap (λ (v : List ℕ). get_or v (length rows - 1) 0) s.is ∙ ap (λ (n : ℕ). get_or (reaches_from [] rows) n 0) (sub-one (length rows))
