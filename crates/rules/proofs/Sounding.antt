-- What the tests of a table say: it is sound.
use Rattle.std.proofs.Common.{◌≡◌, ℕ, zero, suc, ◌+◌, ◌<◌, ◌≤◌, Bool, true, false, ◌&&◌, eqb, ltb, ◌⊎◌, List, [], ◌∷◌, length, take, ℤ, pos, negsuc, refl, ap, inl, inr, arith, ltb-false, ltb-true, eq-eqb, eqb-true, leb-true}
use lib.Signed.{le_z}
use Rattle.std.proofs.lemmas.List.{length-take-le}
use Rattle.std.proofs.lemmas.Int.{ints}
use Rattle.rules.specs.declared.rule.Rule.{Rule}
use Rattle.rules.specs.declared.row.Row.{Row}
use Rattle.rules.specs.declared.row.Row.TheVariants.{Test, Not, And, Or, Eventually, Always, Until}
use Rattle.rules.specs.Rows.{row_at, Child, TwinsApart, NumberFits, RowFits, row_fits, row_earlier, one_if, kids, uses, reach, Sound}

and_left : (a b : Bool) → a && b ≡ true → a ≡ true
and_left true b h = refl
and_left false b h = h

and_right : (a b : Bool) → a && b ≡ true → b ≡ true
and_right true b h = h
and_right false b h = let z : ◌≡◌ {A = ℕ} 0 1 = cc in absurd (omega arith)

in_bounds : (m : ℤ) → le_z (negsuc 499999) m && le_z m (pos 500000) ≡ true → NumberFits m
in_bounds m h =
    let a : le_z (negsuc 499999) m ≡ true = and_left (le_z (negsuc 499999) m) (le_z m (pos 500000)) h in
    let b : le_z m (pos 500000) ≡ true = and_right (le_z (negsuc 499999) m) (le_z m (pos 500000)) h in
    (grind (arith, ints), grind (arith, ints))

row_in_bounds : (r : Row) → row_fits r ≡ true → RowFits r
row_in_bounds (Test l s m) h = in_bounds m h
row_in_bounds (Not a) h = tt
row_in_bounds (And a b) h = tt
row_in_bounds (Or a b) h = tt
row_in_bounds (Eventually a b d) h = leb-true a b h
row_in_bounds (Always a b d) h = leb-true a b h
row_in_bounds (Until a b l r) h = leb-true a b h

one_before : (c a k : ℕ) → c ≡ a → ltb a k ≡ true → c < k
one_before c a k e h = let lt = ltb-true a k h in omega arith

two_before : (c a b k : ℕ) → (c ≡ a) ⊎ (c ≡ b) → ltb a k && ltb b k ≡ true → c < k
two_before c a b k (inl e) h = one_before c a k e (and_left _ _ h)
two_before c a b k (inr e) h = one_before c b k e (and_right (ltb a k) _ h)

child_before : (r : Row) (k c : ℕ) → row_earlier r k ≡ true → Child r c → c < k
child_before (Test l s m) k c h g = absurd g
child_before (Not a) k c h g = one_before c a k g h
child_before (And a b) k c h g = two_before c a b k g h
child_before (Or a b) k c h g = two_before c a b k g h
child_before (Eventually a b d) k c h g = one_before c d k g h
child_before (Always a b d) k c h g = one_before c d k g h
child_before (Until a b l r) k c h g = two_before c l r k g h

-- a child is counted, and what is counted is a child
is_one : (c a : ℕ) → c ≡ a → one_if (eqb c a) ≡ 1
is_one c a h = ap one_if (eq-eqb c a h)

is_same : (c a : ℕ) → 0 < one_if (eqb c a) → c ≡ a
is_same c a h =
    elim (eqb c a) as (λ (x : Bool). eqb c a ≡ x → 0 < one_if x → c ≡ a) [ true ↦ λ e g. eqb-true c a e | false ↦ λ e g. absurd (omega arith) ] refl h

two_counted : (c a b : ℕ) → (c ≡ a) ⊎ (c ≡ b) → 0 < one_if (eqb c a) + one_if (eqb c b)
two_counted c a b (inl e) = omega (arith, is_one c a e)
two_counted c a b (inr e) = omega (arith, is_one c b e)

two_child : (c a b : ℕ) → 0 < one_if (eqb c a) + one_if (eqb c b) → (c ≡ a) ⊎ (c ≡ b)
two_child c a b h =
    elim (eqb c a) as (λ (x : Bool). eqb c a ≡ x → 0 < one_if x + one_if (eqb c b) → (c ≡ a) ⊎ (c ≡ b)) [
      | true ↦ λ e g. inl (eqb-true c a e)
      | false ↦ λ e g. inr (is_same c b (omega arith))
    ] refl h

counted : (r : Row) (c : ℕ) → Child r c → 0 < kids r c
counted (Test l s m) c g = absurd g
counted (Not a) c g = omega (arith, is_one c a g)
counted (And a b) c g = two_counted c a b g
counted (Or a b) c g = two_counted c a b g
counted (Eventually a b d) c g = omega (arith, is_one c d g)
counted (Always a b d) c g = omega (arith, is_one c d g)
counted (Until a b l r) c g = two_counted c l r g

is_child : (r : Row) (c : ℕ) → 0 < kids r c → Child r c
is_child (Test l s m) c h = absurd (omega arith)
is_child (Not a) c h = is_same c a h
is_child (And a b) c h = two_child c a b h
is_child (Or a b) c h = two_child c a b h
is_child (Eventually a b d) c h = is_same c d h
is_child (Always a b d) c h = is_same c d h
is_child (Until a b l r) c h = two_child c l r h

twins : (a b : ℕ) → ((c : ℕ) → (c ≡ a) ⊎ (c ≡ b) → one_if (eqb c a) + one_if (eqb c b) ≤ 1) → a ≡ b → ⊥
twins a b h e = omega (arith, h a (inl refl), is_one a a refl, is_one a b e)

apart : (r : Row) → ((c : ℕ) → Child r c → kids r c ≤ 1) → TwinsApart r
apart (Test l s m) h = tt
apart (Not a) h = tt
apart (And a b) h = twins a b h
apart (Or a b) h = twins a b h
apart (Eventually a b d) h = tt
apart (Always a b d) h = tt
apart (Until a b l r) h = twins l r h

kids_in : (rows : List Row) (k c : ℕ) → k < length rows → kids (row_at rows k) c ≤ uses rows c
kids_in [] k c lt = absurd (omega arith)
kids_in (r ∷ rows) zero c lt = omega arith
kids_in (r ∷ rows) (suc k) c lt = omega (arith, kids_in rows k c (omega arith))

kids_two : (rows : List Row) (j k c : ℕ) → j < k → k < length rows → kids (row_at rows j) c + kids (row_at rows k) c ≤ uses rows c
kids_two [] j k c h lt = absurd (omega arith)
kids_two (r ∷ rows) j zero c h lt = absurd (omega arith)
kids_two (r ∷ rows) zero (suc k) c h lt = omega (arith, kids_in rows k c (omega arith))
kids_two (r ∷ rows) (suc j) (suc k) c h lt = omega (arith, kids_two rows j k c (omega arith) (omega arith))

some_parent : (rows : List Row) (c : ℕ) → 0 < uses rows c → (k : ℕ) × (k < length rows) × Child (row_at rows k) c
some_parent [] c h = absurd (omega arith)
some_parent (r ∷ rows) c h =
    elim (ltb 0 (kids r c)) as (λ (x : Bool). ltb 0 (kids r c) ≡ x → (k : ℕ) × (k < length (r ∷ rows)) × Child (row_at (r ∷ rows) k) c) [
      | true ↦ λ e. (0, omega arith, is_child r c (ltb-true 0 (kids r c) e))
      | false ↦ λ e. let le = ltb-false 0 (kids r c) e in let p = some_parent rows c (omega arith) in (suc p.0, omega (arith, p.1), p.2)
    ] refl

one_parent : (rows : List Row) (j k c : ℕ) → uses rows c ≡ 1 → j < length rows → k < length rows → Child (row_at rows j) c → Child (row_at rows k) c → j ≡ k
one_parent rows j k c u lj lk hj hk =
    elim (ltb j k) as (λ (x : Bool). ltb j k ≡ x → j ≡ k) [
      | true ↦ λ e. let lt = ltb-true j k e in absurd (omega (arith, kids_two rows j k c lt lk, counted (row_at rows j) c hj, counted (row_at rows k) c hk))
      | false ↦ λ e.
          elim (ltb k j) as (λ (y : Bool). ltb k j ≡ y → j ≡ k) [
            | true ↦ λ f. let lt = ltb-true k j f in absurd (omega (arith, kids_two rows k j c lt lj, counted (row_at rows j) c hj, counted (row_at rows k) c hk))
            | false ↦ λ f. omega (arith, ltb-false j k e, ltb-false k j f)
          ] refl
    ] refl

pub sound_of : (rows : List Row) → 0 < length rows → length rows ≤ 64 → ((k : ℕ) → k < length rows → row_fits (row_at rows k) ≡ true) → ((k : ℕ) → k < length rows → row_earlier (row_at rows k) k ≡ true) → ((c : ℕ) → suc c < length rows → uses rows c ≡ 1) → reach rows ≤ 500000000 → Sound rows
sound_of rows some few fits before once near =
    record {
      some_row = some;
      few = few;
      fits = λ k lt. row_in_bounds (row_at rows k) (fits k lt);
      earlier = λ k c lt h. child_before (row_at rows k) k c (before k lt) h;
      used = λ c lt. some_parent rows c (omega (arith, once c lt));
      once = λ j k c lj lk hj hk. one_parent rows j k c (once c (omega (arith, child_before (row_at rows j) j c (before j lj) hj))) lj lk hj hk;
      apart = λ k lt. apart (row_at rows k) (λ c h. omega (arith, kids_in rows k c lt, once c (omega (arith, child_before (row_at rows k) k c (before k lt) h))));
      near = near;
    }

-- every rule's table is sound
pub rule_sound : (r : Rule) → length r.rows ≡ 64 → Sound (take r.count r.rows)
rule_sound r full =
    let long : length (take r.count r.rows) ≡ r.count = length-take-le r.count r.rows (omega (arith, r.few)) in
    sound_of (take r.count r.rows) (omega (arith, long, r.some)) (omega (arith, long, r.few)) (λ k lt. r.fits k (omega (arith, long))) (λ k lt. r.earlier k (omega (arith, long))) (λ c lt. r.parent c (omega (arith, long))) r.near
