-- What the look-ups in a rule's rows find.
use Rattle.std.proofs.Common.{◌≡◌, ℕ, zero, suc, ◌<◌, ◌≤◌, Bool, true, false, ◌&&◌, ltb, List, [], ◌∷◌, length, Some, None, Option, refl, arith, ltb-false, ltb-true, lt-ltb}
use borrow.Author.Tests.{both_ways}
use Rattle.std.specs.List.{list_all}
use Rattle.rules.specs.declared.row.Row.{Row}
use Rattle.rules.specs.declared.row.Row.TheVariants.{Test, Not, And, Or, Eventually, Always, Until}
use Rattle.rules.specs.Rows.{Sound}
use Rattle.rules.specs.Parents.{FirstParent, Parent}
use Rattle.rules.specs.Tested.{Tests, TestsOnlyBelow, row_below}

-- in sound rows it is the one parent, and all but the last have one
pub parent_found : (rows : List Row) (c : ℕ) (o : Option ℕ) → Sound rows → FirstParent rows c o → Parent rows c o
parent_found rows c None sound h =
    elim (ltb (suc c) (length rows)) as (λ (b : Bool). ltb (suc c) (length rows) ≡ b → length rows ≤ suc c) [
      | true ↦ λ e. let p = sound.used c (ltb-true (suc c) (length rows) e) in absurd (h p.0 p.1 p.2)
      | false ↦ λ e. ltb-false (suc c) (length rows) e
    ] refl
parent_found rows c (Some p) sound h = (h.0, h.1.0)

below_is : (row : Row) (lines line : ℕ) → row_below row lines ≡ true → Tests row line → line < lines
below_is (Test l s m) lines line e t = let lt = ltb-true l lines e in omega (arith, t)
below_is (Not a) lines line e t = absurd t
below_is (And a b) lines line e t = absurd t
below_is (Or a b) lines line e t = absurd t
below_is (Eventually a b d) lines line e t = absurd t
below_is (Always a b d) lines line e t = absurd t
below_is (Until a b l r) lines line e t = absurd t

is_below : (row : Row) (lines : ℕ) → ((line : ℕ) → Tests row line → line < lines) → row_below row lines ≡ true
is_below (Test l s m) lines h = lt-ltb l lines (h l refl)
is_below (Not a) lines h = refl
is_below (And a b) lines h = refl
is_below (Or a b) lines h = refl
is_below (Eventually a b d) lines h = refl
is_below (Always a b d) lines h = refl
is_below (Until a b l r) lines h = refl

both_yes : (a b : Bool) → a && b ≡ true → (a ≡ true) × (b ≡ true)
both_yes true b e = (refl, e)
both_yes false b e = absurd (both_ways false refl e)

pub only_below : (rows : List Row) (lines : ℕ) → list_all (λ r. row_below r lines) rows ≡ true → TestsOnlyBelow rows lines
only_below [] lines e k line lt t = absurd (omega arith)
only_below (r ∷ rows) lines e zero line lt t = below_is r lines line (both_yes (row_below r lines) (list_all (λ q. row_below q lines) rows) e).0 t
only_below (r ∷ rows) lines e (suc k) line lt t = only_below rows lines (both_yes (row_below r lines) (list_all (λ q. row_below q lines) rows) e).1 k line (omega arith) t

pub is_below_all : (rows : List Row) (lines : ℕ) → TestsOnlyBelow rows lines → list_all (λ r. row_below r lines) rows ≡ true
is_below_all [] lines h = refl
is_below_all (r ∷ rows) lines h = both (row_below r lines) (list_all (λ q. row_below q lines) rows) (is_below r lines (λ line t. h 0 line (omega arith) t)) (is_below_all rows lines (λ k line lt t. h (suc k) line (omega arith) t))
  where
    both : (a b : Bool) → a ≡ true → b ≡ true → a && b ≡ true
    both true b e f = f
    both false b e f = absurd (both_ways false refl e)
