-- The marks of one row after those of the rows before it, and the loop over all rows.
use Rattle.std.proofs.Common.{◌≡◌, ℕ, ◌+◌, ◌<◌, Bool, true, false, List, [], ◌++◌, length, take, drop, ℤ, Ok, Err, Result, sym, refl, ap, ◌∙◌, subst, append_assoc, add-one, arith, length-append}
use borrow.Author.Tests.{both_ways}
use Rattle.std.proofs.lemmas.List.{drop-drop, append-nil}
use Rattle.pieces.specs.Cells.{Put}
use Rattle.judge.specs.Marks.{OfRow, OfRows, MarkedRow, MarkedTest, MarkedRows}
use Rattle.judge.specs.Children.{is_test}
use Rattle.rules.specs.declared.row.Side.{Side}
use Rattle.rules.specs.declared.row.Row.{Row}
use Rattle.rules.specs.declared.row.Row.TheVariants.{Test}
use Rattle.meaning.specs.declared.mark.Mark.{Mark}

module _ {X : Type 0} where
  drop_on : (xs ys : List X) (n k : ℕ) → drop n xs ≡ drop n ys → drop (n + k) xs ≡ drop (n + k) ys
  drop_on xs ys n k e = sym (drop-drop k n xs) ∙ ap (drop k) e ∙ drop-drop k n ys

  pub put_append : (before mid after : List X) (used : ℕ) (ms ns : List X) → Put before used ms mid → Put mid (used + length ms) ns after → Put before used (ms ++ ns) after
  put_append before mid after used ms ns p q =
      let z : used + length (ms ++ ns) ≡ (used + length ms) + length ns = omega (arith, length-append ms ns) in (
        ap (λ n. take n after) z ∙ q.0 ∙ ap (λ xs. xs ++ ns) p.0 ∙ append_assoc (take used before) ms ns,
        subst (λ n. drop n after ≡ drop n before) (sym z) (q.1 ∙ drop_on mid before (used + length ms) (length ns) p.1),
      )

module _ (tests : ℕ → Bool) (asks : ℕ → ℕ → Bool) (limit : ℕ → ℕ) where
  pub rows_more : (n : ℕ) (xs ys : List Mark) → OfRows tests asks limit n xs → OfRow tests asks limit n ys → OfRows tests asks limit (n + 1) (xs ++ ys)
  rows_more n xs ys h k = subst (λ m. OfRows tests asks limit m (xs ++ ys)) (sym (add-one n)) (xs, (ys, (refl, h, k)))

  pub rows_skip : (n : ℕ) (xs : List Mark) → OfRows tests asks limit n xs → tests n ≡ false → OfRows tests asks limit (n + 1) xs
  rows_skip n xs h e = subst (λ zs. OfRows tests asks limit (n + 1) zs) (append-nil xs) (rows_more n xs [] h (λ t. absurd (both_ways (tests n) e t), λ _. refl))

  -- the marks of the first k rows stand in the cells, `used` of them
  abbrev pub SoFar : List Mark → ℕ → ℕ → List Mark → Type 0
  SoFar first k used cells = (ms : List Mark) × ((used ≡ length ms) × Put first 0 ms cells × OfRows tests asks limit k ms)

  placed : (first cells after : List Mark) (used : ℕ) (ms ns : List Mark) → used ≡ length ms → Put first 0 ms cells → Put cells used ns after → Put first 0 (ms ++ ns) after
  placed first cells after used ms ns e p q =
      let z : used ≡ 0 + length ms = omega arith in
      put_append first cells after 0 ms ns p (subst (λ n. Put cells n ns after) z q)

  module _ (first : List Mark) (k used : ℕ) (cells after : List Mark) (S : SoFar first k used cells) where
    -- one row more
    pub next_row : (E : Type 0) (b : Bool) → tests k ≡ b → (n : ℕ) → MarkedTest {E = E} b (asks k) (limit k) k cells used after (Ok n) → SoFar first (k + 1) n after
    next_row E true e n m = (
      S.0 ++ m.0,
      (
        omega (arith, length-append S.0 m.0, m.1.0, S.1.0),
        placed first cells after used S.0 m.0 S.1.0 S.1.1 m.1.1,
        rows_more k S.0 m.0 S.1.2 (λ t. m.1.2, λ f. absurd (both_ways (tests k) f e)),
      ),
    )
    next_row E false e n m = (S.0, (m.0 ∙ S.1.0, subst (λ ms. Put first 0 S.0 ms) (sym m.1) S.1.1, rows_skip k S.0 S.1.2 e))

    -- the cells run out
    pub short_row : {E : Type 0} (fault : E) (b : Bool) → tests k ≡ b → (count : ℕ) → k < count → length cells ≡ length first → MarkedTest b (asks k) (limit k) k cells used after (Err fault) → MarkedRows tests asks limit count first after (Err fault)
    short_row fault true e count below kept m = (
      S.0 ++ m.0,
      (
        omega (arith, length-append S.0 m.0, m.1.0, S.1.0, kept),
        placed first cells after used S.0 m.0 S.1.0 S.1.1 m.1.1,
        (k, (S.0, (m.0, (below, refl, S.1.2, e, m.1.2)))),
      ),
    )
    short_row fault false e count below kept m = absurd m

-- the stretches of a test, by what is asked of it
pub marked_as : {E : Type 0} (row : Row) (l : ℕ) (side : Side) (m : ℤ) → row ≡ Test l side m → (f h : ℕ → Bool) → f ≡ h → (limit k : ℕ) (before : List Mark) (used : ℕ) (after : List Mark) (r : Result ℕ E) →
    MarkedRow f limit k before used after r → MarkedTest (is_test row) h limit k before used after r
marked_as row l side m is f h same limit k before used after r marked =
    subst (λ q. MarkedTest (is_test q) h limit k before used after r) (sym is) (subst (λ (q : ℕ → Bool). MarkedRow q limit k before used after r) same marked)
