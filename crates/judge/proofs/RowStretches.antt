-- The stretches of all test rows are the marks that the meaning lists, and what begins them goes on to all of them.
use Rattle.std.proofs.Common.{◌≡◌, ℕ, zero, suc, ◌+◌, ◌-◌, ◌<◌, ◌≤◌, Bool, true, false, List, [], ◌∷◌, ◌++◌, length, sym, refl, ap, ◌∙◌, subst, ⊎_elim, append_assoc, arith, length-append}
use borrow.Author.Tests.{both_ways, clash}
use Rattle.std.proofs.lemmas.Bool.{cases_Bool}
use Rattle.std.proofs.lemmas.List.{append-nil}
use Rattle.grades.specs.Kinds.{Kind, Tells}
use Rattle.grades.specs.Ranges.{Settled}
use Rattle.rules.specs.Rows.{row_at, Sound}
use Rattle.rules.specs.declared.row.Row.{Row}
use Rattle.rules.specs.declared.row.Row.TheVariants.{Test, Not, And, Or, Eventually, Always, Until}
use Rattle.meaning.specs.declared.mark.Mark.{Mark}
use Rattle.meaning.specs.Readings.{Readings}
use Rattle.meaning.specs.Values.{value}
use Rattle.meaning.specs.Verdicts.{ranges}
use Rattle.meaning.specs.Wants.{Wanted}
use Rattle.rules.specs.Tested.{Tests}
use Rattle.meaning.specs.Marks.{ListsStretches, Marked, Marks}
use Rattle.meaning.proofs.Wanting.{wanted_below}
use Rattle.meaning.proofs.Stretches.{Next as ChainNext, Chain, has_chain}
use Rattle.meaning.proofs.Lists.{Upto as RowsBelow, lists_as, lists_none, lists_more}
use Rattle.judge.specs.Children.{is_test}
use Rattle.judge.specs.Marks.{NextStretch, Upto, Stretches, SomeStretches, OfRow, OfRows, SomeOfRows}
use Rattle.meaning.proofs.Readings.{tells_as}
use Rattle.judge.proofs.Anys.{tells_yes, tells_no}

test_line : (row : Row) → is_test row ≡ true → (line : ℕ) × Tests row line
test_line (Test l s m) e = (l, refl)
test_line (Not d) e = absurd (clash e)
test_line (And l r) e = absurd (clash e)
test_line (Or l r) e = absurd (clash e)
test_line (Eventually a b d) e = absurd (clash e)
test_line (Always a b d) e = absurd (clash e)
test_line (Until a b l r) e = absurd (clash e)

line_test : (row : Row) (line : ℕ) → Tests row line → is_test row ≡ true
line_test (Test l s m) line h = refl
line_test (Not d) line h = absurd h
line_test (And l r) line h = absurd h
line_test (Or l r) line h = absurd h
line_test (Eventually a b d) line h = absurd h
line_test (Always a b d) line h = absurd h
line_test (Until a b l r) line h = absurd h

-- f says where P holds, which is below the limit
module _ (P : ℕ → Type 0) (f : ℕ → Bool) (limit row : ℕ) (told : (u : ℕ) → Tells (f u) (P u)) (near : (u : ℕ) → f u ≡ true → u < limit) where
  said_yes : (u : ℕ) → P u → f u ≡ true
  said_yes u p = tells_no (P u) (f u) (told u) p

  decided : (u : ℕ) → Dec (P u)
  decided u = ⊎_elim (λ (e : f u ≡ true). yes (tells_yes (P u) (f u) (told u) e)) (λ (e : f u ≡ false). no (λ p. both_ways (f u) e (said_yes u p))) (cases_Bool (f u))

  next_chained : (s : ℕ) (m : Mark) → NextStretch f limit row s m → ChainNext P row s m
  next_chained s m n = record {
    of_row = n.of_row;
    from = n.from;
    before = λ u a b p. n.before u a b (said_yes u p);
    some = n.some;
    all = λ u a b. tells_yes (P u) (f u) (told u) (n.yes u a b);
    ends = λ p. let e = said_yes m.after p in both_ways (f m.after) (n.over (near m.after e)) e;
  }

  -- all stretches are the chain
  chained : (s : ℕ) (ms : List Mark) → Stretches f limit row s ms → Chain P row s ms
  chained s [] h = λ u a p. let e = said_yes u p in h u a (near u e) e
  chained s (m ∷ ms) h = (next_chained s m h.0, chained m.after ms h.1)

  -- and the first of them begin it
  upto_chained : (s e : ℕ) (ms rest : List Mark) → Upto f limit row s ms e → Chain P row e rest → Chain P row s (ms ++ rest)
  upto_chained s e [] rest u c = subst (λ k. Chain P row k rest) (sym u) c
  upto_chained s e (m ∷ ms) rest u c = (next_chained s m u.0, upto_chained m.after e ms rest u.1 c)

  chain_there : (s : ℕ) → (ms : List Mark) × Chain P row s ms
  chain_there s = has_chain decided row limit (λ u p. near u (said_yes u p)) limit s (omega arith)

  some_in : (s : ℕ) (ms : List Mark) → Chain P row s ms → (t : ℕ) → s ≤ t → f t ≡ true → 0 < length ms
  some_in s [] c t l e = absurd (c t l (tells_yes (P t) (f t) (told t) e))
  some_in s (m ∷ ms) c t l e = omega arith

  -- a beginning goes on to all of them
  goes_on : (ms : List Mark) → SomeStretches f limit row ms → (more : List Mark) × ((0 < length more) × Chain P row 0 (ms ++ more))
  goes_on ms h =
      let e = h.0 in
      let c = chain_there e in
      let t = h.1.1 in
      (c.0, (some_in e c.0 c.1 t.0 t.1.0 t.1.2, upto_chained 0 e ms c.0 h.1.0 c.1))

-- asks says where each row is wanted and not settled, which is below the limit
module _ (K : Kind) (rows : List Row) (sound : Sound rows) (x : Readings) (asked_at limit : ℕ) (asks : ℕ → ℕ → Bool)
    (told : (k u : ℕ) → k < length rows → Tells (asks k u) (Wanted K rows (value (ranges K) rows x) asked_at k u × ¬ (Settled K (value (ranges K) rows x k u))))
    (near : (k u : ℕ) → k < length rows → asks k u ≡ true → u < limit) where
  abbrev tests : ℕ → Bool
  tests r = is_test (row_at rows r)

  abbrev P : ℕ → ℕ → Type 0
  P = Marked K rows x asked_at

  marked_told : (k : ℕ) → k < length rows → tests k ≡ true → (u : ℕ) → Tells (asks k u) (P k u)
  marked_told k below e u =
      let l = test_line (row_at rows k) e in
      tells_as (asks k u) (λ h. record { line = l.0; tests = l.1; wanted = h.0; unsettled = h.1 }) (λ m. (m.wanted, m.unsettled)) (told k u below)

  no_marks : (k : ℕ) → tests k ≡ false → (u : ℕ) → P k u → ⊥
  no_marks k e u m = both_ways (tests k) e (line_test (row_at rows k) m.line m.tests)

  row_chain : (n : ℕ) → n < length rows → (ys : List Mark) → OfRow tests asks (λ r. limit) n ys → Chain (P n) n 0 ys
  row_chain n below ys h =
      ⊎_elim (λ (e : tests n ≡ true). chained (P n) (asks n) limit n (marked_told n below e) (λ u. near n u below) 0 ys (h.0 e))
      (λ (e : tests n ≡ false). subst (λ zs. Chain (P n) n 0 zs) (sym (h.1 e)) (λ u l p. no_marks n e u p))
      (cases_Bool (tests n))

  row_there : (n : ℕ) → n < length rows → (ys : List Mark) × Chain (P n) n 0 ys
  row_there n below =
      ⊎_elim (λ (e : tests n ≡ true). chain_there (P n) (asks n) limit n (marked_told n below e) (λ u. near n u below) 0)
      (λ (e : tests n ≡ false). ([], λ u l p. no_marks n e u p))
      (cases_Bool (tests n))

  rows_list : (n : ℕ) → n ≤ length rows → (ms : List Mark) → OfRows tests asks (λ r. limit) n ms → ListsStretches (RowsBelow P n) ms
  rows_list zero le ms h = subst (λ zs. ListsStretches (RowsBelow P 0) zs) (sym h) (lists_none P)
  rows_list (suc n) le ms h =
      let xs = h.0 in
      let ys = h.1.0 in
      let i = h.1.1 in
      subst (λ zs. ListsStretches (RowsBelow P (suc n)) zs) (sym i.0) (lists_more P n xs ys (rows_list n (omega arith) xs i.1) (row_chain n (omega arith) ys i.2))

  rows_on : (d n : ℕ) → n + d ≡ length rows → (ms : List Mark) → ListsStretches (RowsBelow P n) ms → (more : List Mark) × ListsStretches (RowsBelow P (length rows)) (ms ++ more)
  rows_on zero n e ms h =
      let is : n ≡ length rows = omega arith in
      ([], subst (λ zs. ListsStretches (RowsBelow P (length rows)) zs) (sym (append-nil ms)) (subst (λ j. ListsStretches (RowsBelow P j) ms) is h))
  rows_on (suc d) n e ms h =
      let c = row_there n (omega arith) in
      let r = rows_on d (suc n) (omega arith) (ms ++ c.0) (lists_more P n ms c.0 h c.1) in
      (c.0 ++ r.0, subst (λ zs. ListsStretches (RowsBelow P (length rows)) zs) (append_assoc ms c.0 r.0) r.1)

  all_rows : (ms : List Mark) → ListsStretches (RowsBelow P (length rows)) ms → Marks K rows x asked_at ms
  all_rows ms h = lists_as (λ k u p. p.1) (λ k u p. (wanted_below K sound (value (ranges K) rows x) asked_at k u p.wanted, p)) ms h

  pub marks_whole : (ms : List Mark) → OfRows (λ r. is_test (row_at rows r)) asks (λ r. limit) (length rows) ms → Marks K rows x asked_at ms
  marks_whole ms h = all_rows ms (rows_list (length rows) (omega arith) ms h)

  pub marks_begun : (ms : List Mark) → SomeOfRows (λ r. is_test (row_at rows r)) asks (λ r. limit) (length rows) ms → (more : List Mark) × ((0 < length more) × Marks K rows x asked_at (ms ++ more))
  marks_begun ms h =
      let r = h.0 in
      let xs = h.1.0 in
      let ys = h.1.1.0 in
      let i = h.1.1.1 in
      let z = goes_on (P r) (asks r) limit r (marked_told r i.0 i.3) (λ u. near r u i.0) ys i.4 in
      let zs = z.0 in
      let l = rows_on (length rows - suc r) (suc r) (omega (arith, i.0)) (xs ++ (ys ++ zs)) (lists_more P r xs (ys ++ zs) (rows_list r (omega (arith, i.0)) xs i.2) z.1.1) in
      let is : (xs ++ (ys ++ zs)) ++ l.0 ≡ ms ++ (zs ++ l.0) = ap (λ q. q ++ l.0) (sym (append_assoc xs ys zs)) ∙ append_assoc (xs ++ ys) zs l.0 ∙ ap (λ q. q ++ (zs ++ l.0)) (sym i.1) in
      (zs ++ l.0, (omega (arith, length-append zs l.0, z.1.0), subst (λ q. Marks K rows x asked_at q) is (all_rows ((xs ++ (ys ++ zs)) ++ l.0) l.1)))
