-- The checks behind the grammar, one after the other, and the rule that passes them all.
use Rattle.std.proofs.Common.{◌≡◌, ℕ, suc, ◌+◌, ◌<◌, ◌≤◌, Bool, true, cond, List, length, take, Some, None, Ok, Err, Option, sym, ap, ◌∙◌, subst, arith, le-ltb, lt-ltb}
use Rattle.tokens.specs.declared.token.Token.{Token}
use Rattle.rules.specs.declared.row.Row.{Row}
use Rattle.rules.specs.declared.table.Table.{Table}
use Rattle.rules.specs.declared.fault.RuleFault.TheVariants.{UnknownName, OutOfBounds, TooDeep, TooManyRows, TooFar}
use Rattle.rules.specs.Rows.{row_at, row_fits, row_earlier, uses, reach}
use Rattle.rules.specs.Grammar.{expr, Phrase, Derives}
use Rattle.rules.specs.Tables.{size, rows_of, rises, deep_place}
use Rattle.rules.specs.Checks.{unknown_place, wrong}
use Rattle.rules.specs.Scans.{first_from, unknown_here, wrong_here}
use Rattle.rules.specs.Texts.{Answer, unless, near_enough, few_enough, shallow_enough, in_bounds, checked, Derived}
use Rattle.rules.proofs.Growth.{rows_long}
use Rattle.rules.proofs.Scanning.{unknown_scanned, wrong_scanned}
use Rattle.rules.proofs.Soundness.{each_at, size_some, earlier, fits, tree}

module _ {ts : List Token} {t : Table} (d : Derived ts t) where
  -- what was found in the tokens was found in the derivation
  found_unknown : (o : Option ℕ) → o ≡ first_from unknown_here 0 ts → unknown_place d.phrase ≡ o
  found_unknown o h = sym (unknown_scanned d.phrase) ∙ ap (first_from unknown_here 0) (sym d.derives.text) ∙ sym h

  found_wrong : (o : Option ℕ) → o ≡ first_from wrong_here 1 ts → wrong d.phrase ≡ o
  found_wrong o h = sym (wrong_scanned d.phrase) ∙ ap (first_from wrong_here 1) (sym d.derives.text) ∙ sym h

  found_deep : (o : Option ℕ) → t.deep ≡ o → deep_place (rises 0 0 d.phrase) ≡ o
  found_deep o h = sym d.holds.deep ∙ h

  count_is : t.count ≡ size d.phrase
  count_is = d.holds.count ∙ rows_long 0 d.phrase

  pub some_rows : 0 < t.count
  some_rows = subst (λ (n : ℕ). 0 < n) (sym count_is) (size_some d.phrase tt)

  -- the derivation is the one
  one : (p : Phrase expr) → Derives ts p → d.phrase ≡ p
  one p h = sym (d.derives.one p h.text)

  -- each answer
  pub names : (place : ℕ → ℕ) (i at : ℕ) → Some i ≡ first_from unknown_here 0 ts → at ≡ place i → (p : Phrase expr) → Derives ts p → ◌≡◌ {A = Answer} (Err (UnknownName at)) (checked place p)
  names place i at h e p g =
      ap (λ (n : ℕ). Err (UnknownName n)) e ∙ ap (λ (o : Option ℕ). unless o (λ j. UnknownName (place j)) (in_bounds place d.phrase)) (sym (found_unknown (Some i) h)) ∙ ap (checked place) (one p g)

  -- past the names
  after_names : (place : ℕ → ℕ) → None ≡ first_from unknown_here 0 ts → checked place d.phrase ≡ in_bounds place d.phrase
  after_names place h = ap (λ (o : Option ℕ). unless o (λ j. UnknownName (place j)) (in_bounds place d.phrase)) (found_unknown None h)

  pub numbers : (place : ℕ → ℕ) (i at : ℕ) → None ≡ first_from unknown_here 0 ts → Some i ≡ first_from wrong_here 1 ts → at ≡ place i → (p : Phrase expr) → Derives ts p → ◌≡◌ {A = Answer} (Err (OutOfBounds at)) (checked place p)
  numbers place i at u h e p g =
      ap (λ (n : ℕ). Err (OutOfBounds n)) e ∙ ap (λ (o : Option ℕ). unless o (λ j. OutOfBounds (place j)) (shallow_enough place d.phrase)) (sym (found_wrong (Some i) h)) ∙ sym (after_names place u) ∙ ap (checked place) (one p g)

  after_numbers : (place : ℕ → ℕ) → None ≡ first_from unknown_here 0 ts → None ≡ first_from wrong_here 1 ts → checked place d.phrase ≡ shallow_enough place d.phrase
  after_numbers place u h = after_names place u ∙ ap (λ (o : Option ℕ). unless o (λ j. OutOfBounds (place j)) (shallow_enough place d.phrase)) (found_wrong None h)

  pub depths : (place : ℕ → ℕ) (i at : ℕ) → None ≡ first_from unknown_here 0 ts → None ≡ first_from wrong_here 1 ts → t.deep ≡ Some i → at ≡ place i → (p : Phrase expr) → Derives ts p → ◌≡◌ {A = Answer} (Err (TooDeep at)) (checked place p)
  depths place i at u w h e p g =
      ap (λ (n : ℕ). Err (TooDeep n)) e ∙ ap (λ (o : Option ℕ). unless o (λ j. TooDeep (place j)) (few_enough d.phrase)) (sym (found_deep (Some i) h)) ∙ sym (after_numbers place u w) ∙ ap (checked place) (one p g)

  after_depths : (place : ℕ → ℕ) → None ≡ first_from unknown_here 0 ts → None ≡ first_from wrong_here 1 ts → t.deep ≡ None → checked place d.phrase ≡ few_enough d.phrase
  after_depths place u w h = after_numbers place u w ∙ ap (λ (o : Option ℕ). unless o (λ j. TooDeep (place j)) (few_enough d.phrase)) (found_deep None h)

  pub many : (place : ℕ → ℕ) → None ≡ first_from unknown_here 0 ts → None ≡ first_from wrong_here 1 ts → t.deep ≡ None → 64 < t.count → (p : Phrase expr) → Derives ts p → ◌≡◌ {A = Answer} (Err TooManyRows) (checked place p)
  many place u w h lt p g =
      ap (λ (b : Bool). cond b (Err TooManyRows) (near_enough d.phrase)) (sym (lt-ltb 64 (size d.phrase) (omega (arith, count_is)))) ∙ sym (after_depths place u w h) ∙ ap (checked place) (one p g)

  pub held : t.count ≤ 64 → take t.count t.rows ≡ rows_of 0 d.phrase
  held le = d.holds.kept (omega (arith, d.holds.count))

  after_rows : (place : ℕ → ℕ) → None ≡ first_from unknown_here 0 ts → None ≡ first_from wrong_here 1 ts → t.deep ≡ None → t.count ≤ 64 → checked place d.phrase ≡ near_enough d.phrase
  after_rows place u w h le = after_depths place u w h ∙ ap (λ (b : Bool). cond b (Err TooManyRows) (near_enough d.phrase)) (le-ltb 64 (size d.phrase) (omega (arith, count_is)))

  pub too_far : (place : ℕ → ℕ) → None ≡ first_from unknown_here 0 ts → None ≡ first_from wrong_here 1 ts → t.deep ≡ None → t.count ≤ 64 → 500000000 < reach (take t.count t.rows) → (p : Phrase expr) → Derives ts p → ◌≡◌ {A = Answer} (Err TooFar) (checked place p)
  too_far place u w h le lt p g =
      let r : 500000000 < reach (rows_of 0 d.phrase) = subst (λ (v : List Row). 500000000 < reach v) (held le) lt in
      ap (λ (b : Bool). cond b (Err TooFar) (Ok (rows_of 0 d.phrase))) (sym (lt-ltb 500000000 (reach (rows_of 0 d.phrase)) r)) ∙ sym (after_rows place u w h le) ∙ ap (checked place) (one p g)

  pub accepted : (place : ℕ → ℕ) → None ≡ first_from unknown_here 0 ts → None ≡ first_from wrong_here 1 ts → t.deep ≡ None → t.count ≤ 64 → reach (take t.count t.rows) ≤ 500000000 → (p : Phrase expr) → Derives ts p → ◌≡◌ {A = Answer} (Ok (take t.count t.rows)) (checked place p)
  accepted place u w h le near p g =
      let r : reach (rows_of 0 d.phrase) ≤ 500000000 = subst (λ (v : List Row). reach v ≤ 500000000) (held le) near in
      ap (λ (v : List Row). Ok v) (held le) ∙ ap (λ (b : Bool). cond b (Err TooFar) (Ok (rows_of 0 d.phrase))) (sym (le-ltb 500000000 (reach (rows_of 0 d.phrase)) r)) ∙ sym (after_rows place u w h le) ∙ ap (checked place) (one p g)

  -- and what the rule keeps
  long : length (rows_of 0 d.phrase) ≡ t.count
  long = sym d.holds.count

  pub kept_fits : None ≡ first_from wrong_here 1 ts → t.count ≤ 64 → (k : ℕ) → k < t.count → row_fits (row_at (take t.count t.rows) k) ≡ true
  kept_fits w le k lt =
      subst (λ (v : List Row). row_fits (row_at v k) ≡ true) (sym (held le)) (each_at (λ r n. row_fits r ≡ true) 0 (rows_of 0 d.phrase) (fits 0 0 d.phrase (found_wrong None w)) k (omega (arith, long)))

  pub kept_earlier : t.count ≤ 64 → (k : ℕ) → k < t.count → row_earlier (row_at (take t.count t.rows) k) k ≡ true
  kept_earlier le k lt =
      let h : row_earlier (row_at (rows_of 0 d.phrase) k) (0 + k) ≡ true = each_at (λ r n. row_earlier r n ≡ true) 0 (rows_of 0 d.phrase) (earlier 0 d.phrase) k (omega (arith, long)) in
      let z : 0 + k ≡ k = omega arith in
      subst (λ (v : List Row). row_earlier (row_at v k) k ≡ true) (sym (held le)) (subst (λ (n : ℕ). row_earlier (row_at (rows_of 0 d.phrase) k) n ≡ true) z h)

  pub kept_parent : t.count ≤ 64 → (c : ℕ) → suc c < t.count → uses (take t.count t.rows) c ≡ 1
  kept_parent le c lt = subst (λ (v : List Row). uses v c ≡ 1) (sym (held le)) ((tree 0 d.phrase tt c).0 (omega arith) (omega (arith, count_is)))
