-- A row's value is its step over the values of the rows, and what is shown row by row.
use Rattle.std.proofs.Common.{◌≡◌, ℕ, zero, suc, pred, ◌+◌, ◌-◌, ◌<◌, max, List, [], ◌∷◌, ◌++◌, length, get_or, sym, refl, ap, ◌∙◌, subst, ap₂, inl, inr, le_of_suc-le-suc, not-suc-le-zero, add-zero, arith, length-append}
use lib.ListN.{get_or-append}
use Rattle.rules.specs.Rows.{row_at, Child, Sound, row_reach_by, reaches_from}
use Rattle.rules.specs.declared.row.Row.{Row}
use Rattle.rules.specs.declared.row.Row.TheVariants.{Test, Not, And, Or, Eventually, Always, Until}
use Rattle.meaning.specs.Values.{Algebra, over, until_at, step, signal, values, value}

pub root_below : {rows : List Row} → Sound rows → pred (length rows) < length rows
root_below sound = omega (arith, sound.some_row)

pub by_rows : {rows : List Row} → Sound rows → (P : ℕ → Type 0) →
    ((k : ℕ) → k < length rows → ((c : ℕ) → Child (row_at rows k) c → P c) → P k) → (k : ℕ) → k < length rows → P k
by_rows {rows} sound P f k h = go (suc k) k (omega arith) h
  where
    go : (n k : ℕ) → k < n → k < length rows → P k
    go zero k h j = absurd (not-suc-le-zero h)
    go (suc n) k h j = f k j (λ c p. let e = sound.earlier k c j p in go n c (omega arith) (omega arith))

getD_last : {A : Type 0} (vs : List A) (f d : A) → get_or (vs ++ (f ∷ [])) (length vs) d ≡ f
getD_last [] f d = refl
getD_last (v ∷ vs) f d = getD_last vs f d

-- a list that grows by one entry for each row, made of the entries before
module _ {A : Type 0} (next : List A → Row → A) (d : A) where
  build : List A → List Row → List A
  build vs [] = vs
  build vs (r ∷ rows) = build (vs ++ (next vs r ∷ [])) rows

  kept : (vs : List A) (rows : List Row) (k : ℕ) → k < length vs → get_or (build vs rows) k d ≡ get_or vs k d
  unfolding build
  kept vs [] k h = refl
  kept vs (r ∷ rows) k h =
      let f = next vs r in
      kept (vs ++ (f ∷ [])) rows k (omega (arith, length-append vs (f ∷ []))) ∙ get_or-append vs (f ∷ []) d k h

  -- the entry of a row is as it would be made of the finished list, if it goes by the children alone
  made : ((vs ws : List A) (r : Row) → ((c : ℕ) → Child r c → get_or vs c d ≡ get_or ws c d) → next vs r ≡ next ws r) →
      (vs : List A) (rows : List Row) (i : ℕ) → i < length rows → ((c : ℕ) → Child (row_at rows i) c → c < length vs + i) →
      get_or (build vs rows) (length vs + i) d ≡ next (build vs rows) (row_at rows i)
  unfolding build
  made same vs [] i h e = absurd (not-suc-le-zero h)
  made same vs (r ∷ rows) zero h e =
      let f = next vs r in
      let ws = build (vs ++ (f ∷ [])) rows in
      ap (λ j. get_or ws j d) (add-zero (length vs)) ∙ kept (vs ++ (f ∷ [])) rows (length vs) (omega (arith, length-append vs (f ∷ []))) ∙
      getD_last vs f d ∙ same vs ws r (λ c p. sym (kept vs (r ∷ rows) c (omega (arith, e c p))))
  made same vs (r ∷ rows) (suc i) h e =
      let f = next vs r in
      let ws = build (vs ++ (f ∷ [])) rows in
      let n : length (vs ++ (f ∷ [])) + i ≡ length vs + suc i = omega (arith, length-append vs (f ∷ [])) in
      subst (λ j. get_or ws j d ≡ next ws (row_at rows i)) n
      (made same (vs ++ (f ∷ [])) rows i (le_of_suc-le-suc h) (λ c p. omega (arith, e c p, n)))

  built : ((vs ws : List A) (r : Row) → ((c : ℕ) → Child r c → get_or vs c d ≡ get_or ws c d) → next vs r ≡ next ws r) →
      {rows : List Row} → Sound rows → (k : ℕ) → k < length rows → get_or (build [] rows) k d ≡ next (build [] rows) (row_at rows k)
  built same {rows} sound k h =
      let n : 0 + k ≡ k = omega arith in
      subst (λ j. get_or (build [] rows) j d ≡ next (build [] rows) (row_at rows k)) n
      (made same [] rows k h (λ c p. omega (arith, sound.earlier k c h p)))

module _ {X C : Type 0} (A : Algebra X C) (x : ℕ → ℕ → X) where
  step_same : (v w : ℕ → ℕ → C) (r : Row) → ((c : ℕ) → Child r c → v c ≡ w c) → step A x v r ≡ step A x w r
  unfolding step
  step_same v w (Test l s m) e = refl
  step_same v w (Not c) e = λ i t. A.opposite (e c refl i t)
  step_same v w (And l r) e = λ i t. A.meet (e l (inl refl) i t) (e r (inr refl) i t)
  step_same v w (Or l r) e = λ i t. A.join (e l (inl refl) i t) (e r (inr refl) i t)
  step_same v w (Eventually a b c) e = λ i t. over A.join (e c refl i) (t + a) (b - a)
  step_same v w (Always a b c) e = λ i t. over A.meet (e c refl i) (t + a) (b - a)
  step_same v w (Until a b l r) e = λ i t. over A.join (until_at A (e l (inl refl) i) (e r (inr refl) i) t) (t + a) (b - a)

  next_value : List (ℕ → C) → Row → ℕ → C
  next_value vs r = step A x (signal A vs) r

  values_built : (vs : List (ℕ → C)) (rows : List Row) → values A x vs rows ≡ build next_value (λ t. A.lowest) vs rows
  unfolding values build next_value
  values_built vs [] = refl
  values_built vs (r ∷ rows) = values_built (vs ++ (step A x (signal A vs) r ∷ [])) rows

  pub value_is : {rows : List Row} → Sound rows → (k : ℕ) → k < length rows → (t : ℕ) → value A rows x k t ≡ step A x (value A rows x) (row_at rows k) t
  unfolding value next_value
  value_is {rows} sound k h t =
      subst (λ (ws : List (ℕ → C)). signal A ws k t ≡ step A x (signal A ws) (row_at rows k) t) (sym (values_built [] rows))
      (ap (λ (s : ℕ → C). s t) (built next_value (λ t. A.lowest) (λ vs ws r e. step_same (signal A vs) (signal A ws) r e) sound k h))

-- how far each row looks ahead
abbrev pub reach_of : List Row → ℕ → ℕ
reach_of rows k = get_or (reaches_from [] rows) k 0

reach_same : (vs ws : List ℕ) (r : Row) → ((c : ℕ) → Child r c → get_or vs c 0 ≡ get_or ws c 0) → row_reach_by vs r ≡ row_reach_by ws r
reach_same vs ws (Test l s m) e = refl
reach_same vs ws (Not a) e = e a refl
reach_same vs ws (And a b) e = ap₂ max (e a (inl refl)) (e b (inr refl))
reach_same vs ws (Or a b) e = ap₂ max (e a (inl refl)) (e b (inr refl))
reach_same vs ws (Eventually a b d) e = ap (λ n. n + b) (e d refl)
reach_same vs ws (Always a b d) e = ap (λ n. n + b) (e d refl)
reach_same vs ws (Until a b l r) e = ap₂ (λ m n. max m n + b) (e l (inl refl)) (e r (inr refl))

reaches_built : (vs : List ℕ) (rows : List Row) → reaches_from vs rows ≡ build row_reach_by 0 vs rows
unfolding build
reaches_built vs [] = refl
reaches_built vs (r ∷ rows) = reaches_built (vs ++ (row_reach_by vs r ∷ [])) rows

pub reach_is : {rows : List Row} → Sound rows → (k : ℕ) → k < length rows → reach_of rows k ≡ row_reach_by (reaches_from [] rows) (row_at rows k)
reach_is {rows} sound k h =
    subst (λ ws. get_or ws k 0 ≡ row_reach_by ws (row_at rows k)) (sym (reaches_built [] rows)) (built row_reach_by 0 reach_same sound k h)
