-- Cells with something written over a part of them.
use Rattle.std.proofs.Common.{◌≡◌, ℕ, suc, ◌+◌, ◌-◌, ◌<◌, ◌≤◌, List, [], ◌∷◌, ◌++◌, length, take, drop, set, sym, refl, ap, ◌∙◌, ap₂, append_assoc, arith, take-add}
use lib.Seq.{paste}
use Rattle.std.proofs.lemmas.List.{length-append, length-take-le, length-drop, take-append-drop, take_at, drop_at, take-take, drop-drop, drop-take, set_split}
use Rattle.jobs.specs.Lines.{cells_from}
use Rattle.jobs.specs.Edits.{written}

module _ {X : Type 0} where
  module _ (xs : List X) (a : ℕ) (ys : List X) (fits : a + length ys ≤ length xs) where
    pub take_written : (n : ℕ) → n ≤ a → take n (written xs a ys) ≡ take n xs
    take_written n h =
        let all : take a (written xs a ys) ≡ take a xs = take_at (take a xs) (ys ++ drop (a + length ys) xs) a (length-take-le a xs (omega arith)) in
        sym (take-take n a (written xs a ys) h) ∙ ap (take n) all ∙ take-take n a xs h

    drop_start : drop a (written xs a ys) ≡ ys ++ drop (a + length ys) xs
    drop_start = drop_at (take a xs) (ys ++ drop (a + length ys) xs) a (length-take-le a xs (omega arith))

    -- what was written
    pub part_written : cells_from (written xs a ys) a (length ys) ≡ ys
    part_written = ap (take (length ys)) drop_start ∙ take_at ys (drop (a + length ys) xs) (length ys) refl

    drop_end : drop (a + length ys) (written xs a ys) ≡ drop (a + length ys) xs
    drop_end = sym (drop-drop (length ys) a (written xs a ys)) ∙ ap (drop (length ys)) drop_start ∙ drop_at ys (drop (a + length ys) xs) (length ys) refl

    pub drop_written : (n : ℕ) → a + length ys ≤ n → drop n (written xs a ys) ≡ drop n xs
    drop_written n h =
        let e : n ≡ (a + length ys) + (n - (a + length ys)) = omega arith in
        ap (λ m. drop m (written xs a ys)) e ∙ sym (drop-drop (n - (a + length ys)) (a + length ys) (written xs a ys))
        ∙ ap (drop (n - (a + length ys))) drop_end
        ∙ drop-drop (n - (a + length ys)) (a + length ys) xs ∙ ap (λ m. drop m xs) (sym e)

    pub length_written : length (written xs a ys) ≡ length xs
    length_written =
        length-append (take a xs) (ys ++ drop (a + length ys) xs)
        ∙ omega (arith, length-take-le a xs (omega arith), length-append ys (drop (a + length ys) xs), length-drop (a + length ys) xs)

    module _ (zs : List X) where
      joined_length : (a + length ys) + length zs ≡ a + length (ys ++ zs)
      joined_length = omega (arith, length-append ys zs)

      both : take a xs ++ (ys ++ (zs ++ drop ((a + length ys) + length zs) xs)) ≡ written xs a (ys ++ zs)
      both =
          ap (λ m. take a xs ++ (ys ++ (zs ++ drop m xs))) joined_length
          ∙ ap (λ ws. take a xs ++ ws) (sym (append_assoc ys zs (drop (a + length (ys ++ zs)) xs)))

      -- a write right behind another
      pub written_behind : written (written xs a ys) (a + length ys) zs ≡ written xs a (ys ++ zs)
      written_behind =
          ap₂ (λ us ws. us ++ (zs ++ ws)) (take-add a (length ys) (written xs a ys) ∙ ap₂ (λ us ws. us ++ ws) (take_written a (omega arith)) part_written) (drop_written ((a + length ys) + length zs) (omega arith))
          ∙ append_assoc (take a xs) ys (zs ++ drop ((a + length ys) + length zs) xs)
          ∙ both

  -- a write right before another
  pub written_before : (xs : List X) (a : ℕ) (ys zs : List X) → (a + length ys) + length zs ≤ length xs → written (written xs (a + length ys) zs) a ys ≡ written xs a (ys ++ zs)
  written_before xs a ys zs h =
      ap₂ (λ us ws. us ++ (ys ++ ws)) (take_written xs (a + length ys) zs h a (omega arith)) (drop_start xs (a + length ys) zs h)
      ∙ both xs a ys (omega arith) zs

  -- a write over the end of a part is one over the whole part
  pub written_inner : (xs : List X) (b i : ℕ) (zs : List X) → b + i ≤ length xs → written xs (b + i) zs ≡ written xs b (take i (drop b xs) ++ zs)
  written_inner xs b i zs h =
      let l : length (take i (drop b xs)) ≡ i = length-take-le i (drop b xs) (omega (arith, length-drop b xs)) in
      let e : (b + i) + length zs ≡ b + length (take i (drop b xs) ++ zs) = omega (arith, length-append (take i (drop b xs)) zs) in
      ap₂ (λ us m. us ++ (zs ++ drop m xs)) (take-add b i xs) e
      ∙ append_assoc (take b xs) (take i (drop b xs)) (zs ++ drop (b + length (take i (drop b xs) ++ zs)) xs)
      ∙ ap (λ ws. take b xs ++ ws) (sym (append_assoc (take i (drop b xs)) zs (drop (b + length (take i (drop b xs) ++ zs)) xs)))

  pub set_written : (xs : List X) (a : ℕ) (y : X) → a < length xs → set xs a y ≡ written xs a (y ∷ [])
  set_written xs a y h = let e : suc a ≡ a + 1 = omega arith in set_split xs a y h ∙ ap (λ m. take a xs ++ (y ∷ drop m xs)) e

  pub none_written : (xs : List X) (a : ℕ) → xs ≡ written xs a []
  none_written xs a = let e : a + 0 ≡ a = omega arith in sym (ap (λ m. take a xs ++ drop m xs) e ∙ take-append-drop a xs)

  pub paste_written : (xs : List X) (a : ℕ) (s : List X) (n : ℕ) → n ≤ length s → paste xs a s n ≡ written xs a (take n s)
  paste_written xs a s n h =
      append_assoc (take a xs) (take n s) (drop (a + n) xs) ∙ ap (λ m. take a xs ++ (take n s ++ drop (a + m) xs)) (sym (length-take-le n s h))

  -- parts by their own parts
  pub drop_part : (xs : List X) (base count k : ℕ) → k ≤ count → drop k (cells_from xs base count) ≡ take (count - k) (drop (base + k) xs)
  drop_part xs base count k h =
      let e : count ≡ k + (count - k) = omega arith in
      ap (λ m. drop k (take m (drop base xs))) e ∙ drop-take k (count - k) (drop base xs) ∙ ap (take (count - k)) (drop-drop k base xs)

  -- a tail is moved and two lists are put before it
  pub spliced : (xs : List X) (base count i k : ℕ) (fs gs c0 c1 c2 : List X) (m n next : ℕ) → i ≤ k → k ≤ count → base + count ≤ length xs → base + (i + length fs + length gs + (count - k)) ≤ length xs →
      m ≡ length fs → n ≡ length gs → c0 ≡ paste xs (base + i + (m + n)) (drop (base + k) xs) ((base + count) - (base + k)) →
      c1 ≡ written c0 (base + i) fs → next ≡ base + i + length fs → c2 ≡ written c1 next gs →
      c2 ≡ written xs base (take i (cells_from xs base count) ++ (fs ++ (gs ++ drop k (cells_from xs base count))))
  spliced xs base count i k fs gs c0 c1 c2 m n next ik kc fits room me ne e0 e1 en e2 =
      let a : ℕ = base + i in
      let t : List X = drop k (cells_from xs base count) in
      let rest : (base + count) - (base + k) ≡ count - k = omega arith in
      let lt : length t ≡ count - k = ap length (drop_part xs base count k kc) ∙ length-take-le (count - k) (drop (base + k) xs) (omega (arith, length-drop (base + k) xs)) in
      let lfg : length (fs ++ gs) ≡ length fs + length gs = length-append fs gs in
      let at : a + (m + n) ≡ a + length (fs ++ gs) = omega arith in
      let d0 : c0 ≡ written xs (a + length (fs ++ gs)) t =
      e0 ∙ ap₂ (λ j r. paste xs j (drop (base + k) xs) r) at rest
      ∙ paste_written xs (a + length (fs ++ gs)) (drop (base + k) xs) (count - k) (omega (arith, length-drop (base + k) xs))
      ∙ ap (written xs (a + length (fs ++ gs))) (sym (drop_part xs base count k kc)) in
      let l0 : length c0 ≡ length xs = ap length d0 ∙ length_written xs (a + length (fs ++ gs)) t (omega arith) in
      let d2 : c2 ≡ written c0 a (fs ++ gs) = e2 ∙ ap₂ (λ ys j. written ys j gs) e1 en ∙ written_behind c0 a fs (omega arith) gs in
      d2 ∙ ap (λ ys. written ys a (fs ++ gs)) d0
      ∙ written_before xs a (fs ++ gs) t (omega arith)
      ∙ ap (written xs a) (append_assoc fs gs t)
      ∙ written_inner xs base i (fs ++ (gs ++ t)) (omega arith)
      ∙ ap (λ us. written xs base (us ++ (fs ++ (gs ++ t)))) (sym (take-take i count (drop base xs) (omega arith)))
