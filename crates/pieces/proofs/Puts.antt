-- Writes into cells, one after another.
use Rattle.std.proofs.Common.{◌≡◌, ℕ, ◌+◌, ◌<◌, ◌≤◌, List, [], ◌∷◌, ◌++◌, length, take, drop, set, sym, refl, ap, ◌∙◌, subst, ap₂, append_assoc, arith}
use Rattle.std.proofs.lemmas.List.{take_more_set, drop-set-lt, drop-drop, length_push, append-nil, take-take, take-append-le, take-append-drop, length-take-le}
use Rattle.pieces.specs.Cells.{Put}

module _ {X : Type 0} where
  drop_next : (xs ys : List X) (n : ℕ) → drop n xs ≡ drop n ys → drop (n + 1) xs ≡ drop (n + 1) ys
  drop_next xs ys n e = sym (drop-drop 1 n xs) ∙ ap (drop 1) e ∙ drop-drop 1 n ys

  pub put_none : (before : List X) (used : ℕ) → Put before used [] before
  put_none before used =
      let z : used + 0 ≡ used = omega arith in
      (ap (λ n. take n before) z ∙ sym (append-nil (take used before)), refl)

  pub put_push : (before after : List X) (used end : ℕ) (ps : List X) (q : X) → end ≡ used + length ps → end < length after → Put before used ps after → Put before used (ps ++ q ∷ []) (set after end q)
  put_push before after used end ps q e h w =
      let z : used + length (ps ++ q ∷ []) ≡ end + 1 = ap (λ n. used + n) (length_push ps q) ∙ omega arith in
      let t : take end after ≡ take used before ++ ps = subst (λ n. take n after ≡ take used before ++ ps) (sym e) w.0 in
      let d : drop end after ≡ drop end before = subst (λ n. drop n after ≡ drop n before) (sym e) w.1 in (
        ap (λ n. take n (set after end q)) z ∙ take_more_set after end q h ∙ ap (λ xs. xs ++ q ∷ []) t ∙ append_assoc (take used before) ps (q ∷ []),
        subst (λ n. drop n (set after end q) ≡ drop n before) (sym z) (drop-set-lt (end + 1) after end q (omega arith) ∙ drop_next after before end d),
      )

  -- a first write, and then the others
  pub put_first : (before after : List X) (used : ℕ) (p : X) (ps : List X) → used < length before → Put (set before used p) (used + 1) ps after → Put before used (p ∷ ps) after
  put_first before after used p ps h w =
      let z : used + length (p ∷ ps) ≡ (used + 1) + length ps = omega arith in (
        ap (λ n. take n after) z ∙ w.0 ∙ ap (λ xs. xs ++ ps) (take_more_set before used p h) ∙ append_assoc (take used before) (p ∷ []) ps,
        subst (λ n. drop n after ≡ drop n before) (sym z) (w.1 ∙ drop-set-lt ((used + 1) + length ps) before used p (omega arith)),
      )

  -- what stands before is as it was
  pub put_before : (before after : List X) (used n : ℕ) (ps : List X) → n ≤ used → used ≤ length before → Put before used ps after → take n after ≡ take n before
  put_before before after used n ps h k w =
      let l : length (take used before) ≡ used = length-take-le used before k in
      sym (take-take n (used + length ps) after (omega arith)) ∙ ap (take n) w.0 ∙ take-append-le n (take used before) ps (omega arith) ∙ take-take n used before h

  pub put_length : (before after : List X) (used : ℕ) (ps : List X) → used + length ps ≤ length before → length after ≡ length before → Put before used ps after → after ≡ take used before ++ (ps ++ drop (used + length ps) before)
  put_length before after used ps h e w =
      sym (take-append-drop (used + length ps) after) ∙ ap₂ (λ xs ys. xs ++ ys) w.0 w.1 ∙ append_assoc (take used before) ps (drop (used + length ps) before)
