-- Lists that stand one after the other in the first cells.
use Rattle.std.proofs.Common.{◌≡◌, ℕ, zero, suc, ◌+◌, ◌-◌, ◌<◌, ◌≤◌, true, List, [], ◌∷◌, ◌++◌, length, get_or, take, drop, set, sym, refl, ap, ◌∙◌, subst, ⊎_elim, append_assoc, not-suc-le-zero, arith}
use Rattle.std.proofs.lemmas.List.{append-nil, length-append, take_at, drop_at, take-append-le, take-map, drop-map, map-append, take-take, drop-take, length-take-le, length-map, length_push, get_or_append_left, get_or_push, get_or-set_same, get_or-set_other, take_more, take_all, drop-drop}
use Rattle.std.proofs.lemmas.Bool.{cases_eq}
use Rattle.pieces.specs.declared.piece.Piece.{Piece}
use Rattle.pieces.specs.Pieces.{at_from, ordered, Lists}
use Rattle.pieces.specs.Cells.{shown, meant, CellsWhole}
use Rattle.pieces.proofs.Shows.{canonical_ordered, lists_at, ordered_shown}
use Rattle.runs.specs.Calls.{all}
use Rattle.judge.specs.Places.{cells_between, list_at, Lies}

module _ {X : Type 0} where
  all_append : (xss yss : List (List X)) → all (xss ++ yss) ≡ all xss ++ all yss
  all_append [] yss = refl
  all_append (xs ∷ xss) yss = ap (λ zs. xs ++ zs) (all_append xss yss) ∙ sym (append_assoc xs (all xss) (all yss))

  pub all_push : (xss : List (List X)) (xs : List X) → all (xss ++ xs ∷ []) ≡ all xss ++ xs
  all_push xss xs = all_append xss (xs ∷ []) ∙ ap (λ zs. all xss ++ zs) (append-nil xs)

  -- the lists before the list c, the list c, and the others
  pub all_split : (xss : List (List X)) (c : ℕ) → c < length xss → all xss ≡ all (take c xss) ++ (get_or xss c [] ++ all (drop (c + 1) xss))
  all_split [] c h = absurd (not-suc-le-zero h)
  all_split (xs ∷ xss) zero h = refl
  all_split (xs ∷ xss) (suc c) h =
      let n : suc c + 1 ≡ suc (c + 1) = omega arith in
      subst (λ m. xs ++ all xss ≡ (xs ++ all (take c xss)) ++ (get_or xss c [] ++ all (drop m (xs ∷ xss)))) (sym n)
      (ap (λ zs. xs ++ zs) (all_split xss c (omega arith)) ∙ sym (append_assoc xs (all (take c xss)) (get_or xss c [] ++ all (drop (c + 1) xss))))

  abbrev height : List (List X) → ℕ → ℕ
  height xss c = length (all (take c xss))

  height_next : (xss : List (List X)) (c : ℕ) → c < length xss → height xss (c + 1) ≡ height xss c + length (get_or xss c [])
  height_next xss c h =
      ap (λ yss. length (all yss)) (take_more xss c [] h) ∙ ap length (all_push (take c xss) (get_or xss c [])) ∙ length-append (all (take c xss)) (get_or xss c [])

  height_within : (xss : List (List X)) (c : ℕ) → c < length xss → height xss (c + 1) ≤ length (all xss)
  height_within xss c h =
      let q = get_or xss c [] in
      let r = all (drop (c + 1) xss) in
      let e : length (all xss) ≡ height xss c + (length q + length r) =
      ap length (all_split xss c h) ∙ length-append (all (take c xss)) (q ++ r) ∙ ap (λ n. height xss c + n) (length-append q r) in
      omega (arith, e, height_next xss c h)

  part_all : (xss : List (List X)) (c : ℕ) → c < length xss → cells_between (height xss c) (height xss (c + 1)) (all xss) ≡ get_or xss c []
  part_all xss c h =
      let a = all (take c xss) in
      let q = get_or xss c [] in
      let r = all (drop (c + 1) xss) in
      let n = height xss (c + 1) - height xss c in
      let w : length q ≡ n = omega (arith, height_next xss c h) in
      ap (λ zs. take n (drop (length a) zs)) (all_split xss c h) ∙ ap (take n) (drop_at a (q ++ r) (length a) refl) ∙ take_at q r n w

  part_take : (xs : List X) (i j n : ℕ) → i ≤ j → j ≤ n → cells_between i j (take n xs) ≡ cells_between i j xs
  part_take xs i j n ij jn =
      let e : n ≡ i + (n - i) = omega arith in
      ap (take (j - i)) (ap (λ m. drop i (take m xs)) e ∙ drop-take i (n - i) xs) ∙ take-take (j - i) (n - i) (drop i xs) (omega arith)

-- the first `used` cells hold the lists of f 0, f 1, .. and begins has where each begins
pub record Stacked {V C : Type 0} (val : V → C) (f : ℕ → ℕ → C) (lists : List (List (Piece C))) (begins : List ℕ) (cells : List (Piece V)) (used : ℕ) : Type 0 where
  pub listed : (c : ℕ) → c < length lists → Lists (f c) (get_or lists c [])
  pub marks : (c : ℕ) → c ≤ length lists → get_or begins c 0 ≡ length (all (take c lists))
  pub top : used ≡ length (all lists)
  pub within : used ≤ length cells
  pub holds : shown val (take used cells) ≡ all lists

module _ {V C : Type 0} (val : V → C) (f : ℕ → ℕ → C) where
  -- before the first list
  pub none_yet : (begins : List ℕ) (cells : List (Piece V)) → get_or begins 0 0 ≡ 0 → Stacked val f [] begins cells 0
  none_yet begins cells e = record {
    listed = λ k h. absurd (not-suc-le-zero h);
    marks = λ c h. let z : c ≡ 0 = omega arith in subst (λ j. get_or begins j 0 ≡ length (all {X = Piece C} (take j []))) (sym z) e;
    top = refl;
    within = omega arith;
    holds = refl;
  }

  module _ (lists : List (List (Piece C))) (begins : List ℕ) (cells : List (Piece V)) (used : ℕ) (S : Stacked val f lists begins cells used) where
    shown_part : (i j : ℕ) (xs : List (Piece V)) → shown val (cells_between i j xs) ≡ cells_between i j (shown val xs)
    shown_part i j xs = sym (take-map (meant val) (j - i) (drop i xs)) ∙ ap (take (j - i)) (sym (drop-map (meant val) i xs))

    below_shown : (c : ℕ) → c < length lists → shown val (list_at begins (take used cells) c) ≡ get_or lists c []
    below_shown c h =
        shown_part (get_or begins c 0) (get_or begins (c + 1) 0) (take used cells)
        ∙ ap (cells_between (get_or begins c 0) (get_or begins (c + 1) 0)) S.holds
        ∙ ap (λ i. cells_between i (get_or begins (c + 1) 0) (all lists)) (S.marks c (omega arith))
        ∙ ap (λ j. cells_between (height lists c) j (all lists)) (S.marks (c + 1) (omega arith))
        ∙ part_all lists c h

    -- each list lies in the cells that are used
    pub below_lies : (c : ℕ) → c < length lists → Lies (get_or begins c 0) (get_or begins (c + 1) 0) (take used cells)
    below_lies c h =
        let i = S.marks c (omega arith) in
        let j = S.marks (c + 1) (omega arith) in
        let n = length-take-le used cells S.within in
        record {
          rises = omega (arith, i, j, height_next lists c h);
          within = omega (arith, j, n, S.top, height_within lists c h);
          in_order = sym (ordered_shown val (list_at begins (take used cells) c)) ∙ ap ordered (below_shown c h) ∙ canonical_ordered (get_or lists c []) (S.listed c h).0;
        }

    pub below_heard : (d : C) (c : ℕ) → c < length lists → (t : ℕ) → at_from d (shown val (list_at begins (take used cells) c)) t ≡ f c t
    below_heard d c h t = ap (λ qs. at_from d qs t) (below_shown c h) ∙ lists_at (f c) (get_or lists c []) (S.listed c h) d t

    same_part : (c : ℕ) → c < length lists → list_at begins (take used cells) c ≡ list_at begins cells c
    same_part c h =
        let l = below_lies c h in
        part_take cells (get_or begins c 0) (get_or begins (c + 1) 0) used l.rises (omega (arith, l.within, length-take-le used cells S.within))

    -- the same in all cells
    pub lies : (c : ℕ) → c < length lists → Lies (get_or begins c 0) (get_or begins (c + 1) 0) cells
    lies c h =
        let l = below_lies c h in
        record {
          rises = l.rises;
          within = omega (arith, l.within, length-take-le used cells S.within, S.within);
          in_order = subst (λ ps. ordered ps ≡ true) (same_part c h) l.in_order;
        }

    pub heard_at : (d : C) (c : ℕ) → c < length lists → (t : ℕ) → at_from d (shown val (list_at begins cells c)) t ≡ f c t
    heard_at d c h t = ap (λ ps. at_from d (shown val ps) t) (sym (same_part c h)) ∙ below_heard d c h t

    -- one list more
    module _ (k : ℕ) (is : length lists ≡ k) (after : List (Piece V)) (kept : length after ≡ length cells) (n : ℕ) (w : CellsWhole val (f k) cells used after n) where
      abbrev new : List (Piece C)
      new = shown val w.pieces

      abbrev pub grown : List (List (Piece C))
      grown = lists ++ new ∷ []

      pub grown_many : length grown ≡ k + 1
      grown_many = length_push lists new ∙ ap (λ m. m + 1) is

      grown_top : n ≡ length (all grown)
      grown_top =
          let e : length (all grown) ≡ length (all lists) + length w.pieces =
          ap length (all_push lists new) ∙ length-append (all lists) new ∙ ap (λ m. length (all lists) + m) (length-map w.pieces (meant val)) in
          omega (arith, e, S.top, w.size)

      grown_listed : (c : ℕ) → c < length grown → Lists (f c) (get_or grown c [])
      grown_listed c h =
          ⊎_elim
          (λ e. subst (λ qs. Lists (f c) qs) (sym (get_or_push lists new [] c (is ∙ sym e))) (subst (λ j. Lists (f j) new) (sym e) w.listed))
          (λ ne.
          let lt : c < length lists = omega (arith, length_push lists new) in
          subst (λ qs. Lists (f c) qs) (sym (get_or_append_left lists (new ∷ []) [] c lt)) (S.listed c lt))
          (cases_eq c k)

      grown_marks : k + 1 < length begins → (c : ℕ) → c ≤ length grown → get_or (set begins (k + 1) n) c 0 ≡ length (all (take c grown))
      grown_marks room c h =
          ⊎_elim
          (λ e. ap (λ j. get_or (set begins (k + 1) n) j 0) e ∙ get_or-set_same begins (k + 1) n 0 room ∙ grown_top ∙ ap (λ qs. length (all qs)) (sym (take_all c grown (omega (arith, grown_many)))))
          (λ ne.
          let lt : c ≤ length lists = omega (arith, length_push lists new) in
          get_or-set_other begins (k + 1) c n 0 ne ∙ S.marks c lt ∙ ap (λ qs. length (all qs)) (sym (take-append-le c lists (new ∷ []) lt)))
          (cases_eq c (k + 1))

      grown_holds : shown val (take n after) ≡ all grown
      grown_holds =
          ap (λ m. shown val (take m after)) w.size ∙ ap (shown val) w.put.0 ∙ map-append (meant val) (take used cells) w.pieces ∙ ap (λ qs. qs ++ new) S.holds ∙ sym (all_push lists new)

      pub pushed : k + 1 < length begins → Stacked val f grown (set begins (k + 1) n) after n
      pushed room = record { listed = grown_listed; marks = grown_marks room; top = grown_top; within = omega (arith, w.fits, kept); holds = grown_holds }

      -- behind, the cells are as they were at first
      pub behind_kept : (first : List (Piece V)) → drop used cells ≡ drop used first → drop n after ≡ drop n first
      behind_kept first e =
          let ps = w.pieces in
          subst (λ m. drop m after ≡ drop m first) (sym w.size) (w.put.1 ∙ sym (drop-drop (length ps) used cells) ∙ ap (drop (length ps)) e ∙ drop-drop (length ps) used first)
