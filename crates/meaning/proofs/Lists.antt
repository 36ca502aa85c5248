-- The list of all longest stretches: it is made row by row, there is one, and there is only one.
use Rattle.std.proofs.Common.{◌≡◌, ℕ, zero, suc, ◌<◌, List, [], ◌∷◌, ◌++◌, sym, refl, subst, inl, inr, arith}
use native.Mathlib.Decide.{dec_lt}
use Rattle.meaning.specs.declared.mark.Mark.{Mark}
use Rattle.meaning.specs.Marks.{LongestStretch, Listed, Each, MarkBefore, Ordered, ListsStretches}
use Rattle.meaning.proofs.Stretches.{Chain, each_as, each_both, chain_rows, chain_longest, chain_complete, chain_ordered, has_chain}

longest_as : {P Q : ℕ → Type 0} → ((u : ℕ) → P u → Q u) → ((u : ℕ) → Q u → P u) → {f a : ℕ} → LongestStretch P f a → LongestStretch Q f a
longest_as there back h = record {
  some = h.some;
  all = λ u l r. there u (h.all u l r);
  starts = λ u e q. h.starts u e (back u q);
  ends = λ q. h.ends (back _ q);
}

pub lists_as : {P Q : ℕ → ℕ → Type 0} → ((k u : ℕ) → P k u → Q k u) → ((k u : ℕ) → Q k u → P k u) → (ms : List Mark) → ListsStretches P ms → ListsStretches Q ms
lists_as {P} {Q} there back ms h = record {
  longest = each_as (λ m l. longest_as (there m.row) (back m.row) l) ms h.longest;
  complete = λ k u q. h.complete k u (back k u q);
  ordered = h.ordered;
}

listed_left : (ms ns : List Mark) (k u : ℕ) → Listed ms k u → Listed (ms ++ ns) k u
listed_left [] ns k u h = absurd h
listed_left (m ∷ ms) ns k u (inl h) = inl h
listed_left (m ∷ ms) ns k u (inr h) = inr (listed_left ms ns k u h)

listed_right : (ms ns : List Mark) (k u : ℕ) → Listed ns k u → Listed (ms ++ ns) k u
listed_right [] ns k u h = h
listed_right (m ∷ ms) ns k u h = inr (listed_right ms ns k u h)

ordered_both : (n : ℕ) (ms ns : List Mark) → Ordered ms → Ordered ns → Each (λ m. m.row < n) ms → Each (λ m. m.row ≡ n) ns → Ordered (ms ++ ns)
ordered_both n [] ns h k a b = k
ordered_both n (m ∷ ms) ns h k a b =
    (each_both (MarkBefore m) ms ns h.0 (each_as (λ z (e : z.row ≡ n). inl (let l = a.0 in omega arith)) ns b), ordered_both n ms ns h.1 k a.1 b)

module _ (P : ℕ → ℕ → Type 0) where
  pub listed_holds : (ms : List Mark) → Each (λ m. LongestStretch (P m.row) m.first m.after) ms → (k u : ℕ) → Listed ms k u → P k u
  listed_holds [] h k u i = absurd i
  listed_holds (m ∷ ms) h k u (inl i) = subst (λ r. P r u) (sym i.0) (h.0.all u i.1 i.2)
  listed_holds (m ∷ ms) h k u (inr i) = listed_holds ms h.1 k u i

  -- the rows below n
  abbrev pub Upto : ℕ → ℕ → ℕ → Type 0
  Upto n k u = (k < n) × P k u

  pub lists_none : ListsStretches (Upto 0) []
  lists_none = record { longest = tt; complete = λ k u h. absurd (omega (arith, h.0)); ordered = tt }

  pub lists_more : (n : ℕ) (ms ns : List Mark) → ListsStretches (Upto n) ms → Chain (P n) n 0 ns → ListsStretches (Upto (suc n)) (ms ++ ns)
  lists_more n ms ns h c = record {
    longest = each_both (λ m. LongestStretch (Upto (suc n) m.row) m.first m.after) ms ns (each_as early ms h.longest) (late ns (chain_rows (P n) n 0 ns c) (chain_longest (P n) n 0 (inl refl) ns c));
    complete = λ k u p. elim (dec_lt k n) [
      | yes l ↦ listed_left ms ns k u (h.complete k u (l, p.1))
      | no l ↦
          let is : k ≡ n = omega (arith, p.0) in
          listed_right ms ns k u (subst (λ j. Listed ns j u) (sym is) (chain_complete (P n) n 0 ns c u (omega arith) (subst (λ j. P j u) is p.1)))
    ];
    ordered = ordered_both n ms ns h.ordered (chain_ordered (P n) n 0 ns c) (each_as (λ m l. below m l) ms h.longest) (chain_rows (P n) n 0 ns c);
  }
    where
      below : (m : Mark) → LongestStretch (Upto n m.row) m.first m.after → m.row < n
      below m l = (l.all m.first (omega arith) l.some).0

      early : (m : Mark) → LongestStretch (Upto n m.row) m.first m.after → LongestStretch (Upto (suc n) m.row) m.first m.after
      early m l = let b = below m l in longest_as (λ u p. (omega arith, p.1)) (λ u p. (b, p.1)) l

      late : (zs : List Mark) → Each (λ m. m.row ≡ n) zs → Each (λ m. LongestStretch (P n) m.first m.after) zs → Each (λ m. LongestStretch (Upto (suc n) m.row) m.first m.after) zs
      late [] e l = tt
      late (m ∷ zs) e l =
          let is = e.0 in
          (longest_as (λ u p. (omega arith, subst (λ j. P j u) (sym is) p)) (λ u p. subst (λ j. P j u) is p.1) l.0, late zs e.1 l.1)

  -- what can be told, and holds of few rows and ticks, has a list
  pub has_list : ((k u : ℕ) → Dec (P k u)) → (rows ticks : ℕ) → ((k u : ℕ) → P k u → (k < rows) × (u < ticks)) → (ms : List Mark) × ListsStretches P ms
  has_list told rows ticks bounds =
      let h = upto rows in
      (h.0, lists_as (λ k u p. p.1) (λ k u p. ((bounds k u p).0, p)) h.0 h.1)
    where
      upto : (n : ℕ) → (ms : List Mark) × ListsStretches (Upto n) ms
      upto zero = ([], lists_none)
      upto (suc n) =
          let h = upto n in
          let c = has_chain (told n) n ticks (λ u p. (bounds n u p).1) ticks 0 (omega arith) in
          (h.0 ++ c.0, lists_more n h.0 c.0 h.1 c.1)
