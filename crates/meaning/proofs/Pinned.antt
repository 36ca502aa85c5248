-- There is only one list of all longest stretches, and where two of them stand in it.
use Rattle.std.proofs.Common.{◌≡◌, ℕ, pred, ◌<◌, ◌≤◌, ◌⊎◌, List, [], ◌∷◌, ◌++◌, sym, refl, ◌∙◌, subst, ap₂, inl, inr, arith}
use native.Mathlib.Decide.{dec_lt}
use Rattle.meaning.specs.declared.mark.Mark.{Mark}
use Rattle.meaning.specs.Marks.{LongestStretch, Listed, Each, MarkBefore, Ordered, ListsStretches}

abbrev In : Mark → List Mark → Type 0
In m [] = ⊥
In m (n ∷ ns) = (m ≡ n) ⊎ In m ns

each_in : (P : Mark → Type 0) (ms : List Mark) → Each P ms → (m : Mark) → In m ms → P m
each_in P [] h m i = absurd i
each_in P (n ∷ ns) h m (inl e) = subst P (sym e) h.0
each_in P (n ∷ ns) h m (inr i) = each_in P ns h.1 m i

-- the stretch that has a row and a tick
finds : (ms : List Mark) (k u : ℕ) → Listed ms k u → (m : Mark) × In m ms × (k ≡ m.row) × (m.first ≤ u) × (u < m.after)
finds [] k u h = absurd h
finds (m ∷ ms) k u (inl h) = (m, inl refl, h.0, h.1, h.2)
finds (m ∷ ms) k u (inr h) = let f = finds ms k u h in (f.0, inr f.1, f.2, f.3, f.4)

mark_same : (m n : Mark) → m.row ≡ n.row → m.first ≡ n.first → m.after ≡ n.after → m ≡ n
mark_same m n e f g = λ i. record { row = e i; first = f i; after = g i }

-- longest stretches that share the first tick of one
overlap : {P : ℕ → Type 0} {f a f' a' : ℕ} → LongestStretch P f a → LongestStretch P f' a' → f' ≤ f → f < a' → (f ≡ f') × (a ≡ a')
overlap {P} {f} {a} {f'} {a'} h k l r = (firsts, afters)
  where
    firsts : f ≡ f'
    firsts = elim (dec_lt f' f) [ yes o ↦ absurd (h.starts (pred f) (omega arith) (k.all (pred f) (omega arith) (omega arith))) | no o ↦ omega arith ]

    afters : a ≡ a'
    afters = elim (dec_lt a a') [
      | yes o ↦ let s = h.some in absurd (h.ends (k.all a (omega arith) o))
      | no o ↦ elim (dec_lt a' a) [ yes q ↦ absurd (k.ends (h.all a' (omega arith) q)) | no q ↦ omega arith ]
    ]

before_once : (m n : Mark) → MarkBefore m n → MarkBefore n m → ⊥
before_once m n (inl a) (inl b) = omega arith
before_once m n (inl a) (inr b) = omega arith
before_once m n (inr a) (inl b) = omega arith
before_once m n (inr a) (inr b) = omega arith

-- one longest stretch is over before a later one begins
over_before : {P : ℕ → Type 0} {f a f' a' : ℕ} → LongestStretch P f a → LongestStretch P f' a' → f < f' → a < f'
over_before {P} {f} {a} {f'} {a'} h k l = elim (dec_lt a f') [ yes o ↦ o | no o ↦ absurd (k.starts (pred f') (omega arith) (h.all (pred f') (omega arith) (omega arith))) ]

in_behind : (ms : List Mark) (m : Mark) (ns : List Mark) → In m (ms ++ (m ∷ ns))
in_behind [] m ns = inl refl
in_behind (z ∷ ms) m ns = inr (in_behind ms m ns)

in_further : (ms : List Mark) (m : Mark) (ns : List Mark) (n : Mark) → In n ns → In n (ms ++ (m ∷ ns))
in_further [] m ns n i = inr i
in_further (z ∷ ms) m ns n i = inr (in_further ms m ns n i)

ordered_behind : (ms : List Mark) (m : Mark) (ns : List Mark) → Ordered (ms ++ (m ∷ ns)) → Each (MarkBefore m) ns
ordered_behind [] m ns h = h.0
ordered_behind (z ∷ ms) m ns h = ordered_behind ms m ns h.1

-- lists in order are the same if they have the same entries
ordered_same : (ms ns : List Mark) → Ordered ms → Ordered ns → ((m : Mark) → In m ms → In m ns) → ((m : Mark) → In m ns → In m ms) → ms ≡ ns
ordered_same [] [] a b f g = refl
ordered_same [] (n ∷ ns) a b f g = absurd (g n (inl refl))
ordered_same (m ∷ ms) [] a b f g = absurd (f m (inl refl))
ordered_same (m ∷ ms) (n ∷ ns) a b f g =
    let e = heads (f m (inl refl)) (g n (inl refl)) in
    ap₂ ◌∷◌ e (ordered_same ms ns a.1 b.1 (λ z i. tail z m ms n ns a.0 (sym e) i (f z (inr i))) (λ z i. tail z n ns m ms b.0 e i (g z (inr i))))
  where
    heads : In m (n ∷ ns) → In n (m ∷ ms) → m ≡ n
    heads (inl e) j = e
    heads (inr i) (inl e) = sym e
    heads (inr i) (inr j) = absurd (before_once m n (each_in (MarkBefore m) ms a.0 n j) (each_in (MarkBefore n) ns b.0 m i))

    tail : (z p : Mark) (ps : List Mark) (q : Mark) (qs : List Mark) → Each (MarkBefore p) ps → q ≡ p → In z ps → In z (q ∷ qs) → In z qs
    tail z p ps q qs h e i (inl is) = let o = subst (MarkBefore p) (is ∙ e) (each_in (MarkBefore p) ps h z i) in absurd (before_once p p o o)
    tail z p ps q qs h e i (inr j) = j

module _ {P : ℕ → ℕ → Type 0} where
  shared : (ms ns : List Mark) → ListsStretches P ms → ListsStretches P ns → (m : Mark) → In m ms → In m ns
  shared ms ns h k m i =
      let l = each_in (λ m. LongestStretch (P m.row) m.first m.after) ms h.longest m i in
      let f = finds ns m.row m.first (k.complete m.row m.first (l.all m.first (omega arith) l.some)) in
      let n = f.0 in
      let j = subst (λ r. LongestStretch (P r) n.first n.after) (sym f.2) (each_in (λ m. LongestStretch (P m.row) m.first m.after) ns k.longest n f.1) in
      let o = overlap l j f.3 f.4 in
      subst (λ z. In z ns) (sym (mark_same m n f.2 o.0 o.1)) f.1

  pub lists_same : (ms ns : List Mark) → ListsStretches P ms → ListsStretches P ns → ms ≡ ns
  lists_same ms ns h k = ordered_same ms ns h.ordered k.ordered (shared ms ns h k) (shared ns ms k h)

  pub lists_order : (before between behind : List Mark) (m n : Mark) → ListsStretches P (before ++ (m ∷ (between ++ (n ∷ behind)))) →
      (m.row < n.row) ⊎ ((m.row ≡ n.row) × (m.after < n.first))
  lists_order before between behind m n h = by (each_in (MarkBefore m) ns (ordered_behind before m ns h.ordered) n i)
    where
      ns : List Mark
      ns = between ++ (n ∷ behind)

      i : In n ns
      i = in_behind between n behind

      at : (z : Mark) → In z (before ++ (m ∷ ns)) → LongestStretch (P z.row) z.first z.after
      at = each_in (λ z. LongestStretch (P z.row) z.first z.after) (before ++ (m ∷ ns)) h.longest

      by : MarkBefore m n → (m.row < n.row) ⊎ ((m.row ≡ n.row) × (m.after < n.first))
      by (inl l) = inl l
      by (inr e) =
          let later = subst (λ r. LongestStretch (P r) n.first n.after) (sym e.0) (at n (in_further before m ns n i)) in
          inr (e.0, over_before (at m (in_behind before m ns)) later e.1)
