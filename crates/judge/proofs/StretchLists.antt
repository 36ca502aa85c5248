-- Stretches, one after another.
use Rattle.std.proofs.Common.{◌≡◌, ℕ, ◌<◌, ◌≤◌, Bool, true, false, List, [], ◌∷◌, ◌++◌, sym, refl, ap, ◌∙◌, subst, inl, inr, ⊎_elim, arith}
use borrow.Author.Tests.{both_ways}
use Rattle.std.proofs.lemmas.Bool.{cases_order, cases_Bool, cases_lt}
use Rattle.judge.specs.Yes.{FirstFrom}
use Rattle.judge.specs.Marks.{NoneIn, NextStretch, Upto, Stretches, Covered, StretchesCover, StretchesPinned}
use Rattle.meaning.specs.declared.mark.Mark.{Mark}

module _ (f : ℕ → Bool) (limit row : ℕ) where
  pub upto_push : (s e : ℕ) (ms : List Mark) (m : Mark) → Upto f limit row s ms e → NextStretch f limit row e m → Upto f limit row s (ms ++ m ∷ []) m.after
  upto_push s e [] m u n = (subst (λ k. NextStretch f limit row k m) (sym u) n, refl)
  upto_push s e (l ∷ ls) m u n = (u.0, upto_push l.after e ls m u.1 n)

  pub upto_all : (s e : ℕ) (ms : List Mark) → Upto f limit row s ms e → NoneIn f limit row e limit → Stretches f limit row s ms
  upto_all s e [] u n = subst (λ k. NoneIn f limit row k limit) (sym u) n
  upto_all s e (m ∷ ms) u n = (u.0, upto_all m.after e ms u.1 n)

  -- what two searches find is the next stretch
  pub found_next : (e start after : ℕ) → FirstFrom f true e limit start → start < limit → FirstFrom f false start limit after → NextStretch f limit row e (record { row = row; first = start; after = after })
  found_next e start after a lt b =
      let some : start < after = ⊎_elim (λ (q : start ≡ after). absurd (both_ways (f start) (ap f q ∙ b.here (omega arith)) (a.here lt))) (⊎_elim (λ (l : start < after). l) (λ (l : after < start). absurd (omega (arith, b.from)))) (cases_order start after) in
      record {
        of_row = refl;
        from = a.from;
        before = a.none;
        some = some;
        within = b.to;
        yes = λ t x y. ⊎_elim (λ (h : f t ≡ true). h) (λ (h : f t ≡ false). absurd (b.none t x y h)) (cases_Bool (f t));
        over = b.here;
      }

  covers : (s : ℕ) (ms : List Mark) → Stretches f limit row s ms → (u : ℕ) → s ≤ u → u < limit → f u ≡ true → Covered ms u
  covers s [] h u a b e = h u a b e
  covers s (m ∷ ms) h u a b e =
      ⊎_elim (λ (l : u < m.first). absurd (h.0.before u a l e))
      (λ (l : m.first ≤ u). ⊎_elim (λ (k : u < m.after). inl (l, k)) (λ (k : m.after ≤ u). inr (covers m.after ms h.1 u k b e)) (cases_lt u m.after))
      (cases_lt u m.first)

  covered : (s : ℕ) (ms : List Mark) → Stretches f limit row s ms → (u : ℕ) → Covered ms u → (u < limit) × (f u ≡ true)
  covered s [] h u c = absurd c
  covered s (m ∷ ms) h u (inl c) = (omega (arith, h.0.within, c.1), h.0.yes u c.0 c.1)
  covered s (m ∷ ms) h u (inr c) = covered m.after ms h.1 u c

  starts : (s : ℕ) (m n : Mark) → NextStretch f limit row s m → NextStretch f limit row s n → m.first < n.first → ⊥
  starts s m n x y l = y.before m.first x.from l (x.yes m.first (omega arith) x.some)

  ends : (s : ℕ) (m n : Mark) → NextStretch f limit row s m → NextStretch f limit row s n → m.first ≡ n.first → m.after < n.after → ⊥
  ends s m n x y e l =
      both_ways (f m.after) (x.over (omega (arith, y.within))) (y.yes m.after (omega (arith, x.some)) l)

  none_next : (s : ℕ) (m : Mark) → NoneIn f limit row s limit → NextStretch f limit row s m → ⊥
  none_next s m n x = n m.first x.from (omega (arith, x.some, x.within)) (x.yes m.first (omega arith) x.some)

  one : (s : ℕ) (m n : Mark) → NextStretch f limit row s m → NextStretch f limit row s n → m ≡ n
  one s m n x y =
      let p : m.row ≡ n.row = x.of_row ∙ sym y.of_row in
      let q : m.first ≡ n.first = ⊎_elim (λ e. e) (⊎_elim (λ l. absurd (starts s m n x y l)) (λ l. absurd (starts s n m y x l))) (cases_order m.first n.first) in
      let r : m.after ≡ n.after = ⊎_elim (λ e. e) (⊎_elim (λ l. absurd (ends s m n x y q l)) (λ l. absurd (ends s n m y x (sym q) l))) (cases_order m.after n.after) in
      λ i. record { row = p i; first = q i; after = r i }

  unique : (s : ℕ) (ms ns : List Mark) → Stretches f limit row s ms → Stretches f limit row s ns → ms ≡ ns
  unique s [] [] h k = refl
  unique s [] (n ∷ ns) h k = absurd (none_next s n h k.0)
  unique s (m ∷ ms) [] h k = absurd (none_next s m k h.0)
  unique s (m ∷ ms) (n ∷ ns) h k =
      let e = one s m n h.0 k.0 in
      let t : ms ≡ ns = unique m.after ms ns h.1 (subst (λ z. Stretches f limit row z.after ns) (sym e) k.1) in
      ap (λ z. z ∷ ms) e ∙ ap (λ zs. n ∷ zs) t

pub cover : StretchesCover
cover f limit row ms h u = (covered f limit row 0 ms h u, λ c. covers f limit row 0 ms h u (omega arith) c.0 c.1)

pub pinned : StretchesPinned
pinned f limit row ms ns h k = unique f limit row 0 ms ns h k
