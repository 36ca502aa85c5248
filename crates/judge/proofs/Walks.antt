-- What one walk over the ticks around u shows of what is seen from u on.
use Rattle.std.proofs.Common.{◌≡◌, ℕ, ◌+◌, ◌-◌, ◌<◌, ◌≤◌, min, max, Bool, true, false, ◌||◌, Some, None, Option, sym, refl, ap, ◌∙◌, subst, inl, inr, ⊎_elim, arith}
use borrow.Author.Tests.{both_ways, clash}
use Rattle.std.proofs.lemmas.Bool.{cases_Bool, cases_lt, or_cases, or_parts}
use Rattle.pieces.specs.Ticks.{Steady, sooner}
use Rattle.pieces.proofs.Steadies.{steady_sooner, before_self}
use Rattle.grades.specs.Kinds.{Tells}
use Rattle.judge.specs.Yes.{any, Known, FirstFrom, Clear, clip}
use Rattle.judge.specs.Reaches.{Sees, sees, Seen, HeldOver, held_over, HeldBefore, Ahead}
use Rattle.judge.proofs.Knowns.{clip_before, clip_later, clip_most}
use Rattle.judge.proofs.Anys.{tells_some}
use Rattle.judge.proofs.Sights.{sees_is, is_sees, holds_is, is_holds}

tells_cases : (P : Type 0) (x : Bool) → (x ≡ true → P) → (x ≡ false → P → ⊥) → Tells x P
tells_cases P true h n = h refl
tells_cases P false h n = n refl

module _ (f : ℕ → Bool) where
  -- what holds at p holds up to where a step from p ends
  pub run : (p e : ℕ) (v y : Bool) (o : Option ℕ) → f p ≡ v → Steady f p y o → (k : ℕ) → p ≤ k → k < clip o e → f k ≡ v
  run p e v y o h st k l m = sym (st.1 k l (clip_before o e k m)) ∙ (st.1 p (omega arith) (before_self p o st.0) ∙ h)

  pub clear_no : (s t e r : ℕ) (y : Bool) (o : Option ℕ) → Clear f s t r → Steady f t y o → t < e → y ≡ false → Clear f s (clip o e) r
  clear_no s t e r y o c st l h =
      let lt = clip_later o e t st.0 l in
      record {
        from = c.from;
        to = omega (arith, c.to);
        none = λ k a b. ⊎_elim (λ (x : k < t). c.none k a x) (λ (x : t ≤ k). sym (st.1 k x (clip_before o e k b)) ∙ h) (cases_lt k t);
        stop = c.stop;
      }

  pub clear_yes : (s t e r : ℕ) (y : Bool) (o : Option ℕ) → Clear f s t r → Steady f t y o → t < e → y ≡ true → Clear f s (clip o e) (clip o e)
  clear_yes s t e r y o c st l h =
      let lt = clip_later o e t st.0 l in
      record {
        from = omega (arith, c.from, c.to);
        to = omega arith;
        none = λ k a b. absurd (omega arith);
        stop = λ x. sym (st.1 (clip o e - 1) (omega arith) (clip_before o e (clip o e - 1) (omega arith))) ∙ h;
      }

  -- before the first yes there is no
  pub not_yet : (s e r : ℕ) → FirstFrom f true s e r → (k : ℕ) → s ≤ k → k < r → f k ≡ false
  not_yet s e r h k a b = ⊎_elim (λ (x : f k ≡ true). absurd (h.none k a b x)) (λ x. x) (cases_Bool (f k))

module _ (asks dead : ℕ → Bool) (a b limit u : ℕ) where
  pub seen_steady : (v : Bool) (o : Option ℕ) → Known (Seen asks dead a b limit) u v o → Steady (λ w. any (λ t. sees asks dead a b t w) limit) u v o
  seen_steady v o k = (
    k.0,
    λ w l m. tells_some (λ t. Sees asks dead a b t w) (λ t. sees asks dead a b t w) limit v (λ t. sees_is asks dead a b t w) (λ t. is_sees asks dead a b t w) (k.1 w l m),
  )

  -- nothing is seen at a dead tick
  pub seen_dead : (y : Bool) (o : Option ℕ) → Steady dead u y o → y ≡ true → Known (Seen asks dead a b limit) u false o
  seen_dead y o st h = (
    st.0,
    λ w l m x. let s = x.1.1 in both_ways (dead w) (s.alive w (omega (arith, s.from)) (omega arith)) (sym (st.1 w l m) ∙ h),
  )

  module _ (s : ℕ) (c : Clear dead (u - b) u s) where
    -- from u on, nothing is seen from before s
    pub early : (t w : ℕ) → u ≤ w → Sees asks dead a b t w → s ≤ t
    early t w l h =
        ⊎_elim
        (λ (x : t < s).
        ⊎_elim (λ (y : u - b < s). absurd (both_ways (dead (s - 1)) (h.alive (s - 1) (omega arith) (omega (arith, c.to))) (c.stop y)))
        (λ (y : s ≤ u - b). absurd (omega (arith, h.to)))
        (cases_lt (u - b) s))
        (λ x. x)
        (cases_lt t s)

    module _ (p : ℕ) (f : FirstFrom asks true s (max limit s) p) where
      -- nor from before p
      later : (t w : ℕ) → u ≤ w → Sees asks dead a b t w → p ≤ t
      later t w l h = ⊎_elim (λ (x : t < p). absurd (f.none t (early t w l h) x h.wants)) (λ x. x) (cases_lt t p)

      pub seen_never : limit ≤ p → Known (Seen asks dead a b limit) u false None
      seen_never h = (tt, λ w l m x. omega (arith, later x.0 w l x.1.1, x.1.0))

      pub seen_later : u < p + a → Known (Seen asks dead a b limit) u false (Some (p + a))
      seen_later h = (h, λ w l m x. omega (arith, later x.0 w l x.1.1, x.1.1.from))

      pub seen_found : dead u ≡ false → a ≤ b → p < limit → p + a ≤ u → (q z : ℕ) (y : Bool) (o : Option ℕ) → Steady asks p y o → q ≡ clip o limit → FirstFrom dead true u (q + b) z → Known (Seen asks dead a b limit) u true (Some z)
      seen_found alive ab pl pu q z y o st is d =
          let lt : p < q = subst (λ n. p < n) (sym is) (clip_later o limit p st.0 pl) in
          let le : q ≤ limit = subst (λ n. n ≤ limit) (sym is) (clip_most o limit) in
          let here : asks p ≡ true = f.here (omega arith) in
          let wide : u < q + b = omega (arith, c.from, f.from) in
          let more : u < z = ⊎_elim (λ (x : u < z). x) (λ (x : z ≤ u). let e : z ≡ u = omega (arith, d.from) in absurd (both_ways (dead u) alive (ap dead (sym e) ∙ d.here (omega arith)))) (cases_lt u z) in (
            more,
            λ w l m. let t = max p (w - b) in
                let tq : t < q = omega (arith, d.to) in (
                  t,
                  (
                    omega arith,
                    record {
                      wants = run asks p limit true y o here st t (omega arith) (subst (λ n. t < n) is tq);
                      from = omega arith;
                      to = omega arith;
                      alive = λ k i j. ⊎_elim (λ (x : k < u). c.none k (omega (arith, f.from)) x) (λ (x : u ≤ k). not_yet dead u (q + b) z d k x (omega arith)) (cases_lt k u);
                    },
                  ),
                ),
          )

-- how far the asking ticks (up to p) and the dead and the needed ones (up to c) were walked, and that nothing was found
pub record Walked (asks dead need : ℕ → Bool) (a b limit u s p c : ℕ) : Type 0 where
  pub from : s ≤ p
  pub asking : p < limit → asks p ≡ true
  pub at : u ≤ c
  pub near : c ≤ p + b
  pub alive : (k : ℕ) → u ≤ k → k < c → dead k ≡ false
  pub none : (w : ℕ) → u ≤ w → p + a ≤ w → w < c → need w ≡ true → ⊥
  pub lost : (t w : ℕ) → t < p → u ≤ w → need w ≡ true → Sees asks dead a b t w → ⊥

module _ (asks dead need : ℕ → Bool) (a b limit u : ℕ) where
  pub held_steady : (v : Bool) (o : Option ℕ) → Known (HeldBefore asks dead need a b limit) u v o → Steady (λ w. any (λ t. held_over asks dead need a b t w) limit) u v o
  held_steady v o k = (
    k.0,
    λ w l m. tells_some (λ t. HeldOver asks dead need a b t w) (λ t. held_over asks dead need a b t w) limit v (λ t. holds_is asks dead need a b t w) (λ t. is_holds asks dead need a b t w) (k.1 w l m),
  )

  pub held_dead : (y : Bool) (o : Option ℕ) → Steady dead u y o → y ≡ true → Known (HeldBefore asks dead need a b limit) u false o
  held_dead y o st h = (
    st.0,
    λ w l m x. let s = x.1.1 in both_ways (dead w) (s.seen.alive w s.from s.after) (sym (st.1 w l m) ∙ h),
  )

  module _ (s : ℕ) (cl : Clear dead (u - b) u s) where
    pub walked_first : (p : ℕ) → FirstFrom asks true s (max limit s) p → Walked asks dead need a b limit u s p u
    walked_first p f = record {
      from = f.from;
      asking = λ h. f.here (omega arith);
      at = omega arith;
      near = omega (arith, cl.from, f.from);
      alive = λ k i j. absurd (omega arith);
      none = λ w i j k n. omega arith;
      lost = λ t w i j n h. omega (arith, later asks dead a b limit u s cl p f t w j h);
    }

    module _ (p c : ℕ) (i : Walked asks dead need a b limit u s p c) where
      pub held_later : u < p → Known (HeldBefore asks dead need a b limit) u false (Some p)
      held_later h = (
        h,
        λ v l m x. let k = x.1.1 in i.lost x.0 k.at (omega (arith, k.from)) (omega (arith, k.after)) k.needs k.seen,
      )

      pub held_never : limit ≤ p → Known (HeldBefore asks dead need a b limit) u false None
      held_never h = (
        tt,
        λ v l m x. let k = x.1.1 in i.lost x.0 k.at (omega (arith, x.1.0)) (omega (arith, k.after)) k.needs k.seen,
      )

      module _ (from z : ℕ) (is : from ≡ max c (p + a)) (d : FirstFrom dead true c from z) where
        -- a dead tick comes before the first tick that p sees
        pub held_cut : dead u ≡ false → z < from → Known (HeldBefore asks dead need a b limit) u false (Some z)
        held_cut here h =
            let gone : dead z ≡ true = d.here h in
            let lt : u < z = ⊎_elim (λ (x : u < z). x) (λ (x : z ≤ u). let e : z ≡ u = omega (arith, d.from, i.at) in absurd (both_ways (dead u) here (ap dead (sym e) ∙ gone))) (cases_lt u z) in (
              lt,
              λ v l m x.
                  let t = x.0 in
                  let k = x.1.1 in
                  ⊎_elim (λ (y : t < p). i.lost t k.at y (omega (arith, k.after)) k.needs k.seen)
                  (λ (y : p ≤ t). both_ways (dead z) (k.seen.alive z (omega (arith, k.from)) (omega (arith, k.seen.from, d.from))) gone)
                  (cases_lt t p),
            )

        module _ (end w : ℕ) (zf : from ≤ z) (f : FirstFrom (λ k. dead k || need k) true from end w) where
          neither : (k : ℕ) → from ≤ k → k < w → (dead k ≡ false) × (need k ≡ false)
          neither k x y = or_parts (dead k) (need k) (not_yet (λ j. dead j || need j) from end w f k x y)

          alive_to : (k : ℕ) → s ≤ k → k < w → dead k ≡ false
          alive_to k x y =
              ⊎_elim (λ (h : k < u). cl.none k x h)
              (λ (h : u ≤ k).
              ⊎_elim (λ (j : k < c). i.alive k h j)
              (λ (j : c ≤ k).
              ⊎_elim (λ (e : k < from). not_yet dead c from z d k j (omega arith)) (λ (e : from ≤ k). (neither k e y).0) (cases_lt k from))
              (cases_lt k c))
              (cases_lt k u)

          none_to : (k : ℕ) → u ≤ k → p + a ≤ k → k < w → need k ≡ true → ⊥
          none_to k x y l n =
              ⊎_elim (λ (h : k < c). i.none k x y h n)
              (λ (h : c ≤ k). both_ways (need k) (neither k (omega arith) l).1 n)
              (cases_lt k c)

          pub walked_more : (q p' : ℕ) → p < q → q + b ≡ end → end ≤ w → FirstFrom asks true q limit p' → Walked asks dead need a b limit u s p' w
          walked_more q p' pq e ew n = record {
            from = omega (arith, i.from, n.from);
            asking = n.here;
            at = omega (arith, i.at, f.from);
            near = omega (arith, n.from, f.to);
            alive = λ k x y. alive_to k (omega (arith, cl.to)) y;
            none = λ k x y l h. none_to k x (omega (arith, n.from)) l h;
            lost = λ t k x y h g.
                ⊎_elim (λ (j : t < p). i.lost t k j y h g)
                (λ (j : p ≤ t).
                ⊎_elim (λ (l : t < q). none_to k y (omega (arith, g.from)) (omega (arith, g.to)) h) (λ (l : q ≤ t). n.none t l x g.wants) (cases_lt t q))
                (cases_lt t p);
          }

          pub held_ahead : (q : ℕ) (y : Bool) (o : Option ℕ) (x : Bool) (n : Option ℕ) → a ≤ b → p ≤ u → p < limit → Steady asks p y o → q ≡ clip o limit → q + b ≡ end → Ahead dead need b end w u x n → Known (HeldBefore asks dead need a b limit) u x n
          held_ahead q y o x n ab pu pl st qs e h =
              let pq : p < q = subst (λ m. p < m) (sym qs) (clip_later o limit p st.0 pl) in
              let ql : q ≤ limit = subst (λ m. m ≤ limit) (sym qs) (clip_most o limit) in (
                h.later,
                λ v l m. tells_cases (HeldBefore asks dead need a b limit v) x
                    (λ g.
                    let k = max v w in
                    let at = h.good g v k m (omega arith) (omega arith) in
                    let t = min (min (q - 1) v) (k - a) in
                    let wf : p + a ≤ w = omega (arith, f.from) in
                    let pt : p ≤ t = omega arith in
                    let tq : t < q = omega arith in (
                      t,
                      (
                        omega arith,
                        record {
                          from = omega arith;
                          at = k;
                          after = omega arith;
                          needs = at.1;
                          seen = record {
                            wants = run asks p limit true y o (i.asking pl) st t pt (subst (λ m. t < m) qs tq);
                            from = omega arith;
                            to = omega (arith, h.near g, at.2);
                            alive = λ j r r'. ⊎_elim (λ (z : j < w). alive_to j (omega (arith, i.from)) z) (λ (z : w ≤ j). (h.good g v j m z r').0) (cases_lt j w);
                          };
                        },
                      ),
                    ))
                    (λ g r.
                    let t = r.0 in
                    let k = r.1.1 in
                    ⊎_elim (λ (z : t < p). i.lost t k.at z (omega (arith, k.after)) k.needs k.seen)
                    (λ (z : p ≤ t).
                    ⊎_elim (λ (y : k.at < w). none_to k.at (omega (arith, k.after)) (omega (arith, k.seen.from)) y k.needs)
                    (λ (y : w ≤ k.at).
                    ⊎_elim (λ (j : v + b < w). omega (arith, k.seen.to, k.from)) (λ j. both_ways (dead w) (k.seen.alive w (omega (arith, k.from, j.1)) y) j.0) (h.lost g v m))
                    (cases_lt k.at w))
                    (cases_lt t p)),
              )

-- the first tick that is dead or needed
module _ (dead need : ℕ → Bool) (b end w u : ℕ) (from : u ≤ w) where
  pub ahead_dead : dead u ≡ false → dead w ≡ true → Ahead dead need b end w u false (Some w)
  ahead_dead here gone = record {
    later = ⊎_elim (λ (x : u < w). x) (λ (x : w ≤ u). let e : w ≡ u = omega arith in absurd (both_ways (dead u) here (ap dead (sym e) ∙ gone))) (cases_lt u w);
    near = λ e. absurd (clash e);
    good = λ e. absurd (clash e);
    lost = λ e v l. inr (gone, l);
  }

  pub ahead_far : u < w - b → Ahead dead need b end w u false (Some (w - b))
  ahead_far h = record {
    later = h;
    near = λ e. absurd (clash e);
    good = λ e. absurd (clash e);
    lost = λ e v l. inl (omega arith);
  }

  pub ahead_near : (y z : Bool) (o n : Option ℕ) → w - b ≤ u → w < end → (dead w || need w) ≡ true → Steady dead w y o → Steady need w z n → y ≡ false → Ahead dead need b end w u true (Some (clip (sooner o n) end))
  ahead_near y z o n h we some st nt gone =
      let both = steady_sooner dead need w y z o n st nt in
      let no : dead w ≡ false = sym (st.1 w (omega arith) (before_self w o st.0)) ∙ gone in
      let here : need w ≡ true = ⊎_elim (λ (x : dead w ≡ true). absurd (both_ways (dead w) no x)) (λ x. x) (or_cases (dead w) (need w) some) in
      let wl : w < clip (sooner o n) end = clip_later (sooner o n) end w both.0.0 we in
      let most = clip_most (sooner o n) end in
      record {
        later = omega arith;
        near = λ e. omega arith;
        good = λ e v k l i j. (run dead w end false y (sooner o n) no both.0 k i (omega arith), run need w end true z (sooner o n) here both.1 k i (omega arith), omega arith);
        lost = λ e. absurd (clash (sym e));
      }
