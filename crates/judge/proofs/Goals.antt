-- Until: the lower of left from t on, and what it is with right, piece by piece.
use Rattle.std.proofs.Common.{◌≡◌, ℕ, zero, suc, ◌+◌, ◌-◌, ◌<◌, ◌≤◌, Some, Option, sym, refl, ap, ◌∙◌, subst, ⊎_elim, arith}
use Rattle.std.proofs.lemmas.Bool.{cases_lt, cases_eq}
use Rattle.grades.specs.Kinds.{Kind, Lawful}
use Rattle.grades.specs.Ranges.{Span, spans}
use Rattle.pieces.specs.Ticks.{Before, Later, Steady, sooner, earlier}
use Rattle.pieces.proofs.Steadies.{before_self, before_most, self_steady, steady_as, steady_sooner, later_sooner, before_sooner}
use Rattle.pieces.proofs.Windows.{Joins, Least, over_is, over_in, over_most}
use Rattle.meaning.specs.Values.{over, until_at}
use Rattle.meaning.specs.Verdicts.{ranges}
use Rattle.judge.specs.declared.steps.Way.TheVariants.{Upper, Lower}
use Rattle.judge.specs.Signals.{Stays}
use Rattle.judge.proofs.Overs.{under, joins, gathers, Gathering, gathering_first, gathering_more, window_steady}

over_same : {C : Type 0} (f : C → C → C) (g h : ℕ → C) (s n : ℕ) → ((k : ℕ) → s ≤ k → g k ≡ h k) → over f g s n ≡ over f h s n
unfolding over
over_same f g h s zero e = e s (omega arith)
over_same f g h s (suc n) e =
    ap (λ x. f x (over f g (suc s) n)) (e s (omega arith)) ∙ ap (f (h s)) (over_same f g h (suc s) n (λ k a. e k (omega arith)))

module _ (K : Kind) (l r : ℕ → Span K.Value) (t : ℕ) where
  -- all of left from t to k
  abbrev run : ℕ → Span K.Value
  run k = over (spans K).meet l t (k - t)

  abbrev pub aims : ℕ → Span K.Value
  aims = until_at (ranges K) l r t

  -- the walk over the pieces of both: what is made of the goals, and the lower of left so far
  pub record Walking (first end : ℕ) (next : Option ℕ) (all low : Span K.Value) : Type 0 where
    pub at : ℕ
    pub gathered : Gathering (spans K).below aims first end at next all
    pub low_is : low ≡ run at
    pub left : Stays l at next
    pub right : Stays r at next

  aims_is : (k : ℕ) → aims k ≡ (spans K).meet (r k) (run k)
  unfolding until_at
  aims_is k = refl

  module _ (L : Lawful K) where
    J : Joins (under K Lower) (spans K).meet
    J = joins L Lower

    same_under : (p q : Span K.Value) → p ≡ q → under K Lower p q
    same_under p q e = subst (under K Lower p) e (J.reflexive p)

    in_run : (j p : ℕ) → t ≤ p → p ≤ j → under K Lower (l p) (run j)
    in_run j p a b = over_in J l (over (spans K).meet l) (gathers (spans K).meet l) t j p a b

    most_run : (j : ℕ) → t ≤ j → Least (under K Lower) l t j (run j)
    most_run j h = over_most J l (over (spans K).meet l) (gathers (spans K).meet l) t j h

    is_run : (k : ℕ) (x : Span K.Value) → t ≤ k → ((p : ℕ) → t ≤ p → p ≤ k → under K Lower (l p) x) → Least (under K Lower) l t k x → x ≡ run k
    is_run k x h up lo = over_is J l (over (spans K).meet l) (gathers (spans K).meet l) t k x h up lo

    -- left stays as it is from j to k
    run_flat : (j k : ℕ) → t ≤ j → j ≤ k → ((p : ℕ) → j ≤ p → p ≤ k → l j ≡ l p) → run j ≡ run k
    run_flat j k h i flat =
        is_run k (run j) (omega arith)
        (λ p a b.
        ⊎_elim
        (λ c. J.chained (l p) (l j) (run j) (same_under (l p) (l j) (sym (flat p (omega arith) b))) (in_run j j h (omega arith)))
        (λ c. in_run j p a c)
        (cases_lt j p))
        (λ y all. most_run j h y (λ p a b. all p a (omega arith)))

    -- left is one from t to u
    run_shift : (u k : ℕ) → t ≤ u → u ≤ k → ((p : ℕ) → t ≤ p → p ≤ u → l p ≡ l u) → over (spans K).meet l u (k - u) ≡ run k
    run_shift u k h i flat =
        let x = over (spans K).meet l u (k - u) in
        let G = gathers (spans K).meet l in
        is_run k x (omega arith)
        (λ p a b.
        ⊎_elim
        (λ c. J.chained (l p) (l u) x (same_under (l p) (l u) (flat p a (omega arith))) (over_in J l (over (spans K).meet l) G u k u (omega arith) i))
        (λ c. over_in J l (over (spans K).meet l) G u k p c b)
        (cases_lt p u))
        (λ y all. over_most J l (over (spans K).meet l) G u k i y (λ p a b. all p (omega arith) b))

    -- left changes at u
    run_next : (j u : ℕ) → t ≤ j → j < u → ((p : ℕ) → j ≤ p → p < u → l j ≡ l p) → (spans K).meet (run j) (l u) ≡ run u
    run_next j u h i flat =
        let x = (spans K).meet (run j) (l u) in
        let left : (p : ℕ) → under K Lower (l p) (run j) → under K Lower (l p) x = λ p below. J.chained (l p) (run j) x below (J.over_left (run j) (l u)) in
        is_run u x (omega arith)
        (λ p a b.
        ⊎_elim
        (λ e. J.chained (l p) (l u) x (same_under (l p) (l u) (ap l e)) (J.over_right (run j) (l u)))
        (λ ne.
        ⊎_elim
        (λ c. left p (J.chained (l p) (l j) (run j) (same_under (l p) (l j) (sym (flat p (omega arith) (omega arith)))) (in_run j j h (omega arith))))
        (λ c. left p (in_run j p a c))
        (cases_lt j p))
        (cases_eq p u))
        (λ y all. J.least (run j) (l u) y (most_run j h y (λ p a b. all p a (omega arith))) (all u (omega arith) (omega arith)))

    aims_flat : (j k : ℕ) → t ≤ j → j ≤ k → ((p : ℕ) → j ≤ p → p ≤ k → l j ≡ l p) → r j ≡ r k → aims j ≡ aims k
    aims_flat j k h i lf rf =
        aims_is j ∙ ap (λ x. (spans K).meet x (run j)) rf ∙ ap ((spans K).meet (r k)) (run_flat j k h i lf) ∙ sym (aims_is k)

    pub aims_stay : (j : ℕ) (o : Option ℕ) → t ≤ j → Stays l j o → Stays r j o → Stays aims j o
    aims_stay j o h sl sr = (sl.0, λ k a b. aims_flat j k h a (λ p c d. sl.1 p c (before_most p k o d b)) (sr.1 k a b))

    aims_shift : (u k : ℕ) → t ≤ u → u ≤ k → ((p : ℕ) → t ≤ p → p ≤ u → l p ≡ l u) → aims k ≡ until_at (ranges K) l r u k
    unfolding until_at
    aims_shift u k h i flat = ap ((spans K).meet (r k)) (sym (run_shift u k h i flat))

    -- both stay up to the sooner change
    both_stay : (s : ℕ) (here aim : Span K.Value) (m n o : Option ℕ) → Steady l s here m → Steady r s aim n → o ≡ sooner m n → Stays l s o × Stays r s o
    both_stay s here aim m n o sl sr e =
        let both = steady_sooner l r s (l s) (r s) m n (self_steady l s here m sl) (self_steady r s aim n sr) in
        (steady_as l s (l s) (l s) (sooner m n) o refl e both.0, steady_as r s (r s) (r s) (sooner m n) o refl e both.1)

    -- the goal at s
    goal_at : (s : ℕ) (low aim x : Span K.Value) (n : Option ℕ) → low ≡ run s → Steady r s aim n → x ≡ (spans K).meet aim low → x ≡ aims s
    goal_at s low aim x n is sr e =
        e ∙ ap (λ p. (spans K).meet p low) (sr.1 s (omega arith) (before_self s n sr.0)) ∙ ap ((spans K).meet (r s)) is ∙ sym (aims_is s)

    -- the walk begins at the tick s
    module _ (s e : ℕ) (low aim all : Span K.Value) (m n o : Option ℕ) (ts : t ≤ s) (low_is : low ≡ run s) (sl : Stays l s m) (sr : Steady r s aim n) (eo : o ≡ sooner m n) where
      pub walking_leaves : Stays aims s o
      walking_leaves = let both = both_stay s (l s) aim m n o sl sr eo in aims_stay s o ts both.0 both.1

      pub walking_first : s ≤ e → all ≡ (spans K).meet aim low → Walking s e o all low
      walking_first se ea =
          let both = both_stay s (l s) aim m n o sl sr eo in
          let st : Steady aims s all o = steady_as aims s (aims s) all o o (goal_at s low aim all n low_is sr ea) refl walking_leaves in
          record { at = s; gathered = gathering_first (joins L Upper) aims s e all o se st; low_is = low_is; left = both.0; right = both.1 }

    module _ (s e : ℕ) (next : Option ℕ) (all low : Span K.Value) (ts : t ≤ s) (W : Walking s e next all low) where
      -- it comes to u, where left or right changes
      pub walking_more : (u : ℕ) (here aim low' both all' : Span K.Value) (m n o : Option ℕ) → next ≡ Some u → u ≤ e → Steady l u here m → Steady r u aim n → o ≡ sooner m n →
          low' ≡ (spans K).meet low here → both ≡ (spans K).meet aim low' → all' ≡ (spans K).join all both → Walking s e o all' low'
      walking_more u here aim low' both all' m n o is ue sl sr eo el eb ea =
          let at = W.at in
          let G = W.gathered in
          let lt : at < u = subst (Later at) is W.left.0 in
          let tu : t ≤ u = omega (arith, G.from) in
          let flat : Stays l at (Some u) = subst (Stays l at) is W.left in
          let stay = both_stay u here aim m n o sl sr eo in
          let low_is : low' ≡ run u =
          el ∙ ap (λ p. (spans K).meet p here) W.low_is ∙ ap ((spans K).meet (run at)) (sl.1 u (omega arith) (before_self u m sl.0)) ∙ run_next at u (omega (arith, G.from)) lt flat.1 in
          let st : Steady aims u both o = steady_as aims u (aims u) both o o (goal_at u low' aim both n low_is sr eb) refl (aims_stay u o tu stay.0 stay.1) in
          record { at = u; gathered = gathering_more (joins L Upper) aims s e at next all G u both all' o is ue ea st; low_is = low_is; left = stay.0; right = stay.1 }

    -- an until at u is worth what it is at t, as long as left is as it is at t and nothing leaves the window or comes into it
    pub until_steady : (a b : ℕ) (x here : Span K.Value) (changes leaves next ends o : Option ℕ) → a ≤ b → x ≡ over (spans K).join aims (t + a) (t + b - (t + a)) →
        Steady l t here changes → Stays aims (t + a) leaves → Stays aims (t + b) next → ends ≡ sooner (earlier leaves a) (earlier next b) → o ≡ sooner changes ends →
        Steady (λ u. over (spans K).join (until_at (ranges K) l r u) (u + a) (b - a)) t x o
    until_steady a b x here changes leaves next ends o ab is sh sl sn ee eo =
        let sc = self_steady l t here changes sh in
        let w = window_steady (joins L Upper) aims t a b x leaves next ends ab is sl sn ee in (
          subst (Later t) (sym eo) (later_sooner t changes ends sc.0 w.0),
          λ u tu bu.
              let both = before_sooner u changes ends (subst (λ n. Before n u) eo bu) in
              w.1 u tu both.1 ∙ over_same (spans K).join aims (until_at (ranges K) l r u) (u + a) (b - a)
              (λ k h. aims_shift u k tu (omega arith) (λ p d e. sym (sc.1 p d (before_most p u changes e both.0)) ∙ sc.1 u tu both.0)),
        )
