-- Functions that stay as they are for some ticks.
use Rattle.std.proofs.Common.{◌≡◌, ℕ, ◌+◌, ◌-◌, ◌^◌, ◌<◌, ◌≤◌, Some, None, Option, sym, ap, ◌∙◌, subst, arith}
use Rattle.pieces.specs.Ticks.{Before, Later, Steady, sooner, earlier}

pub later_trans : (s t : ℕ) (o : Option ℕ) → s ≤ t → Later t o → Later s o
later_trans s t None h k = tt
later_trans s t (Some n) h k = omega arith

pub before_self : (t : ℕ) (o : Option ℕ) → Later t o → Before o t
before_self t None h = tt
before_self t (Some n) h = h

pub before_upto : (k e : ℕ) (o : Option ℕ) → k ≤ e → Later e o → Before o k
before_upto k e None h b = tt
before_upto k e (Some n) h b = omega arith

pub before_most : (k t : ℕ) (o : Option ℕ) → k ≤ t → Before o t → Before o k
before_most k t None h b = tt
before_most k t (Some n) h b = omega arith

pub later_sooner : (t : ℕ) (m n : Option ℕ) → Later t m → Later t n → Later t (sooner m n)
later_sooner t None n h k = k
later_sooner t (Some m) None h k = h
later_sooner t (Some m) (Some n) h k = omega arith

pub before_sooner : (u : ℕ) (m n : Option ℕ) → Before (sooner m n) u → Before m u × Before n u
before_sooner u None n h = (tt, h)
before_sooner u (Some m) None h = (h, tt)
before_sooner u (Some m) (Some n) h = (omega arith, omega arith)

-- a tick before the change as it is seen from k ticks earlier
pub before_earlier : (u k : ℕ) (o : Option ℕ) → Before (earlier o k) u → Before o (u + k)
before_earlier u k None h = tt
before_earlier u k (Some n) h = omega arith

pub later_earlier : (t k : ℕ) (o : Option ℕ) → Later (t + k) o → Later t (earlier o k)
later_earlier t k None h = tt
later_earlier t k (Some n) h = omega arith

-- a number that falls as the next tick rises: the measure of a loop that follows it
abbrev pub left : Option ℕ → ℕ
left None = 0
left (Some t) = 2 ^ 32 - t

less_left : (t : ℕ) (o : Option ℕ) → t < 2 ^ 32 → Later t o → left o < left (Some t)
less_left t None h k = omega arith
less_left t (Some n) h k = omega arith

pub falls : (next : Option ℕ) (t : ℕ) (o : Option ℕ) → next ≡ Some t → t < 2 ^ 32 → Later t o → left o < left next
falls next t o e h k = subst (λ m. left o < left m) (sym e) (less_left t o h k)

module _ {C : Type 0} where
  pub steady_as : (f : ℕ → C) (t : ℕ) (x y : C) (m n : Option ℕ) → y ≡ x → n ≡ m → Steady f t x m → Steady f t y n
  steady_as f t x y m n e o s = (subst (Later t) (sym o) s.0, λ u a b. e ∙ s.1 u a (subst (λ p. Before p u) o b))

  -- by the function's own value
  pub self_steady : (f : ℕ → C) (t : ℕ) (v : C) (o : Option ℕ) → Steady f t v o → Steady f t (f t) o
  self_steady f t v o s = (s.0, λ u a b. sym (s.1 t (omega arith) (before_self t o s.0)) ∙ s.1 u a b)

  -- from a later tick on
  pub steady_on : (f : ℕ → C) (at e : ℕ) (o : Option ℕ) → at ≤ e → Later e o → Steady f at (f at) o → Steady f e (f e) o
  steady_on f at e o h l s = (l, λ u a b. sym (s.1 e h (before_self e o l)) ∙ s.1 u (omega arith) b)

  -- two, up to the sooner change
  pub steady_sooner : (f g : ℕ → C) (t : ℕ) (x y : C) (m n : Option ℕ) → Steady f t x m → Steady g t y n → Steady f t x (sooner m n) × Steady g t y (sooner m n)
  steady_sooner f g t x y m n sf sg =
      let late = later_sooner t m n sf.0 sg.0 in
      ((late, λ u a b. sf.1 u a (before_sooner u m n b).0), (late, λ u a b. sg.1 u a (before_sooner u m n b).1))

  -- what two make together
  pub both_steady : (f g : ℕ → C) (t : ℕ) (x y : C) (m n : Option ℕ) (k : C → C → C) → Steady f t x m → Steady g t y n → Steady (λ u. k (f u) (g u)) t (k x y) (sooner m n)
  both_steady f g t x y m n k sf sg = (
    later_sooner t m n sf.0 sg.0,
    λ u a b.
        let both = before_sooner u m n b in
        ap (λ z. k z y) (sf.1 u a both.0) ∙ ap (λ z. k (f u) z) (sg.1 u a both.1),
  )
