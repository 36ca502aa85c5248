-- What is seen from stretches of asking ticks, stretch by stretch. The walks go tick by tick; these facts hold beside them, and no function cites them.
-- `FromUpTo` was once called `Within`, and `PartKnown` was `Parted`.
use Rattle.std.proofs.Common.{◌≡◌, ℕ, ◌+◌, ◌-◌, ◌<◌, ◌≤◌, min, max, Bool, true, false, ◌||◌, ◌⊎◌, None, Option, sym, refl, ◌∙◌, subst, inl, inr, ⊎_elim, arith}
use borrow.Author.Tests.{clash, both_ways}
use Rattle.std.proofs.lemmas.Bool.{cases_lt}
use Rattle.pieces.specs.Ticks.{sooner, Before}
use Rattle.pieces.proofs.Steadies.{later_sooner, before_sooner}
use Rattle.grades.specs.Kinds.{Tells}
use Rattle.judge.specs.Yes.{any, Known}
use Rattle.judge.specs.Reaches.{Sees, sees, held_over}
use Rattle.meaning.proofs.Readings.{tells_as}
use Rattle.runs.proofs.WantedLists.{told_same}
use Rattle.judge.proofs.Anys.{any_from, any_some, tells_from}
use Rattle.judge.proofs.Sights.{sees_is, is_sees, holds_is, is_holds}

abbrev pub FromUpTo : ℕ → ℕ → ℕ → Type 0
FromUpTo lo hi w = (lo ≤ w) × (w < hi)

module _ (sees : ℕ → ℕ → Bool) where
  -- w is seen from some tick from p on and before q
  abbrev pub Between : ℕ → ℕ → ℕ → Type 0
  Between p q w = (t : ℕ) × ((p ≤ t) × (t < q) × (sees t w ≡ true))

  pub record PartKnown (limit p u : ℕ) (found : Bool) (next : Option ℕ) (upto : ℕ) : Type 0 where
    pub later : p < upto
    pub within : upto ≤ limit
    pub known : Known (Between p upto) u found next

module _ (asks dead : ℕ → Bool) where
  pub record Stretched (limit b p : ℕ) (o : Bool) (after end : ℕ) : Type 0 where
    pub later : p < after
    pub within : after ≤ limit
    pub shut : o ≡ false → (t : ℕ) → p ≤ t → t < after → asks t ≡ true → dead t ≡ true
    pub wants : o ≡ true → (t : ℕ) → p ≤ t → t < after → asks t ≡ true
    pub clear : o ≡ true → (k : ℕ) → p ≤ k → k < end → dead k ≡ false
    pub reaches : o ≡ true → (after ≤ end) × (end ≤ after + b)
    pub stops : o ≡ true → end < after + b → dead end ≡ true

-- v is at most b ticks before a tick from s on and before e at which need holds, and not before p
abbrev pub Back : (ℕ → Bool) → ℕ → ℕ → ℕ → ℕ → ℕ → Type 0
Back need p b s e v = (w : ℕ) × ((s ≤ w) × (w < e) × (need w ≡ true) × (p ≤ v) × (v ≤ w) × (w ≤ v + b))

pub tells_true : (b : Bool) → Tells b (b ≡ true)
tells_true true = refl
tells_true false = λ e. clash e

pub tells_or : (P Q : Type 0) (b c : Bool) → Tells b P → Tells c Q → Tells (b || c) (P ⊎ Q)
tells_or P Q true c p q = inl p
tells_or P Q false true n q = inr q
tells_or P Q false false n m = ⊎_elim n m

pub known_map : {P Q : ℕ → Type 0} (u : ℕ) (b : Bool) (o : Option ℕ) → ((w : ℕ) → P w → Q w) → ((w : ℕ) → Q w → P w) → Known P u b o → Known Q u b o
known_map u b o f h k = (k.0, λ w a e. tells_as b (f w) (h w) (k.1 w a e))

pub known_or : (P Q : ℕ → Type 0) (u : ℕ) (b c : Bool) (o n : Option ℕ) → Known P u b o → Known Q u c n → Known (λ w. P w ⊎ Q w) u (b || c) (sooner o n)
known_or P Q u b c o n k l = (
  later_sooner u o n k.0 l.0,
  λ w a e. let s = before_sooner w o n e in tells_or (P w) (Q w) b c (k.1 w a s.0) (l.1 w a s.1),
)

pub known_none : {P : ℕ → Type 0} (u : ℕ) → ((w : ℕ) → P w → ⊥) → Known P u false None
known_none u n = (tt, λ w a e. n w)

pub known_is : (P : ℕ → Type 0) (u : ℕ) (b c : Bool) (o n : Option ℕ) → b ≡ c → o ≡ n → Known P u c n → Known P u b o
known_is P u b c o n p q k = subst (λ x. Known P u x o) (sym p) (subst (λ x. Known P u c x) (sym q) k)

-- the same, where only the ticks that matter are asked
pub known_near : {P Q : ℕ → Type 0} (u : ℕ) (b : Bool) (o : Option ℕ) → ((w : ℕ) → u ≤ w → Before o w → P w → Q w) → ((w : ℕ) → u ≤ w → Before o w → Q w → P w) → Known P u b o → Known Q u b o
known_near u b o f h k = (k.0, λ w a e. tells_as b (f w a e) (h w a e) (k.1 w a e))

module _ (sees : ℕ → ℕ → Bool) where
  pub tells_any : (n w : ℕ) (b : Bool) → Tells b (Between sees 0 n w) → b ≡ any (λ t. sees t w) n
  tells_any n w b h =
      told_same (Between sees 0 n w) b (any (λ t. sees t w) n) h
      (tells_from (Between sees 0 n w) (any (λ t. sees t w) n)
      (λ e. let r = any_some (λ t. sees t w) n e in (r.0, (omega arith, r.1.0, r.1.1)))
      (λ q. any_from (λ t. sees t w) n q.0 q.1.1 q.1.2))

  pub joined : (s p q u : ℕ) (b c : Bool) (o n : Option ℕ) → s ≤ p → p ≤ q → Known (Between sees s p) u b o → Known (Between sees p q) u c n → Known (Between sees s q) u (b || c) (sooner o n)
  joined s p q u b c o n sp le k l =
      known_map u (b || c) (sooner o n)
      (λ w. ⊎_elim (λ h. (h.0, (h.1.0, omega (arith, h.1.1), h.1.2))) (λ h. (h.0, (omega (arith, h.1.0), h.1.1, h.1.2))))
      (λ w h. ⊎_elim (λ l. inl (h.0, (h.1.0, l, h.1.2))) (λ l. inr (h.0, (l, h.1.1, h.1.2))) (cases_lt h.0 p))
      (known_or (Between sees s p) (Between sees p q) u b c o n k l)

  -- from u on, nothing is seen from too long before u, and what is seen from p on comes too late
  pub widened : (far limit s p u : ℕ) (b : Bool) (o : Option ℕ) → ((t w : ℕ) → sees t w ≡ true → (t ≤ w) × (w ≤ t + far)) → s ≤ u - far → ((limit ≤ p) ⊎ ((w : ℕ) → Before o w → w < p)) → p ≤ max limit s → Known (Between sees s p) u b o → Known (Between sees 0 limit) u b o
  widened far limit s p u b o near su late pl k =
      known_near u b o
      (λ w a e h. (h.0, (omega arith, ⊎_elim (λ (l : h.0 < limit). l) (λ (l : limit ≤ h.0). absurd (omega (arith, h.1.0, h.1.1))) (cases_lt h.0 limit), h.1.2)))
      (λ w a e h.
      let r = near h.0 w h.1.2 in
      (h.0, (omega (arith, r.1), ⊎_elim (λ (l : limit ≤ p). omega (arith, h.1.1)) (λ l. omega (arith, l w e, r.0)) late, h.1.2)))
      k

module _ (asks dead : ℕ → Bool) (a b : ℕ) where
  module _ (limit p : ℕ) (after end : ℕ) where
    -- nothing is seen from a stretch that does not ask
    pub shut_none : Stretched asks dead limit b p false after end → (w : ℕ) → Between (sees asks dead a b) p after w → ⊥
    shut_none s w h =
        let t = h.0 in
        let v = sees_is asks dead a b t w h.1.2 in
        both_ways (dead t) (v.alive t (omega arith) (omega (arith, v.from))) (s.shut refl t h.1.0 h.1.1 v.wants)

    -- a stretch that asks sees from its first tick on, a ticks later, up to its end
    pub span_seen : a ≤ b → Stretched asks dead limit b p true after end → (w : ℕ) → FromUpTo (p + a) end w → Between (sees asks dead a b) p after w
    span_seen ab s w h =
        let r = s.reaches refl in
        let t = min (after - 1) (w - a) in
        let pt : p ≤ t = omega (arith, s.later) in
        let tq : t < after = omega (arith, s.later) in
        (t, (pt, tq, is_sees asks dead a b t w (record { wants = s.wants refl t pt tq; from = omega (arith, s.later); to = omega (arith, s.later); alive = λ k x y. s.clear refl k (omega arith) (omega arith) })))

    pub seen_span : Stretched asks dead limit b p true after end → (w : ℕ) → Between (sees asks dead a b) p after w → FromUpTo (p + a) end w
    seen_span s w h =
        let t = h.0 in
        let v = sees_is asks dead a b t w h.1.2 in
        let r = s.reaches refl in (
          omega (arith, v.from, h.1.0),
          ⊎_elim (λ (l : w < end). l)
              (λ (l : end ≤ w). absurd (both_ways (dead end) (v.alive end (omega (arith, h.1.1)) l) (s.stops refl (omega (arith, v.to, h.1.1)))))
              (cases_lt w end),
        )

module _ (asks dead need : ℕ → Bool) (a b : ℕ) where
  module _ (limit p : ℕ) (after end : ℕ) where
    pub shut_held : Stretched asks dead limit b p false after end → (v : ℕ) → Between (held_over asks dead need a b) p after v → ⊥
    shut_held s v h =
        let k = holds_is asks dead need a b h.0 v h.1.2 in
        shut_none asks dead a b limit p after end s k.at (h.0, (h.1.0, h.1.1, is_sees asks dead a b h.0 k.at k.seen))

    pub back_held : a ≤ b → Stretched asks dead limit b p true after end → (v : ℕ) → Back need p b (p + a) end v → Between (held_over asks dead need a b) p after v
    back_held ab s v h =
        let r = s.reaches refl in
        let w = h.0 in
        let i = h.1 in
        let t = min v (min (after - 1) (w - a)) in
        let pt : p ≤ t = omega (arith, s.later, i.0, i.3) in
        let tq : t < after = omega (arith, s.later) in
        let see : Sees asks dead a b t w = record { wants = s.wants refl t pt tq; from = omega (arith, i.0); to = omega (arith, s.later, i.0, i.1, i.5); alive = λ k x y. s.clear refl k (omega arith) (omega (arith, i.1)) } in
        (t, (pt, tq, is_holds asks dead need a b t v (record { from = omega arith; at = w; after = i.4; needs = i.2; seen = see })))

    pub held_back : Stretched asks dead limit b p true after end → (v : ℕ) → Between (held_over asks dead need a b) p after v → Back need p b (p + a) end v
    held_back s v h =
        let t = h.0 in
        let k = holds_is asks dead need a b t v h.1.2 in
        let w = k.at in
        let in' = seen_span asks dead a b limit p after end s w (t, (h.1.0, h.1.1, is_sees asks dead a b t w k.seen)) in
        (w, (in'.0, in'.1, k.needs, omega (arith, h.1.0, k.from), k.after, omega (arith, k.seen.to, k.from)))

module _ (need : ℕ → Bool) (p b s : ℕ) where
  pub back_more : (c d v : ℕ) (y : Bool) → s ≤ c → c < d → ((k : ℕ) → c ≤ k → k < d → y ≡ need k) → Back need p b s c v ⊎ ((y ≡ true) × FromUpTo (max p (c - b)) d v) → Back need p b s d v
  back_more c d v y sc cd e =
      ⊎_elim
      (λ h. (h.0, (h.1.0, omega (arith, h.1.1), h.1.2, h.1.3, h.1.4, h.1.5)))
      (λ h. let w = max c v in (w, (omega arith, omega (arith, h.1), sym (e w (omega arith) (omega (arith, h.1))) ∙ h.0, omega (arith, h.1), omega arith, omega (arith, h.1))))

  pub back_less : (c d v : ℕ) (y : Bool) → s ≤ c → c < d → ((k : ℕ) → c ≤ k → k < d → y ≡ need k) → Back need p b s d v → Back need p b s c v ⊎ ((y ≡ true) × FromUpTo (max p (c - b)) d v)
  back_less c d v y sc cd e h =
      let w = h.0 in
      let i = h.1 in
      ⊎_elim
      (λ (l : w < c). inl (w, (i.0, l, i.2, i.3, i.4, i.5)))
      (λ (l : c ≤ w). inr (e w l i.1 ∙ i.2, (omega (arith, i.3, i.5), omega (arith, i.1, i.4))))
      (cases_lt w c)
