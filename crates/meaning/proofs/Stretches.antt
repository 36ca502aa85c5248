-- The longest stretches of one row, one after another, and the lists of all rows that they make up.
use Rattle.std.proofs.Common.{◌≡◌, ℕ, zero, suc, ◌+◌, ◌-◌, ◌<◌, ◌≤◌, ◌⊎◌, List, [], ◌∷◌, ◌++◌, sym, refl, subst, inl, inr, arith}
use native.Mathlib.Decide.{dec_lt}
use Rattle.meaning.specs.declared.mark.Mark.{Mark}
use Rattle.meaning.specs.Marks.{LongestStretch, Listed, Each, MarkBefore, Ordered}
use Rattle.meaning.proofs.Deciding.{not?, first}

-- m is the first longest stretch of P from s on, for the row k
pub record Next (P : ℕ → Type 0) (k s : ℕ) (m : Mark) : Type 0 where
  pub of_row : m.row ≡ k
  pub from : s ≤ m.first
  pub before : (u : ℕ) → s ≤ u → u < m.first → ¬ (P u)
  pub some : m.first < m.after
  pub all : (u : ℕ) → m.first ≤ u → u < m.after → P u
  pub ends : ¬ (P m.after)

-- the stretches from s on follow one another
abbrev pub Chain : (ℕ → Type 0) → ℕ → ℕ → List Mark → Type 0
Chain P k s [] = (u : ℕ) → s ≤ u → ¬ (P u)
Chain P k s (m ∷ ms) = Next P k s m × Chain P k m.after ms

pub each_as : {P Q : Mark → Type 0} → ((m : Mark) → P m → Q m) → (ms : List Mark) → Each P ms → Each Q ms
each_as f [] h = tt
each_as f (m ∷ ms) h = (f m h.0, each_as f ms h.1)

pub each_both : (P : Mark → Type 0) (ms ns : List Mark) → Each P ms → Each P ns → Each P (ms ++ ns)
each_both P [] ns h k = k
each_both P (m ∷ ms) ns h k = (h.0, each_both P ms ns h.1 k)

module _ (P : ℕ → Type 0) (k : ℕ) where
  pub chain_rows : (s : ℕ) (ms : List Mark) → Chain P k s ms → Each (λ m. m.row ≡ k) ms
  chain_rows s [] c = tt
  chain_rows s (m ∷ ms) c = (c.0.of_row, chain_rows m.after ms c.1)

  chain_from : (s : ℕ) (ms : List Mark) → Chain P k s ms → Each (λ m. s ≤ m.first) ms
  chain_from s [] c = tt
  chain_from s (m ∷ ms) c =
      let n = c.0 in
      (n.from, each_as (λ z (h : m.after ≤ z.first). let a = n.from in let b = n.some in omega arith) ms (chain_from m.after ms c.1))

  pub chain_longest : (s : ℕ) → (s ≡ 0) ⊎ ¬ (P s) → (ms : List Mark) → Chain P k s ms → Each (λ m. LongestStretch P m.first m.after) ms
  chain_longest s start [] c = tt
  chain_longest s start (m ∷ ms) c =
      (record { some = n.some; all = n.all; starts = λ u e. starts u e start; ends = n.ends }, chain_longest m.after (inr n.ends) ms c.1)
    where
      n : Next P k s m
      n = c.0

      starts : (u : ℕ) → suc u ≡ m.first → (s ≡ 0) ⊎ ¬ (P s) → ¬ (P u)
      starts u e (inl z) = n.before u (omega arith) (omega arith)
      starts u e (inr no_start) = elim (dec_lt u s) [
        | yes l ↦ let a = n.from in let b = n.some in let is : m.first ≡ s = omega arith in absurd (no_start (n.all s (omega arith) (omega arith)))
        | no l ↦ n.before u (omega arith) (omega arith)
      ]

  pub chain_complete : (s : ℕ) (ms : List Mark) → Chain P k s ms → (u : ℕ) → s ≤ u → P u → Listed ms k u
  chain_complete s [] c u h p = absurd (c u h p)
  chain_complete s (m ∷ ms) c u h p = elim (dec_lt u m.first) [
    | yes l ↦ absurd (c.0.before u h l p)
    | no l ↦ elim (dec_lt u m.after) [
      | yes r ↦ inl (sym c.0.of_row, omega arith, r)
      | no r ↦ inr (chain_complete m.after ms c.1 u (omega arith) p)
    ]
  ]

  pub chain_ordered : (s : ℕ) (ms : List Mark) → Chain P k s ms → Ordered ms
  chain_ordered s [] c = tt
  chain_ordered s (m ∷ ms) c =
      (behind ms (chain_rows m.after ms c.1) (chain_from m.after ms c.1), chain_ordered m.after ms c.1)
    where
      behind : (ns : List Mark) → Each (λ z. z.row ≡ k) ns → Each (λ z. m.after ≤ z.first) ns → Each (MarkBefore m) ns
      behind [] h j = tt
      behind (z ∷ ns) h j =
          let n = c.0 in
          let a = n.some in
          let e = n.of_row in
          let f = h.0 in
          let l = j.0 in
          (inr (omega arith, omega arith), behind ns h.1 j.1)

-- what is told of each tick, and holds below n only, has a chain
module _ {P : ℕ → Type 0} (told : (u : ℕ) → Dec (P u)) (k n : ℕ) (ends : (u : ℕ) → P u → u < n) where
  sure : (u : ℕ) → ¬ (¬ (P u)) → P u
  sure u h = elim (told u) [ yes p ↦ p | no m ↦ absurd (h m) ]

  pub has_chain : (fuel s : ℕ) → n ≤ s + fuel → (ms : List Mark) × Chain P k s ms
  has_chain zero s far = ([], λ u h p. let l = ends u p in absurd (omega arith))
  has_chain (suc fuel) s far =
      let f = first told s (n - s) in
      let a = f.1 in
      let g = first (λ u. not? (told u)) f.0 (n - f.0) in
      let b = g.1 in
      elim (dec_lt f.0 n) [
        | no l ↦ ([], λ u h p. let e = ends u p in a.none u h (omega arith) p)
        | yes l ↦
            let p : P f.0 = a.here (omega arith) in
            let later : f.0 < g.0 = elim (dec_lt f.0 g.0) [ yes z ↦ z | no z ↦ absurd (subst (λ j. ¬ (P j)) (omega arith) (b.here (omega arith)) p) ] in
            let rest = has_chain fuel g.0 (omega arith) in (
              record { row = k; first = f.0; after = g.0 } ∷ rest.0,
              (
                record {
                  of_row = refl;
                  from = a.from;
                  before = a.none;
                  some = later;
                  all = λ u h j. sure u (b.none u h j);
                  ends = λ q. let e = ends g.0 q in b.here (omega arith) q;
                },
                rest.1,
              ),
            )
      ]
