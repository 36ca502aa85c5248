-- Ticks that the steps of want signals name.
use Rattle.std.proofs.Common.{◌≡◌, ℕ, ◌+◌, ◌-◌, ◌<◌, ◌≤◌, min, max, Bool, true, false, List, ℤ, Some, None, Option, ◌⊎◌, inl, inr, sym, refl, ap, ◌∙◌, subst, ⊎_elim, arith}
use borrow.Author.Tests.{both_ways}
use Rattle.std.proofs.lemmas.Bool.{cases_lt}
use Rattle.pieces.specs.Ticks.{Later, Steady}
use Rattle.judge.specs.Yes.{clip, FirstFrom}
use Rattle.pieces.specs.declared.piece.Piece.{Piece}
use Rattle.rules.specs.declared.row.Side.{Side}
use Rattle.rules.specs.declared.row.Row.{Row}
use Rattle.rules.specs.declared.row.Row.TheVariants.{Test, Not, And, Or, Eventually, Always, Until}
use Rattle.judge.specs.Candidates.{Starts, EitherStarts, NeverOr}
use Rattle.judge.specs.WantCandidates.{FromOr, FirstSeen, LastSeen, RightCandidate, LeftCandidate, AheadCandidate, ChildCandidate}

-- a step that is cut off at e ends at a named tick, or goes on at e
pub clip_cases : (P : ℕ → Type 0) (f : ℕ → Bool) (t e : ℕ) (v : Bool) (o : Option ℕ) → Steady f t v o → t < e → NeverOr P o → P (clip o e) ⊎ ((clip o e ≡ e) × (f e ≡ v))
clip_cases P f t e v None st l h = inr (refl, sym (st.1 e (omega arith) tt))
clip_cases P f t e v (Some n) st l h =
    ⊎_elim
    (λ (x : e < n). inr (omega arith, sym (st.1 e (omega arith) x)))
    (λ (x : n ≤ e). let is : n ≡ min n e = omega arith in inl (subst P is h))
    (cases_lt e n)

pub clip_or : (P : ℕ → Type 0) (e : ℕ) (o : Option ℕ) → NeverOr P o → (clip o e ≡ e) ⊎ P (clip o e)
clip_or P e None h = inl refl
clip_or P e (Some n) h =
    ⊎_elim
    (λ (x : e < n). inl (omega arith))
    (λ (x : n ≤ e). let is : n ≡ min n e = omega arith in inr (subst P is h))
    (cases_lt e n)

pub named_later : (t : ℕ) (P Q : ℕ → Type 0) (o : Option ℕ) → Later t o → NeverOr P o → ((n : ℕ) → t < n → P n → Q n) → NeverOr Q o
named_later t P Q None l h up = tt
named_later t P Q (Some n) l h up = up n l h

module _ (P : ℕ → Type 0) (f : ℕ → Bool) where
  -- a walk goes on
  pub walk_on : (s t e : ℕ) (v : Bool) (o : Option ℕ) → Steady f t v o → t < e → NeverOr P o → clip o e < e → FromOr P s (clip o e)
  walk_on s t e v o st l h k = ⊎_elim (λ x. inr x) (λ x. absurd (omega (arith, x.0))) (clip_cases P f t e v o st l h)

  -- after a yes
  pub walk_clear : (s t e : ℕ) (v : Bool) (o : Option ℕ) → Steady f t v o → t < e → NeverOr P o → v ≡ true → f e ≡ false → FromOr P s (clip o e)
  walk_clear s t e v o st l h y n = ⊎_elim (λ x. inr x) (λ x. absurd (both_ways (f e) n (x.1 ∙ y))) (clip_cases P f t e v o st l h)

module _ (A D : ℕ → Type 0) (dead : ℕ → Bool) (a b limit t s : ℕ) (ab : a ≤ b) (sd : FromOr D (t - b) s) where
  pub opens_at : (p : ℕ) → FromOr A s p → t < p + a → FirstSeen A D a b limit (p + a)
  opens_at p h l = (
    p,
    (
      refl,
      ⊎_elim
          (λ e. ⊎_elim (λ k. inl (omega arith)) (λ d. inr (inr (subst D (sym e) d))) sd)
          (λ x. inr (inl x))
          h,
    ),
  )

  pub closes_at : (q : ℕ) (n : ℕ) (o : Option ℕ) → q ≡ clip o limit → NeverOr A o → n ≡ q + b → LastSeen A D a b limit n
  closes_at q n o is h e = (q, (e, subst (λ k. (k ≡ limit) ⊎ A k) (sym is) (clip_or A limit o h)))

  -- the first dead tick from t on, or the end
  pub right_ends : (q z : ℕ) (o : Option ℕ) → q ≡ clip o limit → NeverOr A o → dead t ≡ false → FirstFrom dead true t (q + b) z → (z < q + b → FromOr D t z) → RightCandidate A D a b limit z
  right_ends q z o is h alive f stop =
      ⊎_elim
      (λ l. ⊎_elim (λ e. absurd (both_ways (dead t) alive (ap dead (sym e) ∙ f.here l))) (λ d. inl d) (stop l))
      (λ l. inr (inr (closes_at q z o is h (omega (arith, f.to)))))
      (cases_lt z (q + b))

-- how far the walk for a left child has come: p is where the row asks next, and c where the last walk ended
pub record Traced (A : ℕ → Type 0) (b limit t s p c : ℕ) : Type 0 where
  pub asking : p < limit → FromOr A s p
  pub ended : (c ≡ t) ⊎ ((q : ℕ) × ((c ≡ q + b) × ((q ≡ limit) ⊎ A q) × (q ≤ p)))
  pub ahead : t ≤ c

module _ (A D N : ℕ → Type 0) (dead : ℕ → Bool) (a b limit t s : ℕ) (ab : a ≤ b) (sd : FromOr D (t - b) s) where
  abbrev LeftAt : ℕ → Type 0
  LeftAt = LeftCandidate A D a b limit N

  as_right : (n : ℕ) → RightCandidate A D a b limit n → LeftAt n
  as_right n h = inl h

  module _ (p c : ℕ) (i : Traced A b limit t s p c) (pl : p < limit) where
    pub left_later : s ≤ t → t < p → LeftAt p
    left_later st l = ⊎_elim (λ e. absurd (omega arith)) (λ x. inr (inl x)) (i.asking pl)

    -- c is no dead tick, or the end of what is seen from an earlier run
    end_here : dead t ≡ false → dead c ≡ true → LeftAt c
    end_here alive gone =
        ⊎_elim
        (λ e. absurd (both_ways (dead t) alive (ap dead (sym e) ∙ gone)))
        (λ q. as_right c (inr (inr (q.0, (q.1.0, q.1.1)))))
        i.ended

    pub left_cut : (z : ℕ) → dead t ≡ false → dead z ≡ true → FromOr D c z → LeftAt z
    left_cut z alive gone h =
        ⊎_elim (λ e. subst LeftAt (sym e) (end_here alive (ap dead (sym e) ∙ gone))) (λ d. as_right z (inl d)) h

    module _ (pt : p ≤ t) (from w : ℕ) (is : from ≡ max c (p + a)) (h : FromOr (λ k. D k ⊎ N k) from w) where
      dead_here : dead t ≡ false → dead w ≡ true → w ≡ from → LeftAt w
      dead_here alive gone e =
          ⊎_elim
          (λ (x : c < p + a).
          let same : w ≡ p + a = omega arith in
          subst LeftAt (sym same) (as_right (p + a) (inr (inl (opens_at A D dead a b limit t s ab sd p (i.asking pl) (omega (arith, i.ahead)))))))
          (λ (x : p + a ≤ c).
          let same : w ≡ c = omega arith in
          subst LeftAt (sym same) (end_here alive (ap dead (sym same) ∙ gone)))
          (cases_lt c (p + a))

      not_early : (n : ℕ) → t < n → n + b ≡ w → w ≡ from → ⊥
      not_early n l e f =
          ⊎_elim
          (λ (x : c < p + a). omega arith)
          (λ (x : p + a ≤ c). ⊎_elim (λ k. omega arith) (λ q. omega (arith, q.1.0, q.1.2)) i.ended)
          (cases_lt c (p + a))

      pub left_ahead : (q end n : ℕ) (o : Option ℕ) → dead t ≡ false → q ≡ clip o limit → NeverOr A o → end ≡ q + b → t < n → AheadCandidate dead D N b end w n → LeftAt n
      left_ahead q end n o alive qs ao es l g =
          ⊎_elim
          (λ x.
          subst LeftAt (sym x.0)
          (⊎_elim (λ e. dead_here alive x.1 e) (λ y. ⊎_elim (λ d. as_right w (inl d)) (λ k. inr (inr (inl k))) y) h))
          (λ x.
          ⊎_elim
          (λ e.
          ⊎_elim
          (λ f. absurd (not_early n l e f))
          (λ y. ⊎_elim (λ d. inr (inr (inr (inl (subst D (sym e) d))))) (λ k. inr (inr (inr (inr (subst N (sym e) k))))) y)
          h)
          (λ y.
          ⊎_elim
          (λ z. ⊎_elim (λ d. as_right n (inl d)) (λ k. inr (inr (inl k))) z)
          (λ e. as_right n (inr (inr (closes_at A D dead a b limit t s ab sd q n o qs ao (e ∙ es)))))
          y)
          x)
          g

    pub traced_more : (q p' c' : ℕ) (o : Option ℕ) → q ≡ clip o limit → NeverOr A o → q ≤ p' → (p' < limit → FromOr A q p') → c' ≡ q + b → t ≤ c' → Traced A b limit t s p' c'
    traced_more q p' c' o qs ao qp stop es tc =
        let qa : (q ≡ limit) ⊎ A q = subst (λ k. (k ≡ limit) ⊎ A k) (sym qs) (clip_or A limit o ao) in
        record {
          asking = λ l. ⊎_elim (λ e. ⊎_elim (λ k. absurd (omega arith)) (λ x. inr (subst A (sym e) x)) qa) (λ x. inr x) (stop l);
          ended = inr (q, (es, qa, qp));
          ahead = tc;
        }

-- of a child, by the row that asks for it
module _ {V : Type 0} (lists : ℕ → List (Piece V)) (row : Row) (c limit k : ℕ) (want : List (Piece Bool)) (o : Option ℕ) where
  abbrev ChildNames : Row → Type 0
  ChildNames r = ChildCandidate lists r c limit (EitherStarts want (lists k)) o

  pub test_asked : (l : ℕ) × (s : Side) × (m : ℤ) × (row ≡ Test l s m) → o ≡ None → ChildNames row
  test_asked h e = subst ChildNames (sym h.3) e

  module _ (ps : List (Piece V)) (own : ps ≡ lists k) where
    abbrev RightNames : (ℕ → Type 0) → ℕ → ℕ → List (Piece V) → Type 0
    RightNames D a b ps = NeverOr (RightCandidate (EitherStarts want ps) D a b limit) o

    abbrev LeftNames : (ℕ → Type 0) → (ℕ → Type 0) → ℕ → ℕ → List (Piece V) → Type 0
    LeftNames D N a b ps = NeverOr (LeftCandidate (EitherStarts want ps) D a b limit N) o

    pub here_asked : ((d : ℕ) × (row ≡ Not d)) ⊎ (((l : ℕ) × (r : ℕ) × (row ≡ And l r)) ⊎ ((l : ℕ) × (r : ℕ) × (row ≡ Or l r))) → RightNames (λ n. ⊥) 0 0 ps → ChildNames row
    here_asked is h =
        let there : RightNames (λ n. ⊥) 0 0 (lists k) = subst (RightNames (λ n. ⊥) 0 0) own h in
        ⊎_elim (λ x. subst ChildNames (sym x.1) there) (⊎_elim (λ x. subst ChildNames (sym x.2) there) (λ x. subst ChildNames (sym x.2) there)) is

    pub window_asked : (a b : ℕ) → ((d : ℕ) × (row ≡ Eventually a b d)) ⊎ ((d : ℕ) × (row ≡ Always a b d)) → RightNames (λ n. ⊥) a b ps → ChildNames row
    window_asked a b is h =
        let there : RightNames (λ n. ⊥) a b (lists k) = subst (RightNames (λ n. ⊥) a b) own h in
        ⊎_elim (λ x. subst ChildNames (sym x.1) there) (λ x. subst ChildNames (sym x.1) there) is

    module _ (a b l r : ℕ) (is : row ≡ Until a b l r) (qs : List (Piece V)) (low : qs ≡ lists l) where
      pub right_asked : c ≡ r → RightNames (Starts qs) a b ps → ChildNames row
      right_asked e h =
          let there : RightNames (Starts (lists l)) a b (lists k) = subst (λ qs. RightNames (Starts qs) a b (lists k)) low (subst (RightNames (Starts qs) a b) own h) in
          subst ChildNames (sym is) (λ x. there, λ n. absurd (n e))

      pub left_asked : (c ≡ r → ⊥) → (rs : List (Piece V)) → rs ≡ lists r → LeftNames (Starts qs) (Starts rs) a b ps → ChildNames row
      left_asked n rs high h =
          let there : LeftNames (Starts (lists l)) (Starts (lists r)) a b (lists k) =
          subst (λ rs. LeftNames (Starts (lists l)) (Starts rs) a b (lists k)) high (subst (λ qs. LeftNames (Starts qs) (Starts rs) a b (lists k)) low (subst (LeftNames (Starts qs) (Starts rs) a b) own h)) in
          subst ChildNames (sym is) (λ e. absurd (n e), λ x. there)
