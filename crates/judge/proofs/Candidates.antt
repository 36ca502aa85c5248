-- Ticks that steps name, from the ticks that look-ups find.
use Rattle.std.proofs.Common.{◌≡◌, ℕ, ◌+◌, ◌-◌, min, Bool, true, false, cond, leb, List, [], ◌∷◌, Some, None, Option, ◌⊎◌, inl, inr, ℤ, sym, refl, subst, ⊎_elim, arith}
use Rattle.std.proofs.lemmas.Bool.{cases_lt}
use Rattle.pieces.specs.declared.piece.Piece.{Piece}
use Rattle.pieces.specs.Ticks.{Later, Steady, Changed, sooner, earlier}
use Rattle.pieces.proofs.Steadies.{self_steady, before_self}
use Rattle.pieces.specs.Pieces.{next_from, Found}
use Rattle.rules.specs.declared.row.Side.{Side}
use Rattle.rules.specs.declared.row.Row.{Row}
use Rattle.rules.specs.declared.row.Row.TheVariants.{Test, Not, And, Or, Eventually, Always, Until}
use Rattle.meaning.specs.declared.reading.Reading.{Reading}
use Rattle.meaning.specs.Readings.{Readings}
use Rattle.judge.specs.Candidates.{Starts, EitherStarts, NeverOr, AtEnds, UntilCandidate, RowCandidate}

pub never_or_more : (P Q : ℕ → Type 0) (o : Option ℕ) → ((n : ℕ) → P n → Q n) → NeverOr P o → NeverOr Q o
never_or_more P Q None up h = tt
never_or_more P Q (Some n) up h = up n h

-- the sooner of two
pub never_or_sooner : (P Q : ℕ → Type 0) (m n : Option ℕ) → NeverOr P m → NeverOr Q n → NeverOr (λ k. P k ⊎ Q k) (sooner m n)
never_or_sooner P Q None None h k = tt
never_or_sooner P Q None (Some n) h k = inr k
never_or_sooner P Q (Some m) None h k = inl h
never_or_sooner P Q (Some m) (Some n) h k =
    ⊎_elim
    (λ l. let e : m ≡ min m n = omega arith in inl (subst P e h))
    (λ l. let e : n ≡ min m n = omega arith in inr (subst Q e k))
    (cases_lt m n)

-- seen from k ticks before
pub never_or_earlier : (P : ℕ → Type 0) (t k : ℕ) (o : Option ℕ) → Later (t + k) o → NeverOr P o → NeverOr (λ n. P (n + k)) (earlier o k)
never_or_earlier P t k None l h = tt
never_or_earlier P t k (Some n) l h = let e : n ≡ n - k + k = omega arith in subst P e h

module _ {V : Type 0} where
  next_starts : (ps : List (Piece V)) (t : ℕ) → NeverOr (Starts ps) (next_from ps t)
  next_starts [] t = tt
  next_starts (p ∷ ps) t = both (leb p.start t) (never_or_more (Starts ps) (Starts (p ∷ ps)) (next_from ps t) (λ n h. inr h) (next_starts ps t))
    where
      both : (b : Bool) → NeverOr (Starts (p ∷ ps)) (next_from ps t) → NeverOr (Starts (p ∷ ps)) (cond b (next_from ps t) (Some p.start))
      both true h = h
      both false h = inl refl

  -- the tick that a look-up finds is a start
  pub found_starts : (ps : List (Piece V)) (t : ℕ) (v : V) (o : Option ℕ) → Found ps t v o → NeverOr (Starts ps) o
  found_starts [] t v o h = absurd h
  found_starts (p ∷ ps) t v o h = subst (NeverOr (Starts (p ∷ ps))) (sym h.1) (never_or_more (Starts ps) (Starts (p ∷ ps)) (next_from ps t) (λ n k. inr k) (next_starts ps t))

  -- the sooner of a start of each
  pub either_starts : (ps qs : List (Piece V)) (m n o : Option ℕ) → o ≡ sooner m n → NeverOr (Starts ps) m → NeverOr (Starts qs) n → NeverOr (EitherStarts ps qs) o
  either_starts ps qs m n o e h k = subst (NeverOr (EitherStarts ps qs)) (sym e) (never_or_sooner (Starts ps) (Starts qs) m n h k)

-- the sooner of the two ends of a window
pub at_ends : (P : ℕ → Type 0) (t a b : ℕ) (leaves next o : Option ℕ) → o ≡ sooner (earlier leaves a) (earlier next b) → Later (t + a) leaves → Later (t + b) next → NeverOr P leaves → NeverOr P next → NeverOr (AtEnds P a b) o
at_ends P t a b leaves next o e la lb pa pb =
    subst (NeverOr (AtEnds P a b)) (sym e)
    (never_or_sooner (λ n. P (n + a)) (λ n. P (n + b)) (earlier leaves a) (earlier next b) (never_or_earlier P t a leaves la pa) (never_or_earlier P t b next lb pb))

module _ {V : Type 0} (x : Readings) (lists : ℕ → List (Piece V)) (row : Row) (t : ℕ) (o : Option ℕ) where
  abbrev RowNames : Row → Type 0
  RowNames r = RowCandidate x lists r t o

  pub test_named : (l : ℕ) (s : Side) (m : ℤ) (q : Reading) → row ≡ Test l s m → Steady (x l) t q o → Changed (x l) q o → RowNames row
  test_named l s m q e st ch = subst RowNames (sym e) (self_steady (x l) t q o st, subst (λ z. Changed (x l) z o) (st.1 t (omega arith) (before_self t o st.0)) ch)

  of_one : (F : List (Piece V) → Type 0) (r : Row) (c : ℕ) (ps : List (Piece V)) → row ≡ r → ps ≡ lists c → (F (lists c) → RowNames r) → F ps → RowNames row
  of_one F r c ps e p up h = subst RowNames (sym e) (up (subst F p h))

  of_two : (F : List (Piece V) → List (Piece V) → Type 0) (q : Row) (l r : ℕ) (ps qs : List (Piece V)) → row ≡ q → ps ≡ lists l → qs ≡ lists r → (F (lists l) (lists r) → RowNames q) → F ps qs → RowNames row
  of_two F q l r ps qs e pl pr up h = subst RowNames (sym e) (up (subst (F (lists l)) pr (subst (λ ps. F ps qs) pl h)))

  pub not_named : (c : ℕ) (ps : List (Piece V)) → row ≡ Not c → ps ≡ lists c → NeverOr (Starts ps) o → RowNames row
  not_named c ps e p h = of_one (λ ps. NeverOr (Starts ps) o) (Not c) c ps e p (λ k. k) h

  pub and_named : (l r : ℕ) (ps qs : List (Piece V)) → row ≡ And l r → ps ≡ lists l → qs ≡ lists r → NeverOr (EitherStarts ps qs) o → RowNames row
  and_named l r ps qs e p q h = of_two (λ ps qs. NeverOr (EitherStarts ps qs) o) (And l r) l r ps qs e p q (λ k. k) h

  pub or_named : (l r : ℕ) (ps qs : List (Piece V)) → row ≡ Or l r → ps ≡ lists l → qs ≡ lists r → NeverOr (EitherStarts ps qs) o → RowNames row
  or_named l r ps qs e p q h = of_two (λ ps qs. NeverOr (EitherStarts ps qs) o) (Or l r) l r ps qs e p q (λ k. k) h

  pub eventually_named : (a b c : ℕ) (ps : List (Piece V)) → row ≡ Eventually a b c → ps ≡ lists c → NeverOr (AtEnds (Starts ps) a b) o → RowNames row
  eventually_named a b c ps e p h = of_one (λ ps. NeverOr (AtEnds (Starts ps) a b) o) (Eventually a b c) c ps e p (λ k. k) h

  pub always_named : (a b c : ℕ) (ps : List (Piece V)) → row ≡ Always a b c → ps ≡ lists c → NeverOr (AtEnds (Starts ps) a b) o → RowNames row
  always_named a b c ps e p h = of_one (λ ps. NeverOr (AtEnds (Starts ps) a b) o) (Always a b c) c ps e p (λ k. k) h

  pub until_named : (a b l r : ℕ) (ps qs : List (Piece V)) → row ≡ Until a b l r → ps ≡ lists l → qs ≡ lists r → NeverOr (UntilCandidate ps qs a b) o → RowNames row
  until_named a b l r ps qs e p q h = of_two (λ ps qs. NeverOr (UntilCandidate ps qs a b) o) (Until a b l r) l r ps qs e p q (λ k. k) h
