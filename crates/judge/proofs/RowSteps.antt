-- A row's step, from the step of its kind over its children's lists.
use Rattle.std.proofs.Common.{◌≡◌, ℕ, ◌+◌, ◌-◌, List, ℤ, Option, sym, ap, ◌∙◌, subst}
use Rattle.grades.specs.Kinds.{Kind}
use Rattle.grades.specs.Ranges.{Span, spans}
use Rattle.grades.specs.declared.range.Range.{Range}
use Rattle.pieces.specs.declared.piece.Piece.{Piece}
use Rattle.pieces.specs.Ticks.{Steady}
use Rattle.rules.specs.declared.row.Side.{Side}
use Rattle.rules.specs.declared.row.Row.{Row}
use Rattle.rules.specs.declared.row.Row.TheVariants.{Test, Not, And, Or, Eventually, Always, Until}
use Rattle.rules.specs.Rows.{Child}
use Rattle.meaning.specs.declared.reading.Reading.{Reading}
use Rattle.meaning.specs.Readings.{Readings}
use Rattle.meaning.specs.Values.{step, over}
use Rattle.meaning.specs.Limits.{range_of}
use Rattle.meaning.specs.Verdicts.{ranges}
use Rattle.judge.specs.Signals.{heard, goal}
use Rattle.judge.specs.Places.{list_at, list_says, ListStands, RowReady}

pub stands : {V : Type 0} (row r : Row) (begins : List ℕ) (done : List (Piece V)) → RowReady row begins done → row ≡ r → (c : ℕ) → Child r c → ListStands begins done c
stands row r begins done h e c k = h.children c (subst (λ q. Child q c) (sym e) k)

module _ (K : Kind) {G : Type 0} (value : G → K.Value) (x : Readings) (begins : List ℕ) (done : List (Piece (Range G))) (row : Row) (t : ℕ) (v : Span K.Value) (o : Option ℕ) where
  abbrev at : ℕ → List (Piece (Range G))
  at c = list_at begins done c

  abbrev Stepped : Row → Type 0
  Stepped r = Steady (step (ranges K) x (list_says K value begins done) r) t v o

  pub test_row : (l : ℕ) (s : Side) (m : ℤ) (q : Reading) → row ≡ Test l s m → v ≡ range_of K s m q → Steady (x l) t q o → Stepped row
  unfolding step
  test_row l s m q e is st = subst Stepped (sym e) (st.0, λ u a b. is ∙ ap (range_of K s m) (st.1 u a b))

  pub not_row : (c : ℕ) (ps : List (Piece (Range G))) → row ≡ Not c → ps ≡ at c → Steady (λ u. (spans K).opposite (heard K value ps u)) t v o → Stepped row
  unfolding step
  not_row c ps e p st = subst Stepped (sym e) (subst (λ ps. Steady (λ u. (spans K).opposite (heard K value ps u)) t v o) p st)

  -- of two children
  both : (P : List (Piece (Range G)) → List (Piece (Range G)) → Type 0) (l r : ℕ) (ps qs : List (Piece (Range G))) → ps ≡ at l → qs ≡ at r → P ps qs → P (at l) (at r)
  both P l r ps qs p q h = subst (P (at l)) q (subst (λ ps. P ps qs) p h)

  pub and_row : (l r : ℕ) (ps qs : List (Piece (Range G))) → row ≡ And l r → ps ≡ at l → qs ≡ at r → Steady (λ u. (spans K).meet (heard K value ps u) (heard K value qs u)) t v o → Stepped row
  unfolding step
  and_row l r ps qs e p q st = subst Stepped (sym e) (both (λ ps qs. Steady (λ u. (spans K).meet (heard K value ps u) (heard K value qs u)) t v o) l r ps qs p q st)

  pub or_row : (l r : ℕ) (ps qs : List (Piece (Range G))) → row ≡ Or l r → ps ≡ at l → qs ≡ at r → Steady (λ u. (spans K).join (heard K value ps u) (heard K value qs u)) t v o → Stepped row
  unfolding step
  or_row l r ps qs e p q st = subst Stepped (sym e) (both (λ ps qs. Steady (λ u. (spans K).join (heard K value ps u) (heard K value qs u)) t v o) l r ps qs p q st)

  pub eventually_row : (a b c : ℕ) (ps : List (Piece (Range G))) → row ≡ Eventually a b c → ps ≡ at c → Steady (λ u. over (spans K).join (heard K value ps) (u + a) (b - a)) t v o → Stepped row
  unfolding step
  eventually_row a b c ps e p st = subst Stepped (sym e) (subst (λ ps. Steady (λ u. over (spans K).join (heard K value ps) (u + a) (b - a)) t v o) p st)

  pub always_row : (a b c : ℕ) (ps : List (Piece (Range G))) → row ≡ Always a b c → ps ≡ at c → Steady (λ u. over (spans K).meet (heard K value ps) (u + a) (b - a)) t v o → Stepped row
  unfolding step
  always_row a b c ps e p st = subst Stepped (sym e) (subst (λ ps. Steady (λ u. over (spans K).meet (heard K value ps) (u + a) (b - a)) t v o) p st)

  pub until_row : (a b l r : ℕ) (ps qs : List (Piece (Range G))) → row ≡ Until a b l r → ps ≡ at l → qs ≡ at r → Steady (λ u. over (spans K).join (goal K value ps qs u) (u + a) (b - a)) t v o → Stepped row
  unfolding step
  until_row a b l r ps qs e p q st = subst Stepped (sym e) (both (λ ps qs. Steady (λ u. over (spans K).join (goal K value ps qs u) (u + a) (b - a)) t v o) l r ps qs p q st)
