-- Where a child is wanted, from lists that are looked up.
use Rattle.std.proofs.Common.{◌≡◌, ℕ, Bool, true, false, cond, ◌&&◌, ◌⊎◌, eqb, leb, List, [], ◌∷◌, Option, sym, ap, ◌∙◌, subst, ⊎_elim, arith, le-leb}
use borrow.Author.Tests.{clash}
use Rattle.grades.specs.Kinds.{Kind}
use Rattle.grades.specs.Ranges.{spans}
use Rattle.grades.specs.Worth.{worth}
use Rattle.grades.specs.declared.range.Range.{Range}
use Rattle.rules.specs.declared.row.Row.{Row}
use Rattle.rules.specs.declared.row.Row.TheVariants.{Not, And, Or, Eventually, Always, Until}
use Rattle.pieces.specs.declared.piece.Piece.{Piece}
use Rattle.pieces.specs.Pieces.{at_from, at_list, ordered}
use Rattle.pieces.specs.Ticks.{Steady}
use Rattle.pieces.specs.Cells.{shown}
use Rattle.pieces.proofs.Orders.{first}
use Rattle.pieces.proofs.Shows.{at_shown}
use Rattle.judge.specs.declared.trial.Trial.{Trial}
use Rattle.judge.specs.declared.trial.Trial.TheVariants.{Loose, Lowest, Higher}
use Rattle.judge.specs.Yes.{any}
use Rattle.judge.specs.Reaches.{sees, held_over}
use Rattle.judge.specs.Signals.{heard}
use Rattle.judge.specs.Places.{list_at}
use Rattle.judge.specs.Trials.{tried, range_says, asked}
use Rattle.judge.specs.Children.{never, child_says, said, row_says, asks_at, passed_on}

-- an ordered list says the same whatever is in force before it
list_said : {C : Type 0} (d : C) (ps : List (Piece C)) (ok : ordered ps ≡ true) (t : ℕ) → at_list ps ok t ≡ at_from d ps t
list_said d [] ok t = absurd (clash ok)
list_said d (p ∷ ps) ok t =
    let z : p.start ≡ 0 = (first (p ∷ ps) ok).1 p in
    let e : leb p.start t ≡ true = le-leb p.start t (omega arith) in
    sym (ap (λ (b : Bool). cond b (at_from p.value ps t) d) e)

module _ (K : Kind) {G : Type 0} (value : G → K.Value) where
  list_heard : (ps : List (Piece (Range G))) (ok : ordered ps ≡ true) (t : ℕ) → worth K value (at_list ps ok t) ≡ heard K value ps t
  list_heard [] ok t = absurd (clash ok)
  list_heard (p ∷ ps) ok t =
      let W = worth K value in
      let z : p.start ≡ 0 = (first (p ∷ ps) ok).1 p in
      let e : leb p.start t ≡ true = le-leb p.start t (omega arith) in
      sym (at_shown W p.value ps t) ∙ sym (ap (λ (b : Bool). cond b (at_from (W p.value) (shown W ps) t) (spans K).lowest) e)

  module _ (begins : List ℕ) (ranges : List (Piece (Range G))) where
    -- a trial of a row's list
    pub trial_said : (trial : Trial) (k : ℕ) (ps : List (Piece (Range G))) (ok : ordered ps ≡ true) → ps ≡ list_at begins ranges k → range_says K value trial ps ok ≡ row_says K value begins ranges trial k
    trial_said trial k ps ok e =
        let at : (t : ℕ) → range_says K value trial ps ok t ≡ row_says K value begins ranges trial k t =
        λ t. ap (tried K trial) (list_heard ps ok t ∙ ap (λ qs. heard K value qs t) e) in
        λ i t. at t i

    -- wanted and not settled
    pub asks_said : (want : List (Piece Bool)) (okw : ordered want ≡ true) (k : ℕ) (ps : List (Piece (Range G))) (ok : ordered ps ≡ true) → ps ≡ list_at begins ranges k →
        asked (at_list want okw) (range_says K value Loose ps ok) ≡ asked (said want) (row_says K value begins ranges Loose k)
    asks_said want okw k ps ok e =
        let one : (t : ℕ) → at_list want okw t ≡ said want t = λ t. list_said false want okw t in
        let two = trial_said Loose k ps ok e in
        λ i t. one t i && two i t

    -- the same, where the row's want list is one of those in the cells
    pub asks_read : (starts : List ℕ) (wants : List (Piece Bool)) (i : ℕ) (want : List (Piece Bool)) (okw : ordered want ≡ true) → want ≡ list_at starts wants i → (k : ℕ) (ps : List (Piece (Range G))) (ok : ordered ps ≡ true) → ps ≡ list_at begins ranges k →
        asked (at_list want okw) (range_says K value Loose ps ok) ≡ asks_at K value begins ranges starts wants k i
    asks_read starts wants i want okw w k ps ok e = asks_said want okw k ps ok e ∙ ap (λ qs. asked (said qs) (row_says K value begins ranges Loose k)) w

    module _ (row r : Row) (is : row ≡ r) (k c limit t : ℕ) (want : List (Piece Bool)) (asks : ℕ → Bool) (alike : asks ≡ asked (said want) (row_says K value begins ranges Loose k)) (v : Bool) (o : Option ℕ) where
      pub passed : Steady (child_says r c asks (row_says K value begins ranges Lowest) (row_says K value begins ranges Higher) limit) t v o → Steady (passed_on K value begins ranges row k c limit (said want)) t v o
      passed st =
          subst (λ q. Steady (passed_on K value begins ranges q k c limit (said want)) t v o) (sym is)
          (subst (λ (f : ℕ → Bool). Steady (child_says r c f (row_says K value begins ranges Lowest) (row_says K value begins ranges Higher) limit) t v o) alike st)

    module _ (row : Row) (k c limit t : ℕ) (want : List (Piece Bool)) (asks : ℕ → Bool) (alike : asks ≡ asked (said want) (row_says K value begins ranges Loose k)) (v : Bool) (o : Option ℕ) where
      -- a connective asks for its child at its own tick
      pub passed_here : ((d : ℕ) × (row ≡ Not d)) ⊎ (((l : ℕ) × (r : ℕ) × (row ≡ And l r)) ⊎ ((l : ℕ) × (r : ℕ) × (row ≡ Or l r))) → Steady (λ u. any (λ s. sees asks never 0 0 s u) limit) t v o → Steady (passed_on K value begins ranges row k c limit (said want)) t v o
      passed_here is st =
          ⊎_elim (λ h. passed row (Not h.0) h.1 k c limit t want asks alike v o st)
          (⊎_elim (λ h. passed row (And h.0 h.1) h.2 k c limit t want asks alike v o st) (λ h. passed row (Or h.0 h.1) h.2 k c limit t want asks alike v o st))
          is

      -- F and G ask for theirs over the window
      pub passed_window : (a b : ℕ) → ((d : ℕ) × (row ≡ Eventually a b d)) ⊎ ((d : ℕ) × (row ≡ Always a b d)) → Steady (λ u. any (λ s. sees asks never a b s u) limit) t v o → Steady (passed_on K value begins ranges row k c limit (said want)) t v o
      passed_window a b is st =
          ⊎_elim (λ h. passed row (Eventually a b h.0) h.1 k c limit t want asks alike v o st) (λ h. passed row (Always a b h.0) h.1 k c limit t want asks alike v o st) is

    module _ (row : Row) (a b l r : ℕ) (is : row ≡ Until a b l r) (k c limit t : ℕ) (want : List (Piece Bool)) (asks : ℕ → Bool) (alike : asks ≡ asked (said want) (row_says K value begins ranges Loose k)) (dead : ℕ → Bool) (low : dead ≡ row_says K value begins ranges Lowest l) (v : Bool) (o : Option ℕ) where
      abbrev Right : (ℕ → Bool) → ℕ → Bool
      Right d u = any (λ s. sees asks d a b s u) limit

      abbrev Left : (ℕ → Bool) → (ℕ → Bool) → ℕ → Bool
      Left d n u = any (λ s. held_over asks d n a b s u) limit

      abbrev Chosen : Bool → ℕ → Bool
      Chosen e u = cond e (Right (row_says K value begins ranges Lowest l) u) (Left (row_says K value begins ranges Lowest l) (row_says K value begins ranges Higher r) u)

      pub passed_right : eqb c r ≡ true → Steady (Right dead) t v o → Steady (passed_on K value begins ranges row k c limit (said want)) t v o
      passed_right e st =
          passed row (Until a b l r) is k c limit t want asks alike v o
          (subst (λ (e : Bool). Steady (Chosen e) t v o) (sym e) (subst (λ (d : ℕ → Bool). Steady (Right d) t v o) low st))

      pub passed_left : eqb c r ≡ false → (need : ℕ → Bool) → need ≡ row_says K value begins ranges Higher r → Steady (Left dead need) t v o → Steady (passed_on K value begins ranges row k c limit (said want)) t v o
      passed_left e need high st =
          passed row (Until a b l r) is k c limit t want asks alike v o
          (subst (λ (e : Bool). Steady (Chosen e) t v o) (sym e)
          (subst (λ (n : ℕ → Bool). Steady (Left (row_says K value begins ranges Lowest l) n) t v o) high (subst (λ (d : ℕ → Bool). Steady (Left d need) t v o) low st)))
