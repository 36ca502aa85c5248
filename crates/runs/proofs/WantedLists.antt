-- Where each row of a rule is wanted has its list, and all of them are one list of lists.
use Rattle.std.proofs.Common.{◌≡◌, ℕ, suc, ◌+◌, ◌-◌, ◌<◌, ◌≤◌, Bool, true, false, List, [], ◌∷◌, length, get_or, sym, refl, ◌∙◌, subst, sub-one, arith}
use Rattle.grades.specs.Kinds.{Kind, Lawful, Tells}
use Rattle.rules.specs.declared.row.Row.{Row}
use Rattle.rules.specs.Rows.{root, reach, Sound}
use Rattle.pieces.specs.declared.piece.Piece.{Piece}
use Rattle.pieces.specs.Pieces.{Lists}
use Rattle.pieces.proofs.Chains.{only_one}
use Rattle.pieces.proofs.Exists.{listed}
use Rattle.meaning.specs.Readings.{Readings}
use Rattle.meaning.specs.Values.{value}
use Rattle.meaning.specs.Verdicts.{ranges}
use Rattle.meaning.specs.Wants.{Wanted}
use Rattle.meaning.proofs.Decided.{wanted?}
use Rattle.meaning.proofs.Bounded.{wanted_near}
use Rattle.runs.specs.Calls.{WantLists}
use Rattle.runs.proofs.Collecting.{collect, same_lists}

-- two that tell the same are the same
pub told_same : (P : Type 0) (b c : Bool) → Tells b P → Tells c P → b ≡ c
told_same P true true h k = refl
told_same P true false h k = absurd (k h)
told_same P false true h k = absurd (h k)
told_same P false false h k = refl

module _ {K : Kind} (L : Lawful K) (rows : List Row) (sound : Sound rows) (x : Readings) where
  -- at which ticks a row is wanted
  pub wanted_at : (t k u : ℕ) → (b : Bool) × Tells b (Wanted K rows (value (ranges K) rows x) t k u)
  wanted_at t k u = elim (wanted? L (value (ranges K) rows x) sound t k u) [ yes h ↦ (true, h) | no h ↦ (false, h) ]

  not_wanted : (t k u : ℕ) → suc (t + reach rows) ≤ u → (wanted_at t k u).0 ≡ false
  not_wanted t k u h = by (wanted_at t k u)
    where
      by : (w : (b : Bool) × Tells b (Wanted K rows (value (ranges K) rows x) t k u)) → w.0 ≡ false
      by (true, w) = absurd (omega (arith, wanted_near K (value (ranges K) rows x) sound t k u w))
      by (false, w) = refl

  bool? : (p q : Bool) → Dec (p ≡ q)
  bool? true true = yes refl
  bool? true false = no (λ h. let z : ◌≡◌ {A = ℕ} 0 1 = cc in omega arith)
  bool? false true = no (λ h. let z : ◌≡◌ {A = ℕ} 0 1 = cc in omega arith)
  bool? false false = yes refl

  want_list : (t k : ℕ) → (ps : List (Piece Bool)) × Lists (λ u. (wanted_at t k u).0) ps
  want_list t k = listed bool? (λ u. (wanted_at t k u).0) (suc (t + reach rows)) (λ u h. not_wanted t k u h ∙ sym (not_wanted t k (suc (t + reach rows)) (omega arith)))

  -- where the row is wanted that has i rows behind it
  abbrev pub wants_by : ℕ → ℕ → ℕ → Bool
  wants_by t i u = (wanted_at t (root rows - i) u).0

  pub wants_by_tell : (t i u : ℕ) → Tells (wants_by t i u) (Wanted K rows (value (ranges K) rows x) t (root rows - i) u)
  wants_by_tell t i u = (wanted_at t (root rows - i) u).1

  pub wants_listed : (t : ℕ) → (pss : List (List (Piece Bool))) × ((length pss ≡ length rows) × ((i : ℕ) → i < length rows → Lists (wants_by t i) (get_or pss i [])))
  wants_listed t =
      let c = collect (λ i ps. Lists (wants_by t i) ps) 0 (length rows) (λ i b lt. want_list t (root rows - i)) in
      (c.0, (c.1.0, λ i lt. let z : 0 + i ≡ i = omega arith in subst (λ (j : ℕ). Lists (wants_by t j) (get_or c.0 i [])) z (c.1.1 i lt)))

  pub listed_wants : (t : ℕ) (pss : List (List (Piece Bool))) → length pss ≡ length rows → ((i : ℕ) → i < length rows → Lists (wants_by t i) (get_or pss i [])) → WantLists K rows x t pss
  listed_wants t pss many each = record {
    many = many;
    each = λ k lt.
        let z : root rows - (root rows - k) ≡ k = omega (arith, root_is) in
        let i : root rows - k < length rows = omega (arith, root_is) in
        ((λ u. (wanted_at t k u).0), ((λ u. (wanted_at t k u).1), subst (λ (j : ℕ). Lists (λ u. (wanted_at t j u).0) (get_or pss (root rows - k) [])) z (each (root rows - k) i)));
  }
    where
      root_is : root rows + 1 ≡ length rows
      root_is = omega (arith, sub-one (length rows), sound.some_row)

  pub want_lists : (t : ℕ) → (pss : List (List (Piece Bool))) × WantLists K rows x t pss
  want_lists t = let c = wants_listed t in (c.0, listed_wants t c.0 c.1.0 c.1.1)

module _ (K : Kind) (rows : List Row) (x : Readings) where
  as_function : (f g : ℕ → Bool) (ps : List (Piece Bool)) → ((u : ℕ) → f u ≡ g u) → Lists f ps → Lists g ps
  as_function f g [] e h = absurd h.0
  as_function f g (p ∷ ps) e h = (h.0, λ u. h.1 u ∙ e u)

  pub one_want_lists : (t : ℕ) (pss qss : List (List (Piece Bool))) → WantLists K rows x t pss → WantLists K rows x t qss → pss ≡ qss
  one_want_lists t pss qss h k =
      same_lists pss qss (h.many ∙ sym k.many) (λ j lt.
      let i : ℕ = root rows - j in
      let li : i < length rows = omega (arith, sub-one (length rows), h.many) in
      let back : root rows - i ≡ j = omega (arith, sub-one (length rows), h.many) in
      let one = h.each i li in
      let two = k.each i li in
      let same = only_one Bool two.0 (get_or pss (root rows - i) []) (get_or qss (root rows - i) []) (as_function one.0 two.0 (get_or pss (root rows - i) []) (λ u. told_same (Wanted K rows (value (ranges K) rows x) t i u) (one.0 u) (two.0 u) (one.1.0 u) (two.1.0 u)) one.1.1) two.1.1 in
      subst (λ (m : ℕ). get_or pss m [] ≡ get_or qss m []) back same)
