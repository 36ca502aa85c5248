-- What the want lists that are written say is where the rows are wanted.
use Rattle.std.proofs.Common.{◌≡◌, ℕ, pred, ◌+◌, ◌-◌, ◌<◌, ◌≤◌, Bool, true, false, not, ◌&&◌, eqb, List, length, sym, ap, ◌∙◌, subst, arith, eq-eqb, eqb-true}
use native.Mathlib.Nat.{sub-zero}
use Rattle.grades.specs.Kinds.{Kind, Tells}
use Rattle.grades.specs.Ranges.{Span, Settled}
use Rattle.grades.specs.declared.range.Range.{Range}
use Rattle.pieces.specs.declared.piece.Piece.{Piece}
use Rattle.rules.specs.declared.row.Row.{Row}
use Rattle.rules.specs.Rows.{row_at, root, Child, Sound, reach}
use Rattle.meaning.specs.Readings.{Readings}
use Rattle.meaning.specs.Values.{value}
use Rattle.meaning.specs.Verdicts.{ranges}
use Rattle.meaning.specs.Wants.{Lowest, Wanted}
use Rattle.meaning.proofs.Wanting.{root_wanted}
use Rattle.meaning.proofs.Bounded.{wanted_near}
use Rattle.runs.specs.Calls.{TellsWanted}
use Rattle.judge.specs.declared.trial.Trial.{Trial}
use Rattle.judge.specs.declared.trial.Trial.TheVariants.{Loose, Lowest as OnlyLowest, Higher}
use Rattle.judge.specs.Trials.{dec_says, tried, asked}
use Rattle.judge.specs.Children.{row_says, passed_on, Askable}
use Rattle.judge.specs.Markings.{only_at, RangesStand}
use Rattle.judge.proofs.Anys.{tells_yes, tells_from}
use Rattle.judge.proofs.Standing.{row_stands, row_told}
use Rattle.judge.proofs.RowReaches.{far_near}
use Rattle.judge.proofs.Wanting.{child_tells}

told_is : {P : Type 0} (d : Dec P) → Tells (dec_says d) P
told_is (yes p) = p
told_is (no n) = n

told_not : {P : Type 0} (d : Dec P) → Tells (not (dec_says d)) (¬ P)
told_not (yes p) = λ n. n p
told_not (no n) = n

both_tell : (P Q : Type 0) (a b : Bool) → Tells a P → Tells b Q → Tells (a && b) (P × Q)
both_tell P Q true true p q = (p, q)
both_tell P Q true false p q = λ h. q h.1
both_tell P Q false true p q = λ h. p h.0
both_tell P Q false false p q = λ h. p h.0

module _ (K : Kind) {G : Type 0} (val : G → K.Value) (rows : List Row) (sound : Sound rows) (x : Readings) (tick : ℕ) where
  abbrev v : ℕ → ℕ → Span K.Value
  v = value (ranges K) rows x

  pub asked_tells : (i : ℕ) → i ≡ 0 → TellsWanted K rows x tick (root rows - i) (only_at tick)
  asked_tells i e u =
      let z : root rows - i ≡ root rows = ap (λ n. root rows - n) e ∙ sub-zero (root rows) in
      let iff = root_wanted K sound v tick u in
      subst (λ k. Tells (only_at tick u) (Wanted K rows v tick k u)) (sym z)
      (tells_from (Wanted K rows v tick (root rows) u) (eqb u tick) (λ h. iff.1 (eqb-true u tick h)) (λ w. eq-eqb u tick (iff.0 w)))

  module _ (begins : List ℕ) (cells : List (Piece (Range G))) (R : RangesStand K rows x val begins cells) where
    -- a trial of a row's list is one of its value
    tried_is : (P : Span K.Value → Type 0) (trial : Trial) → ((p : Span K.Value) → Tells (tried K trial p) (P p)) → (c : ℕ) → c < length rows → (t : ℕ) → Tells (row_says K val begins cells trial c t) (P (v c t))
    tried_is P trial h c lt t = subst (λ p. Tells (tried K trial p) (P (v c t))) (sym (row_told K val rows x begins cells R c lt t)) (h (v c t))

    -- wanted and not settled
    pub asks_tell : (want : ℕ → Bool) (k : ℕ) → k < length rows → TellsWanted K rows x tick k want → (t : ℕ) → Tells (asked want (row_says K val begins cells Loose k) t) (Wanted K rows v tick k t × ¬ (Settled K (v k t)))
    asks_tell want k lt h t =
        both_tell (Wanted K rows v tick k t) (¬ (Settled K (v k t))) (want t) (row_says K val begins cells Loose k t) (h t)
        (tried_is (λ p. ¬ (Settled K p)) Loose (λ p. told_not (K.same p.low p.high)) k lt t)

    pub asks_near : (limit : ℕ) → limit ≡ tick + reach rows + 1 → (want : ℕ → Bool) (k : ℕ) → k < length rows → TellsWanted K rows x tick k want → (t : ℕ) → asked want (row_says K val begins cells Loose k) t ≡ true → t < limit
    asks_near limit is want k lt h t e =
        let w = tells_yes (Wanted K rows v tick k t × ¬ (Settled K (v k t))) (asked want (row_says K val begins cells Loose k) t) (asks_tell want k lt h t) e in
        omega (arith, wanted_near K v sound tick k t w.0)

    module _ (limit : ℕ) (is : limit ≡ tick + reach rows + 1) (k : ℕ) (lt : k < length rows) (row : Row) (at : row ≡ row_at rows k) where
      pub askable : tick ≤ 500000000 → Askable row k limit begins cells
      askable early =
          subst (λ r. Askable r k limit begins cells) (sym at) record {
            ready = record { fits = sound.fits k lt; children = λ c child. let e = sound.earlier k c lt child in row_stands K val rows x begins cells R c (omega arith) };
            own = row_stands K val rows x begins cells R k lt;
            near = omega (arith, far_near rows sound k lt, sound.near);
          }

      pub child_right : (c : ℕ) → Child (row_at rows k) c → (want : ℕ → Bool) → TellsWanted K rows x tick k want → TellsWanted K rows x tick c (passed_on K val begins cells row k c limit want)
      child_right c child want h =
          subst (λ r. TellsWanted K rows x tick c (passed_on K val begins cells r k c limit want)) (sym at)
          (child_tells K rows sound v tick k c limit (asked want (row_says K val begins cells Loose k)) (row_says K val begins cells OnlyLowest) (row_says K val begins cells Higher) lt child
          (asks_tell want k lt h) (asks_near limit is want k lt h)
          (λ j t ch. let e = sound.earlier k j lt ch in tried_is (Lowest K) OnlyLowest (λ p. told_is (K.same p.high K.lowest)) j (omega arith) t)
          (λ j t ch. let e = sound.earlier k j lt ch in tried_is (λ p. ¬ (Lowest K p)) Higher (λ p. told_not (K.same p.high K.lowest)) j (omega arith) t))

  -- the row that has i rows behind it is the child c of the row k
  pub number_back : (i k : ℕ) → k < length rows → i ≡ root rows - k → root rows - i ≡ k
  number_back i k lt e = let r : pred (length rows) ≡ length rows - 1 = omega arith in omega arith
