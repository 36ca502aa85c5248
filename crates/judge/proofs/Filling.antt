-- The table's loop: the lists of the first rows stand in the cells, and the next row's list comes behind them or does not fit.
use Rattle.std.proofs.Common.{◌≡◌, ℕ, ◌+◌, ◌-◌, ◌<◌, ◌≤◌, List, length, get_or, take, drop, set, Option, sym, refl, ap, ◌∙◌, subst, ap₂, sub-one, arith}
use mathlib.Core.Path.{fun_ext}
use Rattle.grades.specs.Kinds.{Kind, Lawful}
use Rattle.grades.specs.Ranges.{Span, spans}
use Rattle.grades.specs.Worth.{worth}
use Rattle.grades.specs.declared.range.Range.{Range}
use Rattle.pieces.specs.declared.piece.Piece.{Piece}
use Rattle.pieces.specs.Cells.{shown, CellsWhole, CellsShort}
use Rattle.pieces.specs.Ticks.{Settles, Steady}
use Rattle.pieces.proofs.Steadies.{before_self}
use Rattle.rules.specs.declared.row.Row.{Row}
use Rattle.rules.specs.Rows.{row_at, Sound}
use Rattle.meaning.specs.Readings.{Readings}
use Rattle.meaning.specs.Values.{step, value}
use Rattle.meaning.specs.Limits.{range_of}
use Rattle.meaning.specs.Verdicts.{ranges, verdict}
use Rattle.meaning.proofs.Rows.{value_is}
use Rattle.meaning.proofs.Related.{Keeps, step_related}
use Rattle.runs.specs.Calls.{all}
use Rattle.judge.specs.Signals.{heard}
use Rattle.judge.specs.Places.{list_at, list_says, ListStands, RowReady}
use Rattle.judge.specs.Cells.{Complete, RowsRunOut}
use Rattle.judge.specs.Judges.{BeginAt}
use Rattle.judge.specs.Markings.{RangesStand}
use Rattle.judge.proofs.Stacks.{below_lies, below_heard}
use Rattle.judge.proofs.Standing.{row_stands, row_told}
use Rattle.judge.proofs.Fills as fills
use Rattle.judge.proofs.RowLists.{row_lists}

same_kept : (K : Kind) → Keeps (ranges K) (ranges K) (λ p q. p ≡ q) (λ p q. p ≡ q)
same_kept K = record {
  test = λ s m p q f e. ap (range_of K s m) e;
  opposite = λ p q e. ap (spans K).opposite e;
  meet = λ p p' q q' e f. ap₂ (spans K).meet e f;
  join = λ p p' q q' e f. ap₂ (spans K).join e f;
}

module _ (K : Kind) {G : Type 0} (val : G → K.Value) (rows : List Row) (x : Readings) where
  abbrev pub values_of : ℕ → ℕ → Span K.Value
  values_of = value (ranges K) rows x

  -- the lists of the first k rows stand in the cells, which are behind them as they were at first
  abbrev pub Filled : List (Piece (Range G)) → ℕ → List ℕ → List (Piece (Range G)) → ℕ → Type 0
  Filled = fills.Filled (worth K val) values_of

  pub filled_none : (cells : List (Piece (Range G))) (begins : List ℕ) → length begins ≡ 65 → get_or begins 0 0 ≡ 0 → Filled cells 0 begins cells 0
  filled_none = fills.filled_none (worth K val) values_of

  module _ (first : List (Piece (Range G))) (k : ℕ) (begins : List ℕ) (cells : List (Piece (Range G))) (used : ℕ) (F : Filled first k begins cells used) where
    -- a row behind the first ones
    module _ (sound : Sound rows) (more : k < length rows) (row : Row) (at : row ≡ row_at rows k) where
      pub filled_ready : RowReady row begins (take used cells)
      filled_ready =
          subst (λ r. RowReady r begins (take used cells)) (sym at) record {
            fits = sound.fits k more;
            children = λ c child.
                let lt = sound.earlier k c more child in
                record { known = omega (arith, F.room, sound.few); lies = below_lies (worth K val) values_of F.lists begins cells used F.stacked c (omega (arith, F.many)) };
          }

      row_is : step (ranges K) x (list_says K val begins (take used cells)) row ≡ values_of k
      row_is =
          fun_ext (λ t.
          ap (λ r. step (ranges K) x (list_says K val begins (take used cells)) r t) at
          ∙ step_related (same_kept K) x x (λ l u. refl) (list_says K val begins (take used cells)) values_of (row_at rows k) (sound.fits k more)
          (λ c child u. let lt = sound.earlier k c more child in below_heard (worth K val) values_of F.lists begins cells used F.stacked (spans K).lowest c (omega (arith, F.many)) u) t
          ∙ sym (value_is (ranges K) x {rows = rows} sound k more t))

      -- its list fits
      pub filled_more : (after : List (Piece (Range G))) → length after ≡ length cells → (n : ℕ) → CellsWhole (worth K val) (step (ranges K) x (list_says K val begins (take used cells)) row) cells used after n →
          Filled first (k + 1) (set begins (k + 1) n) after n
      filled_more after kept n whole =
          let few : k < 64 = omega (arith, sound.few) in
          fills.filled_next (worth K val) values_of first k begins cells used F few after kept n (subst (λ f. CellsWhole (worth K val) f cells used after n) row_is whole)

      -- it does not
      module _ (L : Lawful K) (settles : (l : ℕ) → Settles (x l)) where
        pub filled_short : (after : List (Piece (Range G))) → length after ≡ length cells → length cells ≡ length first → CellsShort (worth K val) (step (ranges K) x (list_says K val begins (take used cells)) row) cells used after →
            (pss : List (List (Piece (Span K.Value)))) × RowsRunOut K val rows x first after pss
        filled_short after kept size short =
            let pss = (row_lists K x settles sound).0 in
            let full = (row_lists K x settles sound).1 in
            let out = fills.filled_out (worth K val) values_of first k begins cells used F pss (omega (arith, full.many)) (λ i h. full.each i (omega (arith, full.many))) after kept size (subst (λ f. CellsShort (worth K val) f cells used after) row_is short) in
            (pss, record { listed = full; longer = out.0; beginning = out.1 })

    -- behind the last row
    pub filled_all : k ≡ length rows → length rows ≤ 64 → length cells ≡ length first → (pss : List (List (Piece (Span K.Value)))) × (Complete K val rows x first cells pss × BeginAt begins pss)
    filled_all e few size =
        let S = F.stacked in (
          F.lists,
          (
            record {
              listed = record { many = F.many ∙ e; each = λ c h. S.listed c (omega (arith, F.many)) };
              fits = omega (arith, S.top, S.within);
              written = subst (λ n. shown (worth K val) (take n cells) ≡ all F.lists) S.top S.holds;
              behind = subst (λ n. drop n cells ≡ drop n first) S.top F.behind;
            },
            record { known = omega (arith, F.many, F.room); at = S.marks },
          ),
        )

  -- the lists of a complete table are there to be read
  module _ (before after : List (Piece (Range G))) (pss : List (List (Piece (Span K.Value)))) (begins : List ℕ) (size : length after ≡ length before) (C : Complete K val rows x before after pss) (B : BeginAt begins pss) where
    pub complete_standing : RangesStand K rows x val begins after
    complete_standing = record { lists = pss; listed = C.listed; written = C.written; fits = omega (arith, C.fits); begin = B }

    pub complete_stands : (c : ℕ) → c < length rows → ListStands begins after c
    complete_stands = row_stands K val rows x begins after complete_standing

    -- each row's list says what the row is worth
    pub complete_told : (c : ℕ) → c < length rows → (t : ℕ) → list_says K val begins after c t ≡ values_of c t
    complete_told = row_told K val rows x begins after complete_standing

    -- what is found in the last row's list is the verdict
    pub complete_verdict : 0 < length rows → (ps : List (Piece (Range G))) → ps ≡ list_at begins after (length rows - 1) → (tick : ℕ) (v : Span K.Value) (o : Option ℕ) → Steady (heard K val ps) tick v o → v ≡ verdict K rows x tick
    complete_verdict some ps is tick v o st =
        st.1 tick (omega arith) (before_self tick o st.0) ∙ ap (λ qs. heard K val qs tick) is ∙ complete_told (length rows - 1) (omega arith) tick ∙ ap (λ j. values_of j tick) (sub-one (length rows))
