-- Every list of calls has a run: each condition can be told, and what an accepted call has to find is there.
use Rattle.std.proofs.Common.{◌≡◌, ℕ, suc, ◌+◌, ◌<◌, ◌≤◌, Bool, true, false, List, [], ◌∷◌, length, get_or, set, ℤ, pos, negsuc, ◌≤ℤ◌, Some, None, Ok, Err, Option, Result, sym, refl, ap, ◌∙◌, subst, inr, arith}
use native.Mathlib.Decide.{dec_lt, dec_le}
use lib.Signed.{≤ℤ_refl, le_z}
use Rattle.std.proofs.lemmas.Int.{ints, clamps}
use Rattle.grades.specs.Kinds.{Kind, Lawful}
use Rattle.grades.specs.Ranges.{Span, ends_same}
use Rattle.rules.specs.declared.row.Row.{Row}
use Rattle.rules.specs.declared.row.Row.TheVariants.{Test, Not, And, Or, Eventually, Always, Until}
use Rattle.rules.specs.Rows.{row_at}
use Rattle.pieces.specs.declared.piece.Piece.{Piece}
use Rattle.pieces.specs.Pieces.{Lists}
use Rattle.pieces.proofs.Chains.{only_one}
use Rattle.pieces.proofs.Exists.{listed}
use Rattle.meaning.specs.declared.reading.Reading.{Reading}
use Rattle.meaning.specs.declared.mark.Mark.{Mark}
use Rattle.meaning.specs.Readings.{Readings, ReadingEnds, ReadingWith, widest, Within, entered}
use Rattle.meaning.specs.Values.{value}
use Rattle.meaning.specs.Verdicts.{ranges, verdict}
use Rattle.rules.specs.Tested.{Tests}
use Rattle.meaning.specs.Marks.{Marked}
use Rattle.meaning.proofs.Readings.{reading_same, entered_elsewhere}
use Rattle.meaning.proofs.Deciding.{both?, not?, as?, first, some?}
use Rattle.meaning.proofs.Decided.{has_marks}
use Rattle.meaning.proofs.Pinned.{lists_same}
use Rattle.runs.specs.States.{State, readings_of, made, opened}
use Rattle.runs.specs.Conditions.{Condition, FirstFailing}
use Rattle.runs.specs.Jobs.{JobCall, enter, known, tally, seal, JobAnswer, accepted, first_unknown, count, counted, Narrows, SetsPieces, FitsLine, enter_asks, FirstUnknown, job_asks, JobTurn}
use Rattle.runs.specs.Calls.{RuleRows, all, HasLines, RowLists, judge_asks, mark_asks, JudgeTurn, MarkedVerdict, MarkTurn}
use Rattle.runs.specs.Runs.{Call, on_job, judge, mark, Reply, event, Replies, events, Turn, Ran}
use Rattle.runs.specs.Law.{Run}
use Rattle.runs.proofs.Conditions.{AllTold, first_failing}
use Rattle.runs.proofs.Settings.{EndsAt}
use Rattle.runs.proofs.Turns.{made_is, entry_passes, turn_ends, opened_reads}
use Rattle.runs.proofs.Settling.{rows_settle}
use Rattle.runs.proofs.Collecting.{collect, same_lists}
use Rattle.runs.proofs.WantedLists.{want_lists, one_want_lists}

ℤ-le? : (a b : ℤ) → Dec (a ≤ℤ b)
ℤ-le? a b = elim (le_z a b) as (λ (x : Bool). le_z a b ≡ x → Dec (a ≤ℤ b)) [ true ↦ λ e. yes (grind (arith, ints)) | false ↦ λ e. no (λ h. grind (arith, ints)) ] refl

ℤ-same? : (a b : ℤ) → Dec (a ≡ b)
ℤ-same? a b =
    elim (ℤ-le? a b) [
      | yes h ↦ elim (ℤ-le? b a) [ yes k ↦ yes (omega (arith, ints)) | no n ↦ no (λ e. n (subst (λ (c : ℤ). c ≤ℤ a) e (≤ℤ_refl a))) ]
      | no n ↦ no (λ e. n (subst (λ (c : ℤ). a ≤ℤ c) e (≤ℤ_refl a)))
    ]

reading? : (p q : Reading) → Dec (p ≡ q)
reading? p q =
    elim (ℤ-same? p.lower q.lower) [
      | yes e ↦ elim (ℤ-same? p.upper q.upper) [ yes f ↦ yes (reading_same p q e f) | no n ↦ no (λ h. n (ap (λ (r : Reading). r.upper) h)) ]
      | no n ↦ no (λ h. n (ap (λ (r : Reading). r.lower) h))
    ]

within? : (p q : Reading) → Dec (Within p q)
within? p q =
    as? (λ h. record { lower = h.0; upper = h.1 }) (λ h. (h.lower, h.upper)) (both? (ℤ-le? q.lower p.lower) (ℤ-le? p.upper q.upper))

ends? : (lower upper : ℤ) → Dec (ReadingEnds lower upper)
ends? lower upper =
    as? (λ h. ((h.0.0, h.0.1), (h.1.0.0, h.1.0.1), h.1.1)) (λ h. ((h.0.0, h.0.1), ((h.1.0, h.1.1), h.2))) (both? (both? (ℤ-le? (negsuc 499999) lower) (ℤ-le? lower (pos 500000))) (both? (both? (ℤ-le? (negsuc 499999) upper) (ℤ-le? upper (pos 500000))) (ℤ-le? lower upper)))

made_reads : (lower upper : ℤ) → ReadingEnds lower upper → ReadingWith lower upper (Some (made lower upper))
made_reads lower upper h =
    let a = h.0 in
    let b = h.1 in
    let c = h.2 in
    (omega (arith, ints, clamps), omega (arith, ints, clamps))

-- what holds at every tick of a stretch can be told
all? : {P : ℕ → Type 0} → ((u : ℕ) → Dec (P u)) → (from to : ℕ) → Dec ((u : ℕ) → from ≤ u → u < to → P u)
all? {P} d from to =
    elim (some? (λ u. both? (dec_le from u) (not? (d u))) to) [
      | yes h ↦ no (λ a. h.2.1 (a h.0 h.2.0 h.1))
      | no n ↦ yes (λ u a b. elim (d u) [ yes p ↦ p | no q ↦ absurd (n (u, b, (a, q))) ])
    ]

narrows? : (s : State) (line from to : ℕ) (lower upper : ℤ) → ReadingEnds lower upper → Dec (Narrows s line from to lower upper)
narrows? s line from to lower upper h =
    as? (λ a p r u b c. subst (λ (q : Reading). Within q (readings_of s line u)) (sym (made_is lower upper p r)) (a u b c)) (λ a u b c. a (made lower upper) (made_reads lower upper h) u b c) (all? (λ u. within? (made lower upper) (readings_of s line u)) from to)

module _ (e : ℕ) (s : State) (ends : EndsAt e s) where
  -- the line once the reading is set
  set_list : (line from to : ℕ) (lower upper : ℤ) → to ≤ e → ReadingEnds lower upper → (ps : List (Piece Reading)) × SetsPieces s line from to lower upper (made lower upper) ps
  set_list line from to lower upper le h =
      let f : ℕ → Reading = entered (readings_of s) line from to (made lower upper) line in
      let past : (t : ℕ) → e ≤ t → f t ≡ widest = λ t a. entered_elsewhere (readings_of s) line from to (made lower upper) line t (inr (inr (omega arith))) ∙ ends line t a in
      let l = listed reading? f e (λ t a. past t a ∙ sym (past e (omega arith))) in
      (l.0, (made_reads lower upper h, l.1))

  room? : (line from to : ℕ) (lower upper : ℤ) → to ≤ e → ReadingEnds lower upper → Dec (FitsLine s line from to lower upper)
  room? line from to lower upper le h =
      let l = set_list line from to lower upper le h in
      let f : Reading → ℕ → Reading = λ p. entered (readings_of s) line from to p line in
      as? (λ few p ps set. subst (λ (v : List (Piece Reading)). length v ≤ 64) (only_one Reading (f (made lower upper)) l.0 ps l.1.1 (subst (λ (q : Reading). Lists (f q) ps) (made_is lower upper p set.0) set.1)) few) (λ room. room (made lower upper) l.0 l.1) (dec_le (length l.0) 64)

  known_tick : (line : ℕ) → (t : ℕ) × FirstUnknown (readings_of s) line t
  known_tick line =
      let f = first (λ t. reading? (readings_of s line t) widest) 0 (suc e) in
      let r = f.0 in
      let is = f.1 in
      let lt : r < suc e = elim (dec_lt r (suc e)) [ yes l ↦ l | no n ↦ absurd (is.none e (omega arith) (omega (arith, n, is.to)) (ends line e (omega arith))) ] in
      (r, record { here = is.here (omega arith); before = λ u a h. is.none u (omega arith) a h })

sealed? : (b : Bool) → Dec (b ≡ false)
sealed? false = yes refl
sealed? true = no (λ h. let z : ◌≡◌ {A = ℕ} 0 1 = cc in omega arith)

module _ (e : ℕ) (far : 1000000001 ≤ e) (s : State) (ends : EndsAt e s) where
  enter_told : (line from to : ℕ) (lower upper : ℤ) → AllTold (enter_asks s line from to lower upper)
  enter_told line from to lower upper =
      (sealed? s.sealed, λ _. (dec_lt line (length s.lines), λ _. (both? (dec_lt from to) (dec_le to 1000000001), λ st. (ends? lower upper, λ h. (narrows? s line from to lower upper h, λ _. (room? e s ends line from to lower upper (omega (arith, st.1)) h, λ _. tt))))))

  pub enter_goes : (line from to : ℕ) (lower upper : ℤ) → (r : Result JobAnswer ℕ) × ((z : State) × JobTurn s (enter line from to lower upper) r z)
  enter_goes line from to lower upper = by (first_failing (enter_asks s line from to lower upper) (enter_told line from to lower upper))
    where
      by : (o : Option ℕ) × FirstFailing (enter_asks s line from to lower upper) o → (r : Result JobAnswer ℕ) × ((z : State) × JobTurn s (enter line from to lower upper) r z)
      by (Some n, h) = (Err n, (s, (h, refl)))
      by (None, h) =
          let ok = entry_passes s line from to lower upper h in
          let l = set_list e s ends line from to lower upper (omega (arith, ok.stretch.1)) ok.ends in
          (Ok accepted, (record s { lines = set s.lines line l.0; tally = counted s.tally }, (h, (refl, (made lower upper, (l.0, (l.1, refl)))))))

  known_goes : (line : ℕ) → (r : Result JobAnswer ℕ) × ((z : State) × JobTurn s (known line) r z)
  known_goes line = by (first_failing (job_asks s (known line)) (dec_lt line (length s.lines), λ _. tt))
    where
      by : (o : Option ℕ) × FirstFailing (job_asks s (known line)) o → (r : Result JobAnswer ℕ) × ((z : State) × JobTurn s (known line) r z)
      by (Some n, h) = (Err n, (s, (h, refl)))
      by (None, h) = let t = known_tick e s ends line in (Ok (first_unknown t.0), (s, (h, (t.0, (t.1, refl, refl)))))

  job_goes : (c : JobCall) → (r : Result JobAnswer ℕ) × ((z : State) × JobTurn s c r z)
  job_goes (enter line from to lower upper) = enter_goes line from to lower upper
  job_goes (known line) = known_goes line
  job_goes tally = (Ok (count s.tally), (s, (refl, (refl, refl))))
  job_goes seal = (Ok accepted, (record s { sealed = true }, (refl, (refl, refl))))

-- the line that a row tests
bad_test? : (n : ℕ) (r : Row) → Dec ((line : ℕ) × Tests r line × (line < n → ⊥))
bad_test? n (Test l s m) = elim (dec_lt l n) [ yes h ↦ no (λ b. b.2 (subst (λ (j : ℕ). j < n) (sym b.1) h)) | no h ↦ yes (l, refl, h) ]
bad_test? n (Not a) = no (λ b. b.1)
bad_test? n (And a b) = no (λ b. b.1)
bad_test? n (Or a b) = no (λ b. b.1)
bad_test? n (Eventually a b d) = no (λ b. b.1)
bad_test? n (Always a b d) = no (λ b. b.1)
bad_test? n (Until a b l r) = no (λ b. b.1)

has_lines? : (s : State) (rows : List Row) → Dec (HasLines s rows)
has_lines? s rows =
    elim (some? (λ k. bad_test? (length s.lines) (row_at rows k)) (length rows)) [
      | yes h ↦ no (λ a. h.2.2 (a h.0 h.2.0 h.1 h.2.1))
      | no n ↦ yes (λ k line lt t. elim (dec_lt line (length s.lines)) [ yes p ↦ p | no q ↦ absurd (n (k, lt, (line, t, q))) ])
    ]

module _ {K : Kind} (L : Lawful K) where
  span? : (p q : Span K.Value) → Dec (p ≡ q)
  span? p q = ends_same p q (K.same p.low q.low) (K.same p.high q.high)

  module _ (e : ℕ) (s : State) (ends : EndsAt e s) (a : RuleRows) where
    abbrev x : Readings
    x = readings_of s

    abbrev rows : List Row
    rows = a.rows

    row_list : (k : ℕ) → k < length rows → (ps : List (Piece (Span K.Value))) × Lists (value (ranges K) rows x k) ps
    row_list k lt = let h = rows_settle K x (λ l. (e, λ t b. ends l t b ∙ sym (ends l e (omega arith)))) rows a.sound k lt in listed span? (value (ranges K) rows x k) h.0 h.1

    pub row_lists : (pss : List (List (Piece (Span K.Value)))) × RowLists K rows x pss
    row_lists =
        let c = collect (λ k ps. Lists (value (ranges K) rows x k) ps) 0 (length rows) (λ k b lt. row_list k (omega arith)) in
        (c.0, record { many = c.1.0; each = λ k lt. let z : 0 + k ≡ k = omega arith in subst (λ (j : ℕ). Lists (value (ranges K) rows x j) (get_or c.0 k [])) z (c.1.1 k lt) })

    pub one_row_lists : (pss qss : List (List (Piece (Span K.Value)))) → RowLists K rows x pss → RowLists K rows x qss → pss ≡ qss
    one_row_lists pss qss h k =
        same_lists pss qss (h.many ∙ sym k.many) (λ j lt. let lr : j < length rows = omega (arith, h.many) in only_one (Span K.Value) (value (ranges K) rows x j) (get_or pss j []) (get_or qss j []) (h.each j lr) (k.each j lr))

    rows_fit? : (cells : ℕ) → Dec ((pss : List (List (Piece (Span K.Value)))) → RowLists K rows x pss → length (all pss) ≤ cells)
    rows_fit? cells =
        let r = row_lists in
        as? (λ few pss h. subst (λ (v : List (List (Piece (Span K.Value)))). length (all v) ≤ cells) (one_row_lists r.0 pss r.1 h) few) (λ fit. fit r.0 r.1) (dec_le (length (all r.0)) cells)

    judge_told : (t cells : ℕ) (more : List Condition) → AllTold more → AllTold (judge_asks K s rows t cells more)
    judge_told t cells more d = (has_lines? s rows, λ _. (dec_le t 500000000, λ _. (rows_fit? cells, λ _. d)))

    pub judge_goes : (t cells : ℕ) → (r : Result (Span K.Value) ℕ) × JudgeTurn K s rows t cells r
    judge_goes t cells = by (first_failing (judge_asks K s rows t cells []) (judge_told t cells [] tt))
      where
        by : (o : Option ℕ) × FirstFailing (judge_asks K s rows t cells []) o → (r : Result (Span K.Value) ℕ) × JudgeTurn K s rows t cells r
        by (Some n, h) = (Err n, h)
        by (None, h) = (Ok (verdict K rows x t), (h, refl))

    mark_told : (t wants marks : ℕ) → AllTold (mark_asks K s rows t wants marks)
    mark_told t wants marks =
        let w = want_lists L rows a.sound x t in
        let m = has_marks L a.sound x t in
        (as? (λ few pss h. subst (λ (v : List (List (Piece Bool))). length (all v) ≤ wants) (one_want_lists K rows x t w.0 pss w.1 h) few) (λ fit. fit w.0 w.1) (dec_le (length (all w.0)) wants), λ _. (as? (λ few ms h. subst (λ (v : List Mark). length v ≤ marks) (lists_same {P = Marked K rows x t} m.0 ms m.1 h) few) (λ fit. fit m.0 m.1) (dec_le (length m.0) marks), λ _. tt))

    pub mark_goes : (t cells wants marks : ℕ) → (r : Result (MarkedVerdict K) ℕ) × MarkTurn K s rows t cells wants marks r
    mark_goes t cells wants marks = by (first_failing (judge_asks K s rows t cells (mark_asks K s rows t wants marks)) (judge_told t cells (mark_asks K s rows t wants marks) (mark_told t wants marks)))
      where
        by : (o : Option ℕ) × FirstFailing (judge_asks K s rows t cells (mark_asks K s rows t wants marks)) o → (r : Result (MarkedVerdict K) ℕ) × MarkTurn K s rows t cells wants marks r
        by (Some n, h) = (Err n, h)
        by (None, h) = let m = has_marks L a.sound x t in (Ok (record { verdict = verdict K rows x t; marks = m.0 }), (h, refl, m.1))

module _ {N : Type 0} (kinds : N → Kind) (lawful : (n : N) → Lawful (kinds n)) where
  turn_goes : (e : ℕ) → 1000000001 ≤ e → (s : State) → EndsAt e s → (c : Call kinds) → (r : Reply kinds c) × ((z : State) × Turn kinds s (event c r) z)
  turn_goes e far s ends (on_job c) = job_goes e far s ends c
  turn_goes e far s ends (judge n a t c) = let r = judge_goes (lawful n) e s ends a t c in (r.0, (s, (r.1, refl)))
  turn_goes e far s ends (mark n a t c w m) = let r = mark_goes (lawful n) e s ends a t c w m in (r.0, (s, (r.1, refl)))

  ran_goes : (e : ℕ) → 1000000001 ≤ e → (s : State) → EndsAt e s → (cs : List (Call kinds)) → (rs : Replies kinds cs) × ((z : State) × Ran kinds s (events kinds cs rs) z)
  ran_goes e far s ends [] = (tt, (s, refl))
  ran_goes e far s ends (c ∷ cs) =
      let one = turn_goes e far s ends c in
      let more = ran_goes e far one.1.0 (turn_ends kinds e far s one.1.0 (event c one.0) one.1.1 ends) cs in
      ((one.0, more.0), (more.1.0, (one.1.0, (one.1.1, more.1.1))))

  pub run_exists : (lines : ℕ) (cs : List (Call kinds)) → Run kinds lines cs
  run_exists lines cs =
      let r = ran_goes 1000000001 (omega arith) (opened lines) (λ line t h. opened_reads kinds lines (opened lines) [] refl line t) cs in
      record { replies = r.0; end = r.1.0; ran = r.1.1 }
