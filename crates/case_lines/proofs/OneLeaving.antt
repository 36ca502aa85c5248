-- A case leaves one thing in the lent cells.
use Rattle.std.proofs.Common.{◌≡◌, ℕ, ◌*◌, ◌≤◌, List, [], ◌∷◌, ◌++◌, length, take, drop, Bool, Some, None, Ok, Err, Option, Result, sym, refl, ap, ap₂, ◌∙◌, subst, take-append-drop, arith}
use Rattle.grades.specs.Kinds.{Kind}
use Rattle.grades.specs.Ranges.{Span}
use Rattle.grades.specs.Margins.{margins}
use Rattle.grades.specs.Truths.{truths}
use Rattle.grades.specs.Worth.{worth, truth_value, margin_level}
use Rattle.grades.specs.declared.margin.Margin.{Margin}
use Rattle.grades.specs.declared.range.Range.{Range}
use Rattle.grades.specs.declared.truth.Truth.{Truth}
use Rattle.pieces.specs.declared.piece.Piece.{Piece}
use Rattle.pieces.specs.Cells.{meant, shown}
use Rattle.rules.specs.declared.row.Row.{Row}
use Rattle.meaning.specs.declared.mark.Mark.{Mark}
use Rattle.meaning.specs.declared.reading.Reading.{Reading}
use Rattle.meaning.specs.Marks.{Marked}
use Rattle.meaning.specs.Readings.{Readings}
use Rattle.meaning.proofs.Pinned.{lists_same}
use Rattle.runs.specs.Calls.{all, judge_asks, mark_asks}
use Rattle.runs.specs.Conditions.{Condition, FirstFailing}
use Rattle.runs.specs.Jobs.{JobTurn, enter}
use Rattle.runs.specs.States.{State, readings_of, opened, line_count}
use Rattle.runs.proofs.Conditions.{one_failing}
use Rattle.runs.proofs.Unique.{job_one}
use Rattle.runs.proofs.WantedLists.{one_want_lists}
use Rattle.judge.specs.declared.fault.JudgeFault.{JudgeFault}
use Rattle.judge.specs.declared.fault.JudgeFault.TheVariants.{NoSuchLine, LateTick, RowCells}
use Rattle.judge.specs.declared.fault.MarkFault.{MarkFault}
use Rattle.judge.specs.declared.fault.MarkFault.TheVariants.{Judging, WantCells, MarkCells}
use Rattle.judge.specs.declared.marking.Marking.{Marking}
use Rattle.judge.specs.Faults.{judge_number, mark_number}
use Rattle.judge.specs.Cells.{BeginsWith, RunsOut, Complete, RowsRunOut, WantsComplete, WantsCut, MarksComplete, MarksCut}
use Rattle.judge.specs.Answers.{RefusedCells}
use Rattle.judge.proofs.Pinned.{row_lists_one}
use Rattle.lent.specs.Holding.{Contents}
use Rattle.cases.specs.declared.field.Entry.{Entry}
use Rattle.cases.specs.Contents.{Item}
use Rattle.cases.specs.Headings.{OpenedCase}
use Rattle.cases.specs.Steps.{Stepped}
use Rattle.cases.proofs.OneReading.{one_opening, one_step}
use Rattle.case_lines.specs.Leaves.{JudgedCells, MarkedIn, TickLeaves, no_truth, no_margin, marked, FieldLeaves, enters, ticks, FieldsLeave, ended, refused, does, LinesLie, too_long, no_heading, carried, OneLeaving}
use Rattle.case_lines.proofs.OneListing.{entry_tick, same_entry, same_tick, sized_one}

ok_err : {A E : Type 0} (x : A) (e : E) → ◌≡◌ {A = Result A E} (Ok x) (Err e) → ⊥
ok_err x e h = let z : ◌≡◌ {A = ℕ} 0 1 = cc in omega arith

none_some : {A : Type 0} (x : A) → ◌≡◌ {A = Option A} None (Some x) → ⊥
none_some x h = let z : ◌≡◌ {A = ℕ} 0 1 = cc in omega arith

same_some : {A : Type 0} (x y : A) → ◌≡◌ {A = Option A} (Some x) (Some y) → x ≡ y
same_some x y h = cc

same_ok : {A E : Type 0} (x y : A) → ◌≡◌ {A = Result A E} (Ok x) (Ok y) → x ≡ y
same_ok x y h = cc

-- lists with the same beginning and the same behind it
joined : {X : Type 0} (n : ℕ) (a b : List X) → take n a ≡ take n b → drop n a ≡ drop n b → a ≡ b
joined n a b e f = sym (take-append-drop n a) ∙ ap₂ (λ xs ys. xs ++ ys) e f ∙ take-append-drop n b

-- pieces are what their values stand for, where values are
module _ {V C : Type 0} (value : V → C) (one : (u v : V) → value u ≡ value v → u ≡ v) where
  piece_one : (p q : Piece V) → meant value p ≡ meant value q → p ≡ q
  piece_one p q e =
      let start : p.start ≡ q.start = ap (λ (r : Piece C). r.start) e in
      let same : p.value ≡ q.value = one p.value q.value (ap (λ (r : Piece C). r.value) e) in
      λ i. record { start = start i; value = same i }

  shown_one : (ps qs : List (Piece V)) → shown value ps ≡ shown value qs → ps ≡ qs
  shown_one [] [] e = refl
  shown_one [] (q ∷ qs) e = absurd (let n = ap length e in omega (arith, n))
  shown_one (p ∷ ps) [] e = absurd (let n = ap length e in omega (arith, n))
  shown_one (p ∷ ps) (q ∷ qs) e =
      let first : meant value p ≡ meant value q = cc in
      let more : shown value ps ≡ shown value qs = cc in
      ap₂ (λ (x : Piece V) (xs : List (Piece V)). x ∷ xs) (piece_one p q first) (shown_one ps qs more)

-- judging leaves one thing in the row cells
module _ (rows : List Row) (s : State) (t : ℕ) (K : Kind) {G : Type 0} (value : G → K.Value) (one : (u v : Range G) → worth K value u ≡ worth K value v → u ≡ v) (before a b : List (Piece (Range G))) where
  complete_one : (x : Readings) (pss qss : List (List (Piece (Span K.Value)))) → Complete K value rows x before a pss → Complete K value rows x before b qss → a ≡ b
  complete_one x pss qss p c =
      let q = subst (Complete K value rows x before b) (row_lists_one K rows x qss pss c.listed p.listed) c in
      let n = length (all pss) in
      joined n a b (shown_one (worth K value) one (take n a) (take n b) (p.written ∙ sym q.written)) (p.behind ∙ sym q.behind)

  cut_one : (x : Readings) (pss qss : List (List (Piece (Span K.Value)))) → RowsRunOut K value rows x before a pss → RowsRunOut K value rows x before b qss → a ≡ b
  cut_one x pss qss p c =
      let q = subst (RowsRunOut K value rows x before b) (row_lists_one K rows x qss pss c.listed p.listed) c in
      shown_one (worth K value) one a b (p.beginning ∙ sym q.beginning)

  refused_one : (x : Readings) (f g : JudgeFault) → judge_number f ≡ judge_number g → RefusedCells K value rows x before a f → RefusedCells K value rows x before b g → a ≡ b
  refused_one x NoSuchLine NoSuchLine e h k = h ∙ sym k
  refused_one x NoSuchLine LateTick e h k = h ∙ sym k
  refused_one x NoSuchLine RowCells e h k = absurd (omega (arith, e))
  refused_one x LateTick NoSuchLine e h k = h ∙ sym k
  refused_one x LateTick LateTick e h k = h ∙ sym k
  refused_one x LateTick RowCells e h k = absurd (omega (arith, e))
  refused_one x RowCells NoSuchLine e h k = absurd (omega (arith, e))
  refused_one x RowCells LateTick e h k = absurd (omega (arith, e))
  refused_one x RowCells RowCells e h k = cut_one x h.0 k.0 h.1 k.1

  judged_apart : (u : Range G) (f : JudgeFault) → JudgedCells rows s t K value before a (Ok u) → JudgedCells rows s t K value before b (Err f) → ⊥
  judged_apart u f h k = none_some (judge_number f) (one_failing (judge_asks K s rows t (length before) []) None (Some (judge_number f)) h.turn.0 k.turn)

  judged_one : (u v : Range G) → JudgedCells rows s t K value before a (Ok u) → JudgedCells rows s t K value before b (Ok v) → a ≡ b
  judged_one u v h k = complete_one (readings_of s) h.cells.0 k.cells.0 h.cells.1 k.cells.1

  unjudged_one : (f g : JudgeFault) → JudgedCells rows s t K value before a (Err f) → JudgedCells rows s t K value before b (Err g) → a ≡ b
  unjudged_one f g h k =
      refused_one (readings_of s) f g (same_some (judge_number f) (judge_number g) (one_failing (judge_asks K s rows t (length before) []) (Some (judge_number f)) (Some (judge_number g)) h.turn k.turn)) h.cells k.cells

begun : {X : Type 0} (xs before a b : List X) → BeginsWith xs before a → BeginsWith xs before b → a ≡ b
begun xs before a b p q = joined (length xs) a b (p.written ∙ sym q.written) (p.behind ∙ sym q.behind)

run_out : {X : Type 0} (xs before a b : List X) → RunsOut xs before a → RunsOut xs before b → a ≡ b
run_out xs before a b p q = p.beginning ∙ sym q.beginning

truth_range_one : (u v : Range Truth) → worth truths truth_value u ≡ worth truths truth_value v → u ≡ v
truth_range_one u v e =
    let low : u.lower.holds ≡ v.lower.holds = ap (λ (p : Span truths.Value). p.low) e in
    let high : u.upper.holds ≡ v.upper.holds = ap (λ (p : Span truths.Value). p.high) e in
    λ i. record { lower = record { holds = low i }; upper = record { holds = high i } }

margin_range_one : (u v : Range Margin) → worth margins margin_level u ≡ worth margins margin_level v → u ≡ v
margin_range_one u v e =
    let low : margin_level u.lower ≡ margin_level v.lower = ap (λ (p : Span margins.Value). p.low) e in
    let high : margin_level u.upper ≡ margin_level v.upper = ap (λ (p : Span margins.Value). p.high) e in
    λ i. record { lower = record { number = (low i).number; ok = (low i).ok }; upper = record { number = (high i).number; ok = (high i).ok } }

judging_below : (f : JudgeFault) → judge_number f ≤ 9
judging_below NoSuchLine = omega arith
judging_below LateTick = omega arith
judging_below RowCells = omega arith

abbrev told : Result (Marking Truth) MarkFault → Option ℕ
told (Ok m) = None
told (Err f) = Some (mark_number f)

module _ (rows : List Row) (s : State) (t : ℕ) where
  -- marking leaves one thing in the row cells, the want cells and the mark cells
  module _ (ranges a b : List (Piece (Range Truth))) (wants w v : List (Piece Bool)) (marks m n : List Mark) where
    wants_done : WantsComplete truths rows (readings_of s) t wants w → WantsComplete truths rows (readings_of s) t wants v → w ≡ v
    wants_done h k =
        let same = one_want_lists truths rows (readings_of s) t k.0 h.0 k.1.0 h.1.0 in
        begun (all h.0) wants w v h.1.1 (subst (λ (wss : List (List (Piece Bool))). BeginsWith (all wss) wants v) same k.1.1)

    wants_short : WantsCut truths rows (readings_of s) t wants w → WantsCut truths rows (readings_of s) t wants v → w ≡ v
    wants_short h k =
        let same = one_want_lists truths rows (readings_of s) t k.0 h.0 k.1.0 h.1.0 in
        run_out (all h.0) wants w v h.1.1 (subst (λ (wss : List (List (Piece Bool))). RunsOut (all wss) wants v) same k.1.1)

    marks_done : (i j : ℕ) → MarksComplete truths rows (readings_of s) t marks m i → MarksComplete truths rows (readings_of s) t marks n j → m ≡ n
    marks_done i j h k =
        let same = lists_same {P = Marked truths rows (readings_of s) t} k.0 h.0 k.1.0 h.1.0 in
        begun h.0 marks m n h.1.2 (subst (λ (ms : List Mark). BeginsWith ms marks n) same k.1.2)

    marks_short : MarksCut truths rows (readings_of s) t marks m → MarksCut truths rows (readings_of s) t marks n → m ≡ n
    marks_short h k =
        let same = lists_same {P = Marked truths rows (readings_of s) t} k.0 h.0 k.1.0 h.1.0 in
        run_out h.0 marks m n h.1.1 (subst (λ (ms : List Mark). RunsOut ms marks n) same k.1.1)

    ranges_done : (pss qss : List (List (Piece (Span truths.Value)))) → Complete truths truth_value rows (readings_of s) ranges a pss → Complete truths truth_value rows (readings_of s) ranges b qss → a ≡ b
    ranges_done pss qss h k = complete_one rows s t truths truth_value truth_range_one ranges a b (readings_of s) pss qss h k

    by_told : (r q : Result (Marking Truth) MarkFault) → told r ≡ told q → MarkedIn rows s t ranges a wants w marks m r → MarkedIn rows s t ranges b wants v marks n q → (a ≡ b) × (w ≡ v) × (m ≡ n)
    by_told (Ok x) (Ok y) e p q = let h = p.cells in let k = q.cells in (ranges_done h.0.0 k.0.0 h.0.1 k.0.1, wants_done h.1 k.1, marks_done x.marks y.marks h.2 k.2)
    by_told (Ok x) (Err g) e p q = absurd (none_some (mark_number g) e)
    by_told (Err f) (Ok y) e p q = absurd (none_some (mark_number f) (sym e))
    by_told (Err (Judging f)) (Err (Judging g)) e p q =
        let h = p.cells in
        let k = q.cells in
        (refused_one rows s t truths truth_value truth_range_one ranges a b (readings_of s) f g (same_some (judge_number f) (judge_number g) e) h.0 k.0, h.1 ∙ sym k.1, h.2 ∙ sym k.2)
    by_told (Err (Judging f)) (Err WantCells) e p q = absurd (let d = same_some (judge_number f) 10 e in omega (arith, d, judging_below f))
    by_told (Err (Judging f)) (Err MarkCells) e p q = absurd (let d = same_some (judge_number f) 11 e in omega (arith, d, judging_below f))
    by_told (Err WantCells) (Err (Judging g)) e p q = absurd (let d = same_some 10 (judge_number g) e in omega (arith, d, judging_below g))
    by_told (Err WantCells) (Err WantCells) e p q = let h = p.cells in let k = q.cells in (ranges_done h.0.0 k.0.0 h.0.1 k.0.1, wants_short h.1 k.1, h.2 ∙ sym k.2)
    by_told (Err WantCells) (Err MarkCells) e p q = absurd (let d = same_some 10 11 e in omega (arith, d))
    by_told (Err MarkCells) (Err (Judging g)) e p q = absurd (let d = same_some 11 (judge_number g) e in omega (arith, d, judging_below g))
    by_told (Err MarkCells) (Err WantCells) e p q = absurd (let d = same_some 11 10 e in omega (arith, d))
    by_told (Err MarkCells) (Err MarkCells) e p q = let h = p.cells in let k = q.cells in (ranges_done h.0.0 k.0.0 h.0.1 k.0.1, wants_done h.1 k.1, marks_short h.2 k.2)

    marks_one : (r q : Result (Marking Truth) MarkFault) → MarkedIn rows s t ranges a wants w marks m r → MarkedIn rows s t ranges b wants v marks n q → (a ≡ b) × (w ≡ v) × (m ≡ n)
    marks_one r q h k = by_told r q (one_failing asked (told r) (told q) (failing a w m r h) (failing b v n q k)) h k
      where
        asked : List Condition
        asked = judge_asks truths s rows t (length ranges) (mark_asks truths s rows t (length wants) (length marks))

        failing : (a : List (Piece (Range Truth))) (w : List (Piece Bool)) (m : List Mark) (r : Result (Marking Truth) MarkFault) → MarkedIn rows s t ranges a wants w marks m r → FirstFailing asked (told r)
        failing a w m (Ok x) h = h.turn.0
        failing a w m (Err f) h = h.turn

  -- a tick leaves one thing
  tick_one : (before a b : Contents) → TickLeaves rows s t before a → TickLeaves rows s t before b → a ≡ b
  tick_one before a b (no_truth f j e) (no_truth g l d) =
      let x = unjudged_one rows s t truths truth_value truth_range_one before.truths a.truths b.truths f g j l in
      e ∙ ap (λ (v : List (Piece (Range Truth))). record before { truths = v }) x ∙ sym d
  tick_one before a b (no_truth f j e) (no_margin p g l o d) = absurd (judged_apart rows s t truths truth_value truth_range_one before.truths b.truths a.truths p f l j)
  tick_one before a b (no_truth f j e) (marked p q y r l o i) = absurd (judged_apart rows s t truths truth_value truth_range_one before.truths y a.truths p f l j)
  tick_one before a b (no_margin p f j k e) (no_truth g l d) = absurd (judged_apart rows s t truths truth_value truth_range_one before.truths a.truths b.truths p g j l)
  tick_one before a b (no_margin p f j k e) (no_margin u g l o d) =
      let x = judged_one rows s t truths truth_value truth_range_one before.truths a.truths b.truths p u j l in
      let y = unjudged_one rows s t margins margin_level margin_range_one before.margins a.margins b.margins f g k o in
      e ∙ (λ i. record before { truths = x i; margins = y i }) ∙ sym d
  tick_one before a b (no_margin p f j k e) (marked u q y r l o i) = absurd (judged_apart rows s t margins margin_level margin_range_one before.margins b.margins a.margins q f o k)
  tick_one before a b (marked p q x r j k i) (no_truth g l d) = absurd (judged_apart rows s t truths truth_value truth_range_one before.truths x b.truths p g j l)
  tick_one before a b (marked p q x r j k i) (no_margin u g l o d) = absurd (judged_apart rows s t margins margin_level margin_range_one before.margins a.margins b.margins q g k o)
  tick_one before a b (marked p q x r j k h) (marked u v y z l o g) =
      let same = judged_one rows s t truths truth_value truth_range_one before.truths y x u p l j in
      let gaps = judged_one rows s t margins margin_level margin_range_one before.margins a.margins b.margins q v k o in
      let one = marks_one x a.truths b.truths before.wants a.wants b.wants before.marks a.marks b.marks r z h
      (subst (λ (c : List (Piece (Range Truth))). MarkedIn rows s t c b.truths before.wants b.wants before.marks b.marks z) same g) in
      λ i. record { truths = one.0 i; margins = gaps i; wants = one.1 i; marks = one.2 i }

module _ (rows : List Row) where
  -- a field leaves one state, and one thing in the cells
  field_one : (i : Item) (s y z : State) (before a b : Contents) → FieldLeaves rows i s y before a → FieldLeaves rows i s z before b → (y ≡ z) × (a ≡ b)
  field_one i s y z before a b (enters e r is turn same) (enters f q js turn' same') =
      let one : f ≡ e = same_entry f e (sym js ∙ is) in
      ((job_one s (enter e.line e.from e.to e.lower e.upper) r q y z turn (subst (λ (x : Entry). JobTurn s (enter x.line x.from x.to x.lower x.upper) q z) one turn')).end, same ∙ sym same')
  field_one i s y z before a b (enters e r is turn same) (ticks t js kept left) = absurd (entry_tick e t (sym is ∙ js))
  field_one i s y z before a b (ticks t is kept left) (enters e r js turn same) = absurd (entry_tick e t (sym js ∙ is))
  field_one i s y z before a b (ticks t is kept left) (ticks u js kept' left') =
      let one : u ≡ t = same_tick u t (sym js ∙ is) in (kept ∙ sym kept', tick_one rows s t before a b left (subst (λ (x : ℕ). TickLeaves rows s x before b) one left'))

  fields_one : (n : ℕ) (s : State) (bytes : List ℕ) (z y : State) (before a b : Contents) → FieldsLeave rows n s bytes z before a → FieldsLeave rows n s bytes y before b → (z ≡ y) × (a ≡ b)
  fields_one n s bytes z y before a b (ended p e c) (ended q f d) = (e ∙ sym f, c ∙ sym d)
  fields_one n s bytes z y before a b (ended p e c) (refused x q f d) = absurd (ok_err None x (one_step n bytes (Ok None) (Err x) p q))
  fields_one n s bytes z y before a b (ended p e c) (does x q d l) = absurd (none_some x (same_ok None (Some x) (one_step n bytes (Ok None) (Ok (Some x)) p q)))
  fields_one n s bytes z y before a b (refused x p e c) (ended q f d) = absurd (ok_err None x (one_step n bytes (Ok None) (Err x) q p))
  fields_one n s bytes z y before a b (refused x p e c) (refused u q f d) = (e ∙ sym f, c ∙ sym d)
  fields_one n s bytes z y before a b (refused x p e c) (does u q d l) = absurd (ok_err (Some u) x (one_step n bytes (Ok (Some u)) (Err x) q p))
  fields_one n s bytes z y before a b (does x p d l) (ended q f c) = absurd (none_some x (same_ok None (Some x) (one_step n bytes (Ok None) (Ok (Some x)) q p)))
  fields_one n s bytes z y before a b (does x p d l) (refused u q f c) = absurd (ok_err (Some x) u (one_step n bytes (Ok (Some x)) (Err u) p q))
  fields_one n s bytes z y before a b (does {y = i} {between = c} x p d l) (does {y = j} {between = g} u q d' l') =
      let same : u ≡ x = same_some u x (same_ok (Some u) (Some x) (one_step n bytes (Ok (Some u)) (Ok (Some x)) q p)) in
      let one = field_one x.item s i j before c g d (subst (λ (o : Stepped). FieldLeaves rows o.item s j before g) same d') in
      let rest = subst (λ (o : Stepped). FieldsLeave rows o.next j o.rest y g b) same l' in
      let from : FieldsLeave rows x.next i x.rest y c b = subst (λ (k : State). FieldsLeave rows x.next k x.rest y c b) (sym one.0) (subst (λ (k : Contents). FieldsLeave rows x.next j x.rest y k b) (sym one.1) rest) in
      fields_one x.next i x.rest z y c a b l from

-- unchanged piece cells are those of a job with no line
untouched : (before after : List (Piece Reading)) → after ≡ before → LinesLie [] before after
untouched before after e = record { each = λ k h. absurd (omega (arith, h)); behind = ap (drop (64 * length {A = List (Piece Reading)} [])) e }

pub one_leaving : OneLeaving
one_leaving case pieces p q before a b (too_long x s e c) (too_long y t f d) = (c ∙ sym d, ([], untouched pieces p e, untouched pieces q f))
one_leaving case pieces p q before a b (too_long x s e c) (no_heading y t o f d) = absurd (sized_one case x t s)
one_leaving case pieces p q before a b (too_long x s e c) (carried o z t h l k) = absurd (sized_one case x t s)
one_leaving case pieces p q before a b (no_heading x s o e c) (too_long y t f d) = absurd (sized_one case y s t)
one_leaving case pieces p q before a b (no_heading x s o e c) (no_heading y t h f d) = (c ∙ sym d, ([], untouched pieces p e, untouched pieces q f))
one_leaving case pieces p q before a b (no_heading x s h e c) (carried o z t g l k) = absurd (ok_err o x (one_opening 1 [] case (Ok o) (Err x) g h))
one_leaving case pieces p q before a b (carried o z s g l k) (too_long y t f d) = absurd (sized_one case y s t)
one_leaving case pieces p q before a b (carried o z s g l k) (no_heading y t h f d) = absurd (ok_err o y (one_opening 1 [] case (Ok o) (Err y) g h))
one_leaving case pieces p q before a b (carried o z s g l k) (carried i y t h m j) =
    let same : i ≡ o = same_ok i o (one_opening 1 [] case (Ok i) (Ok o) h g) in
    let one = fields_one o.rows o.next (opened (line_count o.lines (length pieces))) o.rest z y before a b l
    (subst (λ (x : OpenedCase). FieldsLeave x.rows x.next (opened (line_count x.lines (length pieces))) x.rest y before b) same m) in
    (one.1, (z.lines, k, subst (λ (x : State). LinesLie x.lines pieces q) (sym one.0) j))
