-- A case has one listing.
use Rattle.std.proofs.Common.{◌≡◌, ℕ, List, [], ◌++◌, length, Some, None, Ok, Err, Option, Result, sym, ap, ◌∙◌, subst, arith}
use Rattle.grades.specs.Kinds.{Kind}
use Rattle.grades.specs.Ranges.{Span}
use Rattle.grades.specs.Truths.{truths}
use Rattle.grades.specs.Margins.{margins}
use Rattle.rules.specs.declared.row.Row.{Row}
use Rattle.meaning.specs.Marks.{Marked}
use Rattle.meaning.specs.Outcomes.{outcome_at}
use Rattle.meaning.proofs.Pinned.{lists_same}
use Rattle.runs.specs.States.{State, opened, line_count, readings_of}
use Rattle.runs.specs.Jobs.{enter}
use Rattle.runs.specs.Calls.{judge_asks, mark_asks, JudgeTurn, MarkedVerdict, MarkTurn}
use Rattle.runs.proofs.Conditions.{one_failing}
use Rattle.runs.proofs.Unique.{job_one}
use Rattle.lent.specs.Holding.{CellCounts}
use Rattle.cases.specs.declared.fault.CaseRefusal.{CaseRefusal}
use Rattle.cases.specs.declared.field.Entry.{Entry}
use Rattle.cases.specs.Contents.{Item, entry, tick}
use Rattle.cases.specs.Headings.{OpenedCase}
use Rattle.cases.specs.Steps.{Sized, Stepped}
use Rattle.cases.proofs.OneReading.{one_opening, one_step}
use Rattle.cases.proofs.OpenedRules.{heading_apart, same_heading}
use Rattle.case_lines.specs.Lines.{refused_line, refusal_line, verdict_line, mark_lines, entry_text}
use Rattle.case_lines.specs.Calls.{CarriesEntry}
use Rattle.case_lines.specs.Listings.{Ticks, no_truth, no_margin, no_marks, verdict, Does, enters, ticks, ListsFields, ended, refused, does, too_long, no_heading, listed}
use Rattle.case_lines.specs.Laws.{OneListing}

apart : {A : Type 0} (x : A) (n : ℕ) → ◌≡◌ {A = Result A ℕ} (Ok x) (Err n) → ⊥
apart x n e = let z : ◌≡◌ {A = ℕ} 0 1 = cc in omega arith

inner : {A : Type 0} (x y : A) → ◌≡◌ {A = Result A ℕ} (Ok x) (Ok y) → x ≡ y
inner x y e = cc

number : {A : Type 0} (m n : ℕ) → ◌≡◌ {A = Result A ℕ} (Err m) (Err n) → m ≡ n
number m n e = cc

some_none : (n : ℕ) → ◌≡◌ {A = Option ℕ} None (Some n) → ⊥
some_none n e = let z : ◌≡◌ {A = ℕ} 0 1 = cc in omega arith

same_some : (m n : ℕ) → ◌≡◌ {A = Option ℕ} (Some m) (Some n) → m ≡ n
same_some m n e = cc

judge_one : (K : Kind) (s : State) (rows : List Row) (t c : ℕ) (r q : Result (Span K.Value) ℕ) → JudgeTurn K s rows t c r → JudgeTurn K s rows t c q → r ≡ q
judge_one K s rows t c (Ok p) (Ok q) h k = ap (λ (v : Span K.Value). Ok v) (h.1 ∙ sym k.1)
judge_one K s rows t c (Ok p) (Err n) h k = absurd (some_none n (one_failing (judge_asks K s rows t c []) None (Some n) h.0 k))
judge_one K s rows t c (Err n) (Ok q) h k = absurd (some_none n (one_failing (judge_asks K s rows t c []) None (Some n) k.0 h))
judge_one K s rows t c (Err m) (Err n) h k = ap (λ (v : ℕ). Err v) (same_some m n (one_failing (judge_asks K s rows t c []) (Some m) (Some n) h k))

mark_one : (K : Kind) (s : State) (rows : List Row) (t c w m : ℕ) (r q : Result (MarkedVerdict K) ℕ) → MarkTurn K s rows t c w m r → MarkTurn K s rows t c w m q → r ≡ q
mark_one K s rows t c w m (Ok p) (Ok q) h k =
    let v = h.1 ∙ sym k.1 in
    let ms = lists_same {P = Marked K rows (readings_of s) t} p.marks q.marks h.2 k.2 in
    λ i. Ok (record { verdict = v i; marks = ms i })
mark_one K s rows t c w m (Ok p) (Err n) h k = absurd (some_none n (one_failing (judge_asks K s rows t c (mark_asks K s rows t w m)) None (Some n) h.0 k))
mark_one K s rows t c w m (Err n) (Ok q) h k = absurd (some_none n (one_failing (judge_asks K s rows t c (mark_asks K s rows t w m)) None (Some n) k.0 h))
mark_one K s rows t c w m (Err i) (Err j) h k = ap (λ (v : ℕ). Err v) (same_some i j (one_failing (judge_asks K s rows t c (mark_asks K s rows t w m)) (Some i) (Some j) h k))

told : (t : ℕ) {p o : Span truths.Value} {q z : Span margins.Value} {x y : MarkedVerdict truths} → p ≡ o → q ≡ z → x ≡ y → verdict_line t (outcome_at p) q.low.number q.high.number (length x.marks) ++ mark_lines x.marks ≡ verdict_line t (outcome_at o) z.low.number z.high.number (length y.marks) ++ mark_lines y.marks
told t e f g = λ i. verdict_line t (outcome_at (e i)) (f i).low.number (f i).high.number (length (g i).marks) ++ mark_lines (g i).marks

pub entry_tick : (e : Entry) (t : ℕ) → entry e ≡ tick t → ⊥
entry_tick e t h = let z : ◌≡◌ {A = ℕ} 0 1 = cc in omega arith

pub same_entry : (e f : Entry) → entry e ≡ entry f → e ≡ f
same_entry e f h = cc

pub same_tick : (t u : ℕ) → tick t ≡ tick u → t ≡ u
same_tick t u h = cc

pub step_apart : (o : Option Stepped) (e : CaseRefusal) → ◌≡◌ {A = Result (Option Stepped) CaseRefusal} (Ok o) (Err e) → ⊥
step_apart o e h = let z : ◌≡◌ {A = ℕ} 0 1 = cc in omega arith

pub none_some : (x : Stepped) → ◌≡◌ {A = Result (Option Stepped) CaseRefusal} (Ok None) (Ok (Some x)) → ⊥
none_some x h = let z : ◌≡◌ {A = ℕ} 0 1 = cc in omega arith

pub same_refusal : (x y : CaseRefusal) → ◌≡◌ {A = Result (Option Stepped) CaseRefusal} (Err x) (Err y) → x ≡ y
same_refusal x y h = cc

pub same_step : (x y : Stepped) → ◌≡◌ {A = Result (Option Stepped) CaseRefusal} (Ok (Some x)) (Ok (Some y)) → x ≡ y
same_step x y h = cc

module _ (cells : CellCounts) (rows : List Row) where
  -- a tick prints one text
  ticks_one : (k t : ℕ) (s : State) (v u : List ℕ) → Ticks cells rows k t s v → Ticks cells rows k t s u → v ≡ u
  ticks_one k t s v u (no_truth xn xt xe) (no_truth yn yt ye) = xe ∙ ap (λ (i : ℕ). refused_line i k) (number xn yn (judge_one truths s rows t cells.truth_rows (Err xn) (Err yn) xt yt)) ∙ sym ye
  ticks_one k t s v u (no_truth xn xt xe) (no_margin yp yn yt yg ye) = absurd (apart yp xn (sym (judge_one truths s rows t cells.truth_rows (Err xn) (Ok yp) xt yt)))
  ticks_one k t s v u (no_truth xn xt xe) (no_marks yp yq yn yt yg ym ye) = absurd (apart yp xn (sym (judge_one truths s rows t cells.truth_rows (Err xn) (Ok yp) xt yt)))
  ticks_one k t s v u (no_truth xn xt xe) (verdict yp yq yx yt yg ym ye) = absurd (apart yp xn (sym (judge_one truths s rows t cells.truth_rows (Err xn) (Ok yp) xt yt)))
  ticks_one k t s v u (no_margin xp xn xt xg xe) (no_truth yn yt ye) = absurd (apart xp yn (judge_one truths s rows t cells.truth_rows (Ok xp) (Err yn) xt yt))
  ticks_one k t s v u (no_margin xp xn xt xg xe) (no_margin yp yn yt yg ye) = xe ∙ ap (λ (i : ℕ). refused_line i k) (number xn yn (judge_one margins s rows t cells.margin_rows (Err xn) (Err yn) xg yg)) ∙ sym ye
  ticks_one k t s v u (no_margin xp xn xt xg xe) (no_marks yp yq yn yt yg ym ye) = absurd (apart yq xn (sym (judge_one margins s rows t cells.margin_rows (Err xn) (Ok yq) xg yg)))
  ticks_one k t s v u (no_margin xp xn xt xg xe) (verdict yp yq yx yt yg ym ye) = absurd (apart yq xn (sym (judge_one margins s rows t cells.margin_rows (Err xn) (Ok yq) xg yg)))
  ticks_one k t s v u (no_marks xp xq xn xt xg xm xe) (no_truth yn yt ye) = absurd (apart xp yn (judge_one truths s rows t cells.truth_rows (Ok xp) (Err yn) xt yt))
  ticks_one k t s v u (no_marks xp xq xn xt xg xm xe) (no_margin yp yn yt yg ye) = absurd (apart xq yn (judge_one margins s rows t cells.margin_rows (Ok xq) (Err yn) xg yg))
  ticks_one k t s v u (no_marks xp xq xn xt xg xm xe) (no_marks yp yq yn yt yg ym ye) = xe ∙ ap (λ (i : ℕ). refused_line i k) (number xn yn (mark_one truths s rows t cells.truth_rows cells.wants cells.marks (Err xn) (Err yn) xm ym)) ∙ sym ye
  ticks_one k t s v u (no_marks xp xq xn xt xg xm xe) (verdict yp yq yx yt yg ym ye) = absurd (apart yx xn (sym (mark_one truths s rows t cells.truth_rows cells.wants cells.marks (Err xn) (Ok yx) xm ym)))
  ticks_one k t s v u (verdict xp xq xx xt xg xm xe) (no_truth yn yt ye) = absurd (apart xp yn (judge_one truths s rows t cells.truth_rows (Ok xp) (Err yn) xt yt))
  ticks_one k t s v u (verdict xp xq xx xt xg xm xe) (no_margin yp yn yt yg ye) = absurd (apart xq yn (judge_one margins s rows t cells.margin_rows (Ok xq) (Err yn) xg yg))
  ticks_one k t s v u (verdict xp xq xx xt xg xm xe) (no_marks yp yq yn yt yg ym ye) = absurd (apart xx yn (mark_one truths s rows t cells.truth_rows cells.wants cells.marks (Ok xx) (Err yn) xm ym))
  ticks_one k t s v u (verdict xp xq xx xt xg xm xe) (verdict yp yq yx yt yg ym ye) = xe ∙ told t (inner xp yp (judge_one truths s rows t cells.truth_rows (Ok xp) (Ok yp) xt yt)) (inner xq yq (judge_one margins s rows t cells.margin_rows (Ok xq) (Ok yq) xg yg)) (inner xx yx (mark_one truths s rows t cells.truth_rows cells.wants cells.marks (Ok xx) (Ok yx) xm ym)) ∙ sym ye

  enters_one : (k : ℕ) (e : Entry) (s z y : State) (v u : List ℕ) → CarriesEntry k e s z v → CarriesEntry k e s y u → (v ≡ u) × (z ≡ y)
  enters_one k e s z y v u h g =
      let one = job_one s (enter e.line e.from e.to e.lower e.upper) h.reply g.reply z y h.turn g.turn in
      (h.prints ∙ ap (entry_text k) one.reply ∙ sym g.prints, one.end)

  -- a field does one thing
  pub does_one : (k : ℕ) (i : Item) (s z y : State) (v u : List ℕ) → Does cells rows k i s z v → Does cells rows k i s y u → (v ≡ u) × (z ≡ y)
  does_one k i s z y v u (enters e p h) (enters f q g) = enters_one k e s z y v u h (subst (λ (x : Entry). CarriesEntry k x s y u) (same_entry f e (sym q ∙ p)) g)
  does_one k i s z y v u (enters e p h) (ticks t q g j) = absurd (entry_tick e t (sym p ∙ q))
  does_one k i s z y v u (ticks t p h j) (enters e q g) = absurd (entry_tick e t (sym q ∙ p))
  does_one k i s z y v u (ticks t p h j) (ticks r q g l) = (ticks_one k t s v u h (subst (λ (x : ℕ). Ticks cells rows k x s u) (same_tick r t (sym q ∙ p)) g), j ∙ sym l)

  -- and so do the fields one after the other
  lists_one : (n : ℕ) (s : State) (bytes v u : List ℕ) → ListsFields cells rows n s bytes v → ListsFields cells rows n s bytes u → v ≡ u
  lists_one n s bytes v u (ended p e) (ended q f) = e ∙ sym f
  lists_one n s bytes v u (ended p e) (refused x q f) = absurd (step_apart None x (one_step n bytes (Ok None) (Err x) p q))
  lists_one n s bytes v u (ended p e) (does x q d l f) = absurd (none_some x (one_step n bytes (Ok None) (Ok (Some x)) p q))
  lists_one n s bytes v u (refused x p e) (ended q f) = absurd (step_apart None x (one_step n bytes (Ok None) (Err x) q p))
  lists_one n s bytes v u (refused x p e) (refused y q f) = e ∙ ap refusal_line (same_refusal x y (one_step n bytes (Err x) (Err y) p q)) ∙ sym f
  lists_one n s bytes v u (refused x p e) (does y q d l f) = absurd (step_apart (Some y) x (one_step n bytes (Ok (Some y)) (Err x) q p))
  lists_one n s bytes v u (does x p d l e) (ended q f) = absurd (none_some x (one_step n bytes (Ok None) (Ok (Some x)) q p))
  lists_one n s bytes v u (does x p d l e) (refused y q f) = absurd (step_apart (Some x) y (one_step n bytes (Ok (Some x)) (Err y) p q))
  lists_one n s bytes v u (does {after = z} {first = i} {more = j} x p d l e) (does {after = z'} {first = i'} {more = j'} y q d' l' f) =
      let same = same_step y x (one_step n bytes (Ok (Some y)) (Ok (Some x)) q p) in
      let one = does_one x.field x.item s z z' i i' d (subst (λ (o : Stepped). Does cells rows o.field o.item s z' i') same d') in
      let rest = lists_one x.next z x.rest j j' l (subst (λ (y : State). ListsFields cells rows x.next y x.rest j') (sym one.1) (subst (λ (o : Stepped). ListsFields cells rows o.next z' o.rest j') same l')) in
      e ∙ (λ o. one.0 o ++ rest o) ∙ sym f

pub sized_one : (case : List ℕ) (e : CaseRefusal) → Sized case (Ok tt) → Sized case (Err e) → ⊥
sized_one case e h g = omega (arith, h, g.0)

same_fault : (x y : CaseRefusal) → ◌≡◌ {A = Result OpenedCase CaseRefusal} (Err x) (Err y) → x ≡ y
same_fault x y h = cc

pub one_listing : OneListing
one_listing lent case v u (too_long x p e) (too_long y q f) = e ∙ ap refusal_line (p.1 ∙ sym q.1) ∙ sym f
one_listing lent case v u (too_long x p e) (no_heading y q h f) = absurd (sized_one case x q p)
one_listing lent case v u (too_long x p e) (listed o q h l) = absurd (sized_one case x q p)
one_listing lent case v u (no_heading x p g e) (too_long y q f) = absurd (sized_one case y p q)
one_listing lent case v u (no_heading x p g e) (no_heading y q h f) = e ∙ ap refusal_line (same_fault x y (one_opening 1 [] case (Err x) (Err y) g h)) ∙ sym f
one_listing lent case v u (no_heading x p g e) (listed o q h l) = absurd (heading_apart o x (one_opening 1 [] case (Ok o) (Err x) h g))
one_listing lent case v u (listed o p g l) (too_long y q f) = absurd (sized_one case y p q)
one_listing lent case v u (listed o p g l) (no_heading y q h f) = absurd (heading_apart o y (one_opening 1 [] case (Ok o) (Err y) g h))
one_listing lent case v u (listed o p g l) (listed i q h k) =
    let same = same_heading i o (one_opening 1 [] case (Ok i) (Ok o) h g) in
    lists_one lent.cells o.rows o.next (opened (line_count o.lines lent.pieces)) o.rest v u l
    (subst (λ (x : OpenedCase). ListsFields lent.cells x.rows x.next (opened (line_count x.lines lent.pieces)) x.rest u) same k)
