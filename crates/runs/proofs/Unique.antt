-- A list of calls has one run at most.
use Rattle.std.proofs.Common.{◌≡◌, ℕ, ◌<◌, Bool, true, false, ltb, ◌⊎◌, List, [], ◌∷◌, ◌++◌, set, Some, None, Ok, Err, Result, sym, refl, ap, ◌∙◌, subst, inl, inr, arith, ltb-false, ltb-true}
use Rattle.grades.specs.Kinds.{Kind}
use Rattle.grades.specs.Ranges.{Span}
use Rattle.pieces.specs.declared.piece.Piece.{Piece}
use Rattle.pieces.specs.Pieces.{Lists}
use Rattle.pieces.proofs.Chains.{only_one}
use Rattle.meaning.specs.declared.reading.Reading.{Reading}
use Rattle.meaning.specs.Readings.{Readings, entered}
use Rattle.meaning.specs.Marks.{Marked}
use Rattle.meaning.proofs.Pinned.{lists_same}
use Rattle.runs.specs.States.{State, opened, readings_of}
use Rattle.runs.specs.Jobs.{JobCall, enter, known, tally, seal, JobAnswer, first_unknown, counted, FirstUnknown, job_asks, JobDoes, JobTurn}
use Rattle.runs.specs.Calls.{RuleRows, MarkedVerdict, judge_asks, mark_asks, JudgeTurn, MarkTurn}
use Rattle.runs.specs.Runs.{Call, on_job, judge, mark, Reply, Event, event, Replies, events, Turn, Ran}
use Rattle.runs.specs.Law.{Run}
use Rattle.runs.proofs.Conditions.{one_failing}
use Rattle.runs.proofs.Turns.{made_is, ran_split}

never : {X : Type 0} (n : ℕ) → None ≡ Some n → X
never n e = let z : ◌≡◌ {A = ℕ} 0 1 = cc in absurd (omega arith)

same_number : (m n : ℕ) → Some m ≡ Some n → m ≡ n
same_number m n e = cc

-- a call has one reply and one end
pub record Same {R : Type 0} (r q : R) (z y : State) : Type 0 where
  pub reply : r ≡ q
  pub end : z ≡ y

nat_order : (t u : ℕ) → (t < u) ⊎ ((u < t) ⊎ (t ≡ u))
nat_order t u =
    elim (ltb t u) as (λ (b : Bool). ltb t u ≡ b → (t < u) ⊎ ((u < t) ⊎ (t ≡ u))) [
      | true ↦ λ e. inl (ltb-true t u e)
      | false ↦ λ e.
          elim (ltb u t) as (λ (b : Bool). ltb u t ≡ b → (t < u) ⊎ ((u < t) ⊎ (t ≡ u))) [
            | true ↦ λ f. inr (inl (ltb-true u t f))
            | false ↦ λ f. inr (inr (omega (arith, ltb-false t u e, ltb-false u t f)))
          ] refl
    ] refl

one_tick : (x : Readings) (line t u : ℕ) → FirstUnknown x line t → FirstUnknown x line u → t ≡ u
one_tick x line t u h k =
    elim (nat_order t u) [
      | inl lt ↦ absurd (k.before t lt h.here)
      | inr (inl lt) ↦ absurd (h.before u lt k.here)
      | inr (inr e) ↦ e
    ]

does_one : (s : State) (c : JobCall) (a b : JobAnswer) (z y : State) → JobDoes s c a z → JobDoes s c b y → (a ≡ b) × (z ≡ y)
does_one s (enter line from to lower upper) a b z y h k =
    let p = h.1.0 in
    let q = k.1.0 in
    let ps = h.1.1.0 in
    let qs = k.1.1.0 in
    let hs = h.1.1.1 in
    let ks = k.1.1.1 in
    let same : p ≡ q = made_is lower upper p hs.0.0 ∙ sym (made_is lower upper q ks.0.0) in
    let f : Reading → ℕ → Reading = λ r. entered (readings_of s) line from to r line in
    let pieces : ps ≡ qs = only_one Reading (f q) ps qs (subst (λ (r : Reading). Lists (f r) ps) same hs.0.1) ks.0.1 in
    (h.0 ∙ sym k.0, hs.1 ∙ ap (λ (v : List (Piece Reading)). record s { lines = set s.lines line v; tally = counted s.tally }) pieces ∙ sym ks.1)
does_one s (known line) a b z y h k =
    (h.1.1 ∙ ap first_unknown (one_tick (readings_of s) line h.0 k.0 h.1.0 k.1.0) ∙ sym k.1.1, h.1.2 ∙ sym k.1.2)
does_one s tally a b z y h k = (h.0 ∙ sym k.0, h.1 ∙ sym k.1)
does_one s seal a b z y h k = (h.0 ∙ sym k.0, h.1 ∙ sym k.1)

pub job_one : (s : State) (c : JobCall) (r q : Result JobAnswer ℕ) (z y : State) → JobTurn s c r z → JobTurn s c q y → Same r q z y
job_one s c (Ok a) (Ok b) z y h k = let d = does_one s c a b z y h.1 k.1 in record { reply = ap (λ (v : JobAnswer). Ok v) d.0; end = d.1 }
job_one s c (Ok a) (Err n) z y h k = never n (one_failing (job_asks s c) None (Some n) h.0 k.0)
job_one s c (Err n) (Ok b) z y h k = never n (one_failing (job_asks s c) None (Some n) k.0 h.0)
job_one s c (Err m) (Err n) z y h k =
    record { reply = ap (λ (v : ℕ). Err v) (same_number m n (one_failing (job_asks s c) (Some m) (Some n) h.0 k.0)); end = h.1 ∙ sym k.1 }

pub judge_one : (K : Kind) (s : State) (a : RuleRows) (t c : ℕ) (r q : Result (Span K.Value) ℕ) → JudgeTurn K s a.rows t c r → JudgeTurn K s a.rows t c q → r ≡ q
judge_one K s a t c (Ok p) (Ok q) h k = ap (λ (v : Span K.Value). Ok v) (h.1 ∙ sym k.1)
judge_one K s a t c (Ok p) (Err n) h k = never n (one_failing (judge_asks K s a.rows t c []) None (Some n) h.0 k)
judge_one K s a t c (Err n) (Ok q) h k = never n (one_failing (judge_asks K s a.rows t c []) None (Some n) k.0 h)
judge_one K s a t c (Err m) (Err n) h k = ap (λ (v : ℕ). Err v) (same_number m n (one_failing (judge_asks K s a.rows t c []) (Some m) (Some n) h k))

pub mark_one : (K : Kind) (s : State) (a : RuleRows) (t c w m : ℕ) (r q : Result (MarkedVerdict K) ℕ) → MarkTurn K s a.rows t c w m r → MarkTurn K s a.rows t c w m q → r ≡ q
mark_one K s a t c w m (Ok p) (Ok q) h k =
    let v = h.1 ∙ sym k.1 in
    let ms = lists_same {P = Marked K a.rows (readings_of s) t} p.marks q.marks h.2 k.2 in
    λ i. Ok (record { verdict = v i; marks = ms i })
mark_one K s a t c w m (Ok p) (Err n) h k = never n (one_failing (judge_asks K s a.rows t c (mark_asks K s a.rows t w m)) None (Some n) h.0 k)
mark_one K s a t c w m (Err n) (Ok q) h k = never n (one_failing (judge_asks K s a.rows t c (mark_asks K s a.rows t w m)) None (Some n) k.0 h)
mark_one K s a t c w m (Err i) (Err j) h k = ap (λ (v : ℕ). Err v) (same_number i j (one_failing (judge_asks K s a.rows t c (mark_asks K s a.rows t w m)) (Some i) (Some j) h k))

module _ {N : Type 0} (kinds : N → Kind) where
  pub turn_one : (s : State) (c : Call kinds) (r q : Reply kinds c) (z y : State) → Turn kinds s (event c r) z → Turn kinds s (event c q) y → Same r q z y
  turn_one s (on_job c) r q z y h k = job_one s c r q z y h k
  turn_one s (judge n a t c) r q z y h k = record { reply = judge_one (kinds n) s a t c r q h.0 k.0; end = h.1 ∙ sym k.1 }
  turn_one s (mark n a t c w m) r q z y h k = record { reply = mark_one (kinds n) s a t c w m r q h.0 k.0; end = h.1 ∙ sym k.1 }

  pub ran_one : (s : State) (cs : List (Call kinds)) (rs qs : Replies kinds cs) (z y : State) → Ran kinds s (events kinds cs rs) z → Ran kinds s (events kinds cs qs) y → Same rs qs z y
  ran_one s [] rs qs z y h k = record { reply = refl; end = h ∙ sym k }
  ran_one s (c ∷ cs) rs qs z y h k =
      let one = turn_one s c rs.0 qs.0 h.0 k.0 h.1.0 k.1.0 in
      let more = ran_one k.0 cs rs.1 qs.1 z y (subst (λ (v : State). Ran kinds v (events kinds cs rs.1) z) one.end h.1.1) k.1.1 in
      record { reply = λ i. (one.reply i, more.reply i); end = more.end }

  pub run_one : (lines : ℕ) (cs : List (Call kinds)) (r q : Run kinds lines cs) → (r.replies ≡ q.replies) × (r.end ≡ q.end)
  run_one lines cs r q = let s = ran_one (opened lines) cs r.replies q.replies r.end q.end r.ran q.ran in (s.reply, s.end)

  -- events lead to one state at most
  end_one : (s z y : State) (es : List (Event kinds)) → Ran kinds s es z → Ran kinds s es y → z ≡ y
  end_one s z y [] h k = h ∙ sym k
  end_one s z y (event c r ∷ es) h k = end_one k.0 z y es (subst (λ (v : State). Ran kinds v es z) (turn_one s c r r h.0 k.0 h.1.0 k.1.0).end h.1.1) k.1.1

  pub each : (lines : ℕ) (before behind : List (Event kinds)) (z : State) → Ran kinds (opened lines) (before ++ behind) z → (m : State) × (Ran kinds (opened lines) before m × Ran kinds m behind z × ((w : State) → Ran kinds (opened lines) before w → w ≡ m))
  each lines before behind z h = let r = ran_split kinds (opened lines) z before behind h in (r.0, (r.1.0, r.1.1, λ w k. end_one (opened lines) w r.0 before k r.1.0))
