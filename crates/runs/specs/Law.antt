-- The law of runs: what holds of every list of calls on a job just opened, for every family of lawful kinds.
use Rattle.std.specs.Prelude.{◌≡◌, ℕ, ◌<◌, min, List, [], ◌∷◌, ◌++◌, length, slice_index_or}
use Rattle.grades.specs.Kinds.{Kind}
use Rattle.grades.specs.Ranges.{Span, Inside, Holds, Settled}
use Rattle.rules.specs.declared.row.Row.{Row}
use Rattle.pieces.specs.Pieces.{Lists}
use Rattle.meaning.specs.declared.mark.Mark.{Mark}
use Rattle.meaning.specs.Readings.{Readings, Exact, AllWithin, AllExact}
use Rattle.meaning.specs.Verdicts.{exact_grade}
use Rattle.meaning.specs.Marks.{AtMarks}
use Rattle.runs.specs.States.{State, opened, readings_of}
use Rattle.runs.specs.Runs.{Call, Event, Replies, events, Ran, standing, entries, any_seal, Gives, MarksBy, AllMiss}

module _ {N : Type 0} (kinds : N → Kind) where
  -- a list of calls on a job just opened, with the replies that it gets and the state that it ends in
  pub record Run (lines : ℕ) (calls : List (Call kinds)) : Type 0 where
    pub replies : Replies kinds calls
    pub end : State
    pub ran : Ran kinds (opened lines) (events kinds calls replies) end

  -- every list of calls has a run
  abbrev pub SomeRun : Type 0
  SomeRun = (lines : ℕ) (calls : List (Call kinds)) → Run lines calls

  -- and only one
  abbrev pub OneRun : Type 0
  OneRun = (lines : ℕ) (calls : List (Call kinds)) (r s : Run lines calls) → (r.replies ≡ s.replies) × (r.end ≡ s.end)

  -- each state on the way is fixed: the calls up to there lead to it alone, and the others go on from it
  abbrev pub EachState : Type 0
  EachState =
      (lines : ℕ) (before behind : List (Event kinds)) (z : State) →
      Ran kinds (opened lines) (before ++ behind) z → (m : State) × (Ran kinds (opened lines) before m × Ran kinds m behind z × ((w : State) → Ran kinds (opened lines) before w → w ≡ m))

  -- the job's piece lists read exactly what the accepted entries have set
  abbrev pub ReadsEntries : Type 0
  ReadsEntries = (lines : ℕ) (es : List (Event kinds)) (z : State) → Ran kinds (opened lines) es z → (line t : ℕ) → readings_of z line t ≡ standing kinds es line t

  -- the job has the lines that it was opened with, and the pieces of each are the one list of what the accepted entries have set
  abbrev pub KeepsLists : Type 0
  KeepsLists =
      (lines : ℕ) (es : List (Event kinds)) (z : State) → Ran kinds (opened lines) es z → (length z.lines ≡ lines) × ((line : ℕ) → line < lines → Lists (standing kinds es line) (slice_index_or z.lines line []))

  -- the tally is how many entries were accepted, up to where it rests
  abbrev pub CountsEntries : Type 0
  CountsEntries = (lines : ℕ) (es : List (Event kinds)) (z : State) → Ran kinds (opened lines) es z → z.tally ≡ min (entries kinds es) 4294967295

  -- the job is sealed exactly if one of the calls was a seal
  abbrev pub SealsOnce : Type 0
  SealsOnce = (lines : ℕ) (es : List (Event kinds)) (z : State) → Ran kinds (opened lines) es z → z.sealed ≡ any_seal kinds es

  -- a verdict lies inside each earlier one on the same rule, tick and kind
  abbrev pub VerdictsNest : Type 0
  VerdictsNest =
      (lines : ℕ) (z : State) (before between behind : List (Event kinds)) (e f : Event kinds) (n : N) (rows : List Row) (t : ℕ) (p q : Span (kinds n).Value) →
      Ran kinds (opened lines) (before ++ (e ∷ (between ++ (f ∷ behind)))) z → Gives kinds e n rows t p → Gives kinds f n rows t q → Inside (kinds n) q p

  -- a verdict holds the exact grade of each exact job inside the readings standing at its call
  abbrev pub VerdictsHold : Type 0
  VerdictsHold =
      (lines : ℕ) (z : State) (before behind : List (Event kinds)) (e : Event kinds) (n : N) (rows : List Row) (t : ℕ) (p : Span (kinds n).Value) (y : Readings) →
      Ran kinds (opened lines) (before ++ (e ∷ behind)) z → Gives kinds e n rows t p → AllExact y → AllWithin y (standing kinds before) → Holds (kinds n) p (exact_grade (kinds n) rows y t)

  -- a marking gives a verdict of its own
  abbrev pub OwnVerdict : Type 0
  OwnVerdict = (m : Event kinds) (n : N) (rows : List Row) (t : ℕ) (p : Span (kinds n).Value) (ms : List Mark) → MarksBy kinds m n rows t p ms → Gives kinds m n rows t p

  -- and no other
  abbrev pub OwnAlone : Type 0
  OwnAlone =
      (lines : ℕ) (z : State) (before behind : List (Event kinds)) (m : Event kinds) (n : N) (rows : List Row) (t : ℕ) (p q : Span (kinds n).Value) (ms : List Mark) →
      Ran kinds (opened lines) (before ++ (m ∷ behind)) z → MarksBy kinds m n rows t p ms → Gives kinds m n rows t q → q ≡ p

  -- each later verdict is the same while no accepted entry touches a listed stretch
  abbrev pub MarksSuffice : Type 0
  MarksSuffice =
      (lines : ℕ) (z : State) (before between behind : List (Event kinds)) (m f : Event kinds) (n : N) (rows : List Row) (t : ℕ) (p q : Span (kinds n).Value) (ms : List Mark) →
      Ran kinds (opened lines) (before ++ (m ∷ (between ++ (f ∷ behind)))) z → MarksBy kinds m n rows t p ms → Gives kinds f n rows t q → AllMiss kinds rows ms between → q ≡ p

  -- a marking's own verdict is settled if at its call every tick of each listed stretch has a reading with equal ends
  abbrev pub OwnSettled : Type 0
  OwnSettled =
      (lines : ℕ) (z : State) (before behind : List (Event kinds)) (m : Event kinds) (n : N) (rows : List Row) (t : ℕ) (p : Span (kinds n).Value) (ms : List Mark) →
      Ran kinds (opened lines) (before ++ (m ∷ behind)) z → MarksBy kinds m n rows t p ms → AtMarks rows ms (λ line u. Exact (standing kinds before line u)) → Settled (kinds n) p

  -- and so is each later one, if they have at its own call
  abbrev pub MarksSettle : Type 0
  MarksSettle =
      (lines : ℕ) (z : State) (before between behind : List (Event kinds)) (m f : Event kinds) (n : N) (rows : List Row) (t : ℕ) (p q : Span (kinds n).Value) (ms : List Mark) →
      Ran kinds (opened lines) (before ++ (m ∷ (between ++ (f ∷ behind)))) z → MarksBy kinds m n rows t p ms → Gives kinds f n rows t q →
      AtMarks rows ms (λ line u. Exact (standing kinds (before ++ (m ∷ between)) line u)) → Settled (kinds n) q

  -- all of it
  pub record LawOfRuns : Type 0 where
    pub some : SomeRun
    pub one : OneRun
    pub each : EachState
    pub reads : ReadsEntries
    pub lists : KeepsLists
    pub counts : CountsEntries
    pub seals : SealsOnce
    pub nest : VerdictsNest
    pub hold : VerdictsHold
    pub own : OwnVerdict
    pub own_alone : OwnAlone
    pub suffice : MarksSuffice
    pub settle_own : OwnSettled
    pub settle : MarksSettle
