-- Lists of calls on one job, with their answers, judging in any mixture of kinds.
use Rattle.std.specs.Prelude.{◌≡◌, ℕ, ◌+◌, ◌<◌, ◌≤◌, Bool, true, false, ◌||◌, List, [], ◌∷◌, Some, None, Option, IfSome, Ok, Result}
use Rattle.grades.specs.Kinds.{Kind}
use Rattle.grades.specs.Ranges.{Span}
use Rattle.rules.specs.declared.row.Row.{Row}
use Rattle.rules.specs.Rows.{row_at}
use Rattle.meaning.specs.declared.mark.Mark.{Mark}
use Rattle.meaning.specs.declared.reading.Reading.{Reading}
use Rattle.meaning.specs.Readings.{Readings, widest, entered}
use Rattle.rules.specs.Tested.{Tests}
use Rattle.meaning.specs.Marks.{Listed}
use Rattle.runs.specs.States.{State, made}
use Rattle.runs.specs.Jobs.{JobCall, enter, seal, JobAnswer, JobTurn}
use Rattle.runs.specs.Calls.{RuleRows, MarkedVerdict, JudgeTurn, MarkTurn}

-- what an accepted entry sets: the line's reading at each tick from one to the tick before another
pub record Setting : Type 0 where
  pub line : ℕ
  pub from : ℕ
  pub to : ℕ
  pub reading : Reading

-- the readings x, with what is set, if anything is
abbrev pub with_setting : Readings → Option Setting → Readings
with_setting x None = x
with_setting x (Some w) = entered x w.line w.from w.to w.reading

-- 1 if something is set
abbrev pub setting_count : Option Setting → ℕ
setting_count None = 0
setting_count (Some w) = 1

-- what is set sets the line of a listed row at one of the stretch's ticks
pub record Touches (rows : List Row) (ms : List Mark) (w : Setting) : Type 0 where
  pub row : ℕ
  pub tick : ℕ
  pub listed : Listed ms row tick
  pub tests : Tests (row_at rows row) w.line
  pub begins : w.from ≤ tick
  pub ends : tick < w.to

-- names of kinds, and the kind that each stands for
module _ {N : Type 0} (kinds : N → Kind) where
  -- a call, with the numbers of cells that it was lent
  pub data Call : Type 0 where
    on_job : JobCall → Call
    judge : N → RuleRows → (tick cells : ℕ) → Call
    mark : N → RuleRows → (tick row_cells want_cells mark_cells : ℕ) → Call

  -- what the call may answer: a refusal has a number
  abbrev pub Reply : Call → Type 0
  Reply (on_job c) = Result JobAnswer ℕ
  Reply (judge n a t c) = Result (Span (kinds n).Value) ℕ
  Reply (mark n a t c w m) = Result (MarkedVerdict (kinds n)) ℕ

  -- a call with its reply
  pub data Event : Type 0 where
    event : (c : Call) → Reply c → Event

  -- a reply for each call of a list
  abbrev pub Replies : List Call → Type 0
  Replies [] = Unit {0}
  Replies (c ∷ cs) = Reply c × Replies cs

  abbrev pub events : (cs : List Call) → Replies cs → List Event
  events [] rs = []
  events (c ∷ cs) rs = event c rs.0 ∷ events cs rs.1

  -- the event leads from the state s to the state z; judging and marking leave the job as it is
  abbrev pub Turn : State → Event → State → Type 0
  Turn s (event (on_job c) r) z = JobTurn s c r z
  Turn s (event (judge n a t c) r) z = JudgeTurn (kinds n) s a.rows t c r × (z ≡ s)
  Turn s (event (mark n a t c w m) r) z = MarkTurn (kinds n) s a.rows t c w m r × (z ≡ s)

  -- the events lead from s to z, one after the other
  abbrev pub Ran : State → List Event → State → Type 0
  Ran s [] z = z ≡ s
  Ran s (e ∷ es) z = (m : State) × (Turn s e m × Ran m es z)

  -- what the event sets: an accepted entry sets its reading, and nothing else sets any
  abbrev pub sets : Event → Option Setting
  sets (event (on_job (enter line from to lower upper)) (Ok a)) = Some (record { line = line; from = from; to = to; reading = made lower upper })
  sets e = None

  -- the readings x, with what the event sets
  abbrev pub after : Readings → Event → Readings
  after x e = with_setting x (sets e)

  abbrev pub after_all : Readings → List Event → Readings
  after_all x [] = x
  after_all x (e ∷ es) = after_all (after x e) es

  -- the readings standing after the events: the widest everywhere, with those of the accepted entries set in turn
  abbrev pub standing : List Event → Readings
  standing es = after_all (λ line t. widest) es

  -- how many of the events are accepted entries
  abbrev pub entries : List Event → ℕ
  entries [] = 0
  entries (e ∷ es) = setting_count (sets e) + entries es

  -- the event is a seal
  abbrev pub is_seal : Event → Bool
  is_seal (event (on_job seal) r) = true
  is_seal e = false

  -- one of the events is a seal
  abbrev pub any_seal : List Event → Bool
  any_seal [] = false
  any_seal (e ∷ es) = is_seal e || any_seal es

  -- the event is an accepted judgement or marking by the kind n of these rows at the tick t, and p is its verdict
  pub data Gives : Event → (n : N) → List Row → ℕ → Span (kinds n).Value → Type 0 where
    by_judge : {n : N} {t : ℕ} {rows : List Row} {p : Span (kinds n).Value} (a : RuleRows) (c : ℕ) → a.rows ≡ rows → Gives (event (judge n a t c) (Ok p)) n rows t p
    by_mark : {n : N} {t : ℕ} {rows : List Row} (a : RuleRows) (c w k : ℕ) (m : MarkedVerdict (kinds n)) → a.rows ≡ rows → Gives (event (mark n a t c w k) (Ok m)) n rows t m.verdict

  -- the event is an accepted marking, and ms are its marks
  pub data MarksBy : Event → (n : N) → List Row → ℕ → Span (kinds n).Value → List Mark → Type 0 where
    marked : {n : N} {t : ℕ} {rows : List Row} (a : RuleRows) (c w k : ℕ) (m : MarkedVerdict (kinds n)) → a.rows ≡ rows → MarksBy (event (mark n a t c w k) (Ok m)) n rows t m.verdict m.marks

  -- the event is no accepted entry that touches a listed stretch
  abbrev pub Misses : List Row → List Mark → Event → Type 0
  Misses rows ms e = IfSome (sets e) (λ w. Touches rows ms w → ⊥)

  abbrev pub AllMiss : List Row → List Mark → List Event → Type 0
  AllMiss rows ms [] = Unit {0}
  AllMiss rows ms (e ∷ es) = Misses rows ms e × AllMiss rows ms es
