-- What one call does to the job, and what becomes of it along a run.
use Rattle.std.proofs.Common.{◌≡◌, ℕ, zero, suc, ◌<◌, ◌≤◌, Bool, true, false, ◌||◌, List, [], ◌∷◌, ◌++◌, length, get_or, replicate, ℤ, Some, None, Option, Ok, Err, sym, refl, ap, ◌∙◌, subst, arith}
use Rattle.std.proofs.lemmas.Int.{ints, clamps}
use Rattle.grades.specs.Kinds.{Kind}
use Rattle.rules.specs.declared.row.Row.{Row}
use Rattle.rules.specs.Rows.{row_at}
use Rattle.pieces.specs.Pieces.{Lists}
use Rattle.meaning.specs.declared.reading.Reading.{Reading}
use Rattle.meaning.specs.declared.mark.Mark.{Mark}
use Rattle.meaning.specs.Readings.{Readings, ReadingEnds, ReadingWith, widest, Within, AllWithin, entered}
use Rattle.rules.specs.Tested.{Tests}
use Rattle.meaning.specs.Marks.{Listed}
use Rattle.meaning.proofs.Readings.{reading_same}
use Rattle.runs.specs.States.{State, reading_at, readings_of, made, blank, opened}
use Rattle.runs.specs.Conditions.{FirstFailing}
use Rattle.runs.specs.Jobs.{enter, known, tally, seal, JobAnswer, Narrows, FitsLine, enter_asks, job_asks, JobTurn}
use Rattle.runs.specs.Runs.{on_job, judge, mark, Setting, Event, event, Turn, Ran, sets, after, after_all, is_seal, AllMiss}
use Rattle.runs.proofs.Conditions.{all_hold}
use Rattle.runs.proofs.Settings.{SetBetween, within_refl, within_trans, set_reads, setting_same, set_narrows, set_misses, EndsAt, set_ends}

-- what an accepted entry keeps
pub record Passed (s : State) (line from to : ℕ) (lower upper : ℤ) : Type 0 where
  pub unsealed : s.sealed ≡ false
  pub there : line < length s.lines
  pub stretch : (from < to) × (to ≤ 1000000001)
  pub ends : ReadingEnds lower upper
  pub narrows : Narrows s line from to lower upper
  pub room : FitsLine s line from to lower upper

pub entry_passes : (s : State) (line from to : ℕ) (lower upper : ℤ) → FirstFailing (enter_asks s line from to lower upper) None → Passed s line from to lower upper
entry_passes s line from to lower upper h = by (all_hold (enter_asks s line from to lower upper) h)
  where
    by : (s.sealed ≡ false) × ((line < length s.lines) × (((from < to) × (to ≤ 1000000001)) × (ReadingEnds lower upper × (Narrows s line from to lower upper × (FitsLine s line from to lower upper × Unit {0}))))) → Passed s line from to lower upper
    by (a, (b, (c, (d, (e, (f, u)))))) = record { unsealed = a; there = b; stretch = c; ends = d; narrows = e; room = f }

-- the reading that an entry names
pub made_is : (lower upper : ℤ) (p : Reading) → ReadingWith lower upper (Some p) → p ≡ made lower upper
made_is lower upper p h =
    let a = h.0 in
    let b = h.1 in
    let f = p.bottom in
    let g = p.top in
    let o = p.ordered in
    reading_same p (made lower upper) (omega (arith, ints, clamps)) (omega (arith, ints, clamps))

-- what a turn does to the job, by what its event sets and by whether it is a seal
pub record Turned (s : State) (w : Option Setting) (seals : Bool) (z : State) : Type 0 where
  pub between : SetBetween s w z
  pub sealed : z.sealed ≡ (s.sealed || seals)

pub or_false : (b : Bool) → b ≡ (b || false)
or_false true = refl
or_false false = refl

or_true : (b : Bool) → true ≡ (b || true)
or_true true = refl
or_true false = refl

unchanged : (s z : State) → z ≡ s → Turned s None false z
unchanged s z e = subst (λ (v : State). Turned s None false v) (sym e) (record { between = record { lines = refl; tally = refl }; sealed = or_false s.sealed })

entry_turned : (s z : State) (line from to : ℕ) (lower upper : ℤ) (a : JobAnswer) → JobTurn s (enter line from to lower upper) (Ok a) z → Turned s (Some (record { line = line; from = from; to = to; reading = made lower upper })) false z
entry_turned s z line from to lower upper a h =
    let ok = entry_passes s line from to lower upper h.0 in
    let p = h.1.1.0 in
    let ps = h.1.1.1.0 in
    let is = h.1.1.1.1 in
    let named : p ≡ made lower upper = made_is lower upper p is.0.0 in
    record {
      between = record {
        there = ok.there;
        far = ok.stretch.1;
        narrows = λ u b c. subst (λ (r : Reading). Within r (readings_of s line u)) named (ok.narrows p is.0.0 u b c);
        pieces = ps;
        listed = subst (λ (r : Reading). Lists (entered (readings_of s) line from to r line) ps) named is.0.1;
        lines = ap (λ (v : State). v.lines) is.1;
        tally = ap (λ (v : State). v.tally) is.1;
      };
      sealed = ap (λ (v : State). v.sealed) is.1 ∙ or_false s.sealed;
    }

sealed_turned : (s z : State) → z ≡ record s { sealed = true } → Turned s None true z
sealed_turned s z e = record { between = record { lines = ap (λ (v : State). v.lines) e; tally = ap (λ (v : State). v.tally) e }; sealed = ap (λ (v : State). v.sealed) e ∙ or_true s.sealed }

-- a seal is never turned down
seal_passes : (s : State) (n : ℕ) → FirstFailing (job_asks s seal) (Some n) → ⊥
seal_passes s n h = let z : ◌≡◌ {A = ℕ} 0 1 = cc in omega arith

module _ {N : Type 0} (kinds : N → Kind) where
  pub turned : (s z : State) (e : Event kinds) → Turn kinds s e z → Turned s (sets kinds e) (is_seal kinds e) z
  turned s z (event (on_job (enter line from to lower upper)) (Ok a)) h = entry_turned s z line from to lower upper a h
  turned s z (event (on_job (enter line from to lower upper)) (Err n)) h = unchanged s z h.1
  turned s z (event (on_job (known line)) (Ok a)) h = unchanged s z h.1.1.2
  turned s z (event (on_job (known line)) (Err n)) h = unchanged s z h.1
  turned s z (event (on_job tally) (Ok a)) h = unchanged s z h.1.1
  turned s z (event (on_job tally) (Err n)) h = unchanged s z h.1
  turned s z (event (on_job seal) (Ok a)) h = sealed_turned s z h.1.1
  turned s z (event (on_job seal) (Err n)) h = absurd (seal_passes s n h.0)
  turned s z (event (judge n a t c) r) h = unchanged s z h.1
  turned s z (event (mark n a t c w m) r) h = unchanged s z h.1

  pub turn_sets : (s z : State) (e : Event kinds) → Turn kinds s e z → SetBetween s (sets kinds e) z
  turn_sets s z e h = (turned s z e h).between

  same_state : (s z : State) → z ≡ s → (k t : ℕ) → readings_of z k t ≡ readings_of s k t
  same_state s z e k t = ap (λ (v : State). readings_of v k t) e

  after_all_same : (x y : Readings) (es : List (Event kinds)) → ((k t : ℕ) → x k t ≡ y k t) → (k t : ℕ) → after_all kinds x es k t ≡ after_all kinds y es k t
  after_all_same x y [] h k t = h k t
  after_all_same x y (e ∷ es) h k t = after_all_same (after kinds x e) (after kinds y e) es (setting_same x y (sets kinds e) h) k t

  -- the last state's readings are those that the events set
  ran_reads : (s z : State) (es : List (Event kinds)) → Ran kinds s es z → (k t : ℕ) → readings_of z k t ≡ after_all kinds (readings_of s) es k t
  ran_reads s z [] h k t = same_state s z h k t
  ran_reads s z (e ∷ es) h k t =
      ran_reads h.0 z es h.1.1 k t ∙ after_all_same (readings_of h.0) (after kinds (readings_of s) e) es (set_reads s (sets kinds e) h.0 (turn_sets s h.0 e h.1.0)) k t

  -- a job just opened knows nothing
  blank_lines : (n line t : ℕ) → reading_at (get_or (replicate n blank) line []) t ≡ widest
  blank_lines zero line t = refl
  blank_lines (suc n) zero t = refl
  blank_lines (suc n) (suc line) t = blank_lines n line t

  pub opened_reads : (lines : ℕ) (z : State) (es : List (Event kinds)) → Ran kinds (opened lines) es z → (k t : ℕ) → readings_of z k t ≡ after_all kinds (λ line u. widest) es k t
  opened_reads lines z es h k t = ran_reads (opened lines) z es h k t ∙ after_all_same (readings_of (opened lines)) (λ line u. widest) es (blank_lines lines) k t

  pub turn_narrows : (s z : State) (e : Event kinds) → Turn kinds s e z → AllWithin (readings_of z) (readings_of s)
  turn_narrows s z e h = set_narrows s (sets kinds e) z (turn_sets s z e h)

  pub ran_narrows : (s z : State) (es : List (Event kinds)) → Ran kinds s es z → AllWithin (readings_of z) (readings_of s)
  ran_narrows s z [] h k t = subst (λ (v : State). Within (readings_of v k t) (readings_of s k t)) (sym h) (within_refl (readings_of s k t))
  ran_narrows s z (e ∷ es) h k t = within_trans _ _ _ (ran_narrows h.0 z es h.1.1 k t) (turn_narrows s h.0 e h.1.0 k t)

  pub turn_ends : (e : ℕ) → 1000000001 ≤ e → (s z : State) (v : Event kinds) → Turn kinds s v z → EndsAt e s → EndsAt e z
  turn_ends e far s z v h ends = set_ends e far s (sets kinds v) z (turn_sets s z v h) ends

  -- readings of listed stretches stay while no accepted entry touches them
  pub ran_keeps : (s z : State) (es : List (Event kinds)) (rows : List Row) (ms : List Mark) → Ran kinds s es z → AllMiss kinds rows ms es → (k line u : ℕ) → Listed ms k u → Tests (row_at rows k) line → readings_of z line u ≡ readings_of s line u
  ran_keeps s z [] rows ms h miss k line u l t = same_state s z h line u
  ran_keeps s z (e ∷ es) rows ms h miss k line u l t =
      ran_keeps h.0 z es rows ms h.1.1 miss.1 k line u l t ∙ set_reads s (sets kinds e) h.0 (turn_sets s h.0 e h.1.0) line u ∙ set_misses (readings_of s) (sets kinds e) rows ms miss.0 k line u l t

  -- a run in two parts
  pub ran_split : (s z : State) (es fs : List (Event kinds)) → Ran kinds s (es ++ fs) z → (m : State) × (Ran kinds s es m × Ran kinds m fs z)
  ran_split s z [] fs h = (s, (refl, h))
  ran_split s z (e ∷ es) fs h = let r = ran_split h.0 z es fs h.1.1 in (r.0, ((h.0, (h.1.0, r.1.0)), r.1.1))

  -- and two parts one run
  pub ran_join : (s m z : State) (es fs : List (Event kinds)) → Ran kinds s es m → Ran kinds m fs z → Ran kinds s (es ++ fs) z
  ran_join s m z [] fs h k = subst (λ (v : State). Ran kinds v fs z) h k
  ran_join s m z (e ∷ es) fs h k = (h.0, (h.1.0, ran_join h.0 m z es fs h.1.1 k))
