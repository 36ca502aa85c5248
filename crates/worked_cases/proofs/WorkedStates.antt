-- The job's states along the worked case, and the entries that lead from one to the next.
use Rattle.std.proofs.Common.{◌≡◌, ℕ, zero, suc, ◌<◌, ◌≤◌, true, false, cond, ◌⊎◌, List, [], ◌∷◌, ℤ, ◌≤ℤ◌, pos, negsuc, Some, Ok, Err, sym, refl, ap, ◌∙◌, subst, inl, inr, arith, le-leb, ◌≢◌}
use Rattle.std.proofs.lemmas.Int.{ints}
use Rattle.std.specs.Prelude.{int_le}
use borrow.Author.Tests.{clash}
use lib.Signed.{le_z_yes}
use mathlib.Core.Path.{fun_ext}
use Rattle.pieces.specs.declared.piece.Piece.{Piece}
use Rattle.pieces.specs.Pieces.{at_from, last_from, Lists}
use Rattle.meaning.specs.declared.reading.Reading.{Reading}
use Rattle.meaning.specs.Readings.{Readings, ReadingEnds, ReadingWith, widest, Within, entered}
use Rattle.meaning.specs.Cases.{reading_with, nothing_entered, forecast, refined}
use Rattle.meaning.proofs.Readings.{entered_elsewhere}
use Rattle.runs.specs.Jobs.{accepted, enter, Narrows, FitsLine, enter_asks, JobTurn}
use Rattle.runs.specs.States.{State, reading_at, readings_of, opened}
use Rattle.runs.proofs.Conditions.{none_failing}
use Rattle.worked_cases.proofs.TenTicks.{each_tick}
use Rattle.worked_cases.proofs.ShortLists.{short_list}
use Rattle.worked_cases.proofs.GuardLists.{WidestFromTen}

abbrev hot_wide : Reading
hot_wide = reading_with (pos 1750) (pos 1900) tt tt tt tt tt

abbrev hot_fine : Reading
hot_fine = reading_with (pos 1800) (pos 1850) tt tt tt tt tt

abbrev hot_wider : Reading
hot_wider = reading_with (pos 1700) (pos 1900) tt tt tt tt tt

abbrev dry : Reading
dry = reading_with (pos 0) (pos 0) tt tt tt tt tt

abbrev flowing : Reading
flowing = reading_with (pos 0) (pos 40) tt tt tt tt tt

abbrev piece_from : ℕ → Reading → Piece Reading
piece_from n r = record { start = n; value = r }

abbrev nothing_known : List (Piece Reading)
nothing_known = piece_from 0 widest ∷ []

abbrev hot_known : List (Piece Reading)
hot_known = piece_from 0 hot_wide ∷ piece_from 10 widest ∷ []

abbrev hot_known_finer : List (Piece Reading)
hot_known_finer = piece_from 0 hot_wide ∷ piece_from 2 hot_fine ∷ piece_from 4 hot_wide ∷ piece_from 10 widest ∷ []

abbrev dry_known : List (Piece Reading)
dry_known = piece_from 0 dry ∷ piece_from 2 widest ∷ []

abbrev flow_known : List (Piece Reading)
flow_known = piece_from 0 dry ∷ piece_from 2 flowing ∷ piece_from 10 widest ∷ []

abbrev pub state_of_lines : List (Piece Reading) → List (Piece Reading) → ℕ → State
state_of_lines hot flow count = record { lines = hot ∷ flow ∷ []; tally = count; sealed = false }

abbrev pub just_opened : State
just_opened = opened 2

abbrev pub hot_entered : State
hot_entered = state_of_lines hot_known nothing_known 1

abbrev pub dry_entered : State
dry_entered = state_of_lines hot_known dry_known 2

abbrev pub flow_entered : State
flow_entered = state_of_lines hot_known flow_known 3

abbrev pub finer_entered : State
finer_entered = state_of_lines hot_known_finer flow_known 4

-- two readings of which one end is on two sides of a number
lower_apart : (z : ℤ) (p q : Reading) → int_le p.lower z ≡ true → int_le q.lower z ≡ false → p ≢ q
lower_apart z p q a b e = clash (sym b ∙ ap (λ (r : Reading). int_le r.lower z) (sym e) ∙ a)

upper_apart : (z : ℤ) (p q : Reading) → int_le p.upper z ≡ true → int_le q.upper z ≡ false → p ≢ q
upper_apart z p q a b e = clash (sym b ∙ ap (λ (r : Reading). int_le r.upper z) (sym e) ∙ a)

-- behind the last start a list stays as it is
abbrev StartBy : ℕ → List (Piece Reading) → Type 0
StartBy t [] = Unit {0}
StartBy t (p ∷ ps) = (p.start ≤ t) × StartBy t ps

late_reads : (v : Reading) (ps : List (Piece Reading)) (t : ℕ) → StartBy t ps → at_from v ps t ≡ last_from v ps
late_reads v [] t h = refl
late_reads v (p ∷ ps) t h = ap (λ b. cond b (at_from p.value ps t) v) (le-leb p.start t h.0) ∙ late_reads p.value ps t h.1

just_late : WidestFromTen (readings_of just_opened)
just_late zero t h = refl
just_late (suc zero) t h = refl
just_late (suc (suc line)) t h = refl

hot_late : WidestFromTen (readings_of hot_entered)
hot_late zero t h = late_reads hot_wide (piece_from 10 widest ∷ []) t (h, tt)
hot_late (suc zero) t h = refl
hot_late (suc (suc line)) t h = refl

dry_late : WidestFromTen (readings_of dry_entered)
dry_late zero t h = late_reads hot_wide (piece_from 10 widest ∷ []) t (h, tt)
dry_late (suc zero) t h = late_reads dry (piece_from 2 widest ∷ []) t (omega arith, tt)
dry_late (suc (suc line)) t h = refl

-- nothing is known from tick 10 on
pub flow_late : WidestFromTen (readings_of flow_entered)
flow_late zero t h = late_reads hot_wide (piece_from 10 widest ∷ []) t (h, tt)
flow_late (suc zero) t h = late_reads dry (piece_from 2 flowing ∷ piece_from 10 widest ∷ []) t (omega arith, (h, tt))
flow_late (suc (suc line)) t h = refl

pub finer_late : WidestFromTen (readings_of finer_entered)
finer_late zero t h = late_reads hot_wide (piece_from 2 hot_fine ∷ piece_from 4 hot_wide ∷ piece_from 10 widest ∷ []) t (omega arith, (omega arith, (h, tt)))
finer_late (suc zero) t h = late_reads dry (piece_from 2 flowing ∷ piece_from 10 widest ∷ []) t (omega arith, (h, tt))
finer_late (suc (suc line)) t h = refl

-- nor where an entry ends by then
entered_late : (s : State) → WidestFromTen (readings_of s) → (line from to : ℕ) (p : Reading) → to ≤ 10 → (t : ℕ) → 10 ≤ t → entered (readings_of s) line from to p line t ≡ widest
entered_late s late line from to p few t h = entered_elsewhere (readings_of s) line from to p line t (inr (inr (omega arith))) ∙ late line t h

inside_widest : (p : Reading) → Within p widest
inside_widest p = record { lower = p.bottom.0; upper = p.top.1 }

ends_inside : (l u : ℤ) (p q : Reading) → ReadingWith l u (Some p) → q.lower ≤ℤ l → u ≤ℤ q.upper → Within p q
ends_inside l u p q r a b = record { lower = subst (λ z. q.lower ≤ℤ z) (sym r.0) a; upper = subst (λ z. z ≤ℤ q.upper) (sym r.1) b }

hot_lists : Lists (entered (readings_of just_opened) 0 0 10 hot_wide 0) hot_known
hot_lists = ((refl, (omega arith, λ e. lower_apart (pos 0) widest hot_wide refl refl (sym e), tt)), each_tick (λ t. reading_at hot_known t ≡ entered (readings_of just_opened) 0 0 10 hot_wide 0 t) refl refl refl refl refl refl refl refl refl refl (λ t h. hot_late 0 t h ∙ sym (entered_late just_opened just_late 0 0 10 hot_wide (omega arith) t h)))

hot_ends : ReadingEnds (pos 1750) (pos 1900)
hot_ends = ((le_z_yes tt, le_z_yes tt), (le_z_yes tt, le_z_yes tt), le_z_yes tt)

hot_narrows : Narrows just_opened 0 0 10 (pos 1750) (pos 1900)
hot_narrows p r u a b = inside_widest p

hot_fits : FitsLine just_opened 0 0 10 (pos 1750) (pos 1900)
hot_fits p ps h =
    let f : ℕ → Reading = entered (readings_of just_opened) 0 0 10 p 0 in
    let past = entered_late just_opened just_late 0 0 10 p (omega arith) in
    let short = short_list f 10 (λ t b. past t b ∙ sym (past 10 (omega arith))) ps h.1 in
    omega arith

pub hot_turn : JobTurn just_opened (enter 0 0 10 (pos 1750) (pos 1900)) (Ok accepted) hot_entered
hot_turn = (
  none_failing (enter_asks just_opened 0 0 10 (pos 1750) (pos 1900)) (refl, (omega arith, ((omega arith, omega arith), (hot_ends, (hot_narrows, (hot_fits, tt)))))),
  (refl, (hot_wide, (hot_known, (((refl, refl), hot_lists), refl)))),
)

dry_lists : Lists (entered (readings_of hot_entered) 1 0 2 dry 1) dry_known
dry_lists = ((refl, (omega arith, λ e. lower_apart (negsuc 0) widest dry refl refl (sym e), tt)), each_tick (λ t. reading_at dry_known t ≡ entered (readings_of hot_entered) 1 0 2 dry 1 t) refl refl refl refl refl refl refl refl refl refl (λ t h. dry_late 1 t h ∙ sym (entered_late hot_entered hot_late 1 0 2 dry (omega arith) t h)))

dry_ends : ReadingEnds (pos 0) (pos 0)
dry_ends = ((le_z_yes tt, le_z_yes tt), (le_z_yes tt, le_z_yes tt), le_z_yes tt)

dry_narrows : Narrows hot_entered 1 0 2 (pos 0) (pos 0)
dry_narrows p r u a b = inside_widest p

dry_fits : FitsLine hot_entered 1 0 2 (pos 0) (pos 0)
dry_fits p ps h =
    let f : ℕ → Reading = entered (readings_of hot_entered) 1 0 2 p 1 in
    let past = entered_late hot_entered hot_late 1 0 2 p (omega arith) in
    let short = short_list f 10 (λ t b. past t b ∙ sym (past 10 (omega arith))) ps h.1 in
    omega arith

pub dry_turn : JobTurn hot_entered (enter 1 0 2 (pos 0) (pos 0)) (Ok accepted) dry_entered
dry_turn = (
  none_failing (enter_asks hot_entered 1 0 2 (pos 0) (pos 0)) (refl, (omega arith, ((omega arith, omega arith), (dry_ends, (dry_narrows, (dry_fits, tt)))))),
  (refl, (dry, (dry_known, (((refl, refl), dry_lists), refl)))),
)

flow_lists : Lists (entered (readings_of dry_entered) 1 2 10 flowing 1) flow_known
flow_lists = ((refl, (omega arith, upper_apart (pos 0) dry flowing refl refl, (omega arith, λ e. lower_apart (negsuc 0) widest flowing refl refl (sym e), tt))), each_tick (λ t. reading_at flow_known t ≡ entered (readings_of dry_entered) 1 2 10 flowing 1 t) refl refl refl refl refl refl refl refl refl refl (λ t h. flow_late 1 t h ∙ sym (entered_late dry_entered dry_late 1 2 10 flowing (omega arith) t h)))

flow_ends : ReadingEnds (pos 0) (pos 40)
flow_ends = ((le_z_yes tt, le_z_yes tt), (le_z_yes tt, le_z_yes tt), le_z_yes tt)

flow_narrows : Narrows dry_entered 1 2 10 (pos 0) (pos 40)
flow_narrows p r u a b = subst (Within p) (sym (late_reads dry (piece_from 2 widest ∷ []) u (a, tt))) (inside_widest p)

flow_fits : FitsLine dry_entered 1 2 10 (pos 0) (pos 40)
flow_fits p ps h =
    let f : ℕ → Reading = entered (readings_of dry_entered) 1 2 10 p 1 in
    let past = entered_late dry_entered dry_late 1 2 10 p (omega arith) in
    let short = short_list f 10 (λ t b. past t b ∙ sym (past 10 (omega arith))) ps h.1 in
    omega arith

pub flow_turn : JobTurn dry_entered (enter 1 2 10 (pos 0) (pos 40)) (Ok accepted) flow_entered
flow_turn = (
  none_failing (enter_asks dry_entered 1 2 10 (pos 0) (pos 40)) (refl, (omega arith, ((omega arith, omega arith), (flow_ends, (flow_narrows, (flow_fits, tt)))))),
  (refl, (flowing, (flow_known, (((refl, refl), flow_lists), refl)))),
)

-- the ticks 2 and 3
two_ticks : (P : ℕ → Type 0) → P 2 → P 3 → (u : ℕ) → 2 ≤ u → u < 4 → P u
two_ticks P a b zero l r = absurd (omega arith)
two_ticks P a b (suc zero) l r = absurd (omega arith)
two_ticks P a b (suc (suc zero)) l r = a
two_ticks P a b (suc (suc (suc zero))) l r = b
two_ticks P a b (suc (suc (suc (suc u)))) l r = absurd (omega arith)

finer_lists : Lists (entered (readings_of flow_entered) 0 2 4 hot_fine 0) hot_known_finer
finer_lists = ((refl, (omega arith, lower_apart (pos 1775) hot_wide hot_fine refl refl, (omega arith, λ e. lower_apart (pos 1775) hot_wide hot_fine refl refl (sym e), (omega arith, λ e. lower_apart (pos 0) widest hot_wide refl refl (sym e), tt)))), each_tick (λ t. reading_at hot_known_finer t ≡ entered (readings_of flow_entered) 0 2 4 hot_fine 0 t) refl refl refl refl refl refl refl refl refl refl (λ t h. finer_late 0 t h ∙ sym (entered_late flow_entered flow_late 0 2 4 hot_fine (omega arith) t h)))

finer_ends : ReadingEnds (pos 1800) (pos 1850)
finer_ends = ((le_z_yes tt, le_z_yes tt), (le_z_yes tt, le_z_yes tt), le_z_yes tt)

finer_narrows : Narrows flow_entered 0 2 4 (pos 1800) (pos 1850)
finer_narrows p r u a b = let here : Within p hot_wide = ends_inside (pos 1800) (pos 1850) p hot_wide r (le_z_yes tt) (le_z_yes tt) in two_ticks (λ t. Within p (readings_of flow_entered 0 t)) here here u a b

finer_fits : FitsLine flow_entered 0 2 4 (pos 1800) (pos 1850)
finer_fits p ps h =
    let f : ℕ → Reading = entered (readings_of flow_entered) 0 2 4 p 0 in
    let past = entered_late flow_entered flow_late 0 2 4 p (omega arith) in
    let short = short_list f 10 (λ t b. past t b ∙ sym (past 10 (omega arith))) ps h.1 in
    omega arith

pub finer_turn : JobTurn flow_entered (enter 0 2 4 (pos 1800) (pos 1850)) (Ok accepted) finer_entered
finer_turn = (
  none_failing (enter_asks flow_entered 0 2 4 (pos 1800) (pos 1850)) (refl, (omega arith, ((omega arith, omega arith), (finer_ends, (finer_narrows, (finer_fits, tt)))))),
  (refl, (hot_fine, (hot_known_finer, (((refl, refl), finer_lists), refl)))),
)

-- the last entry is wider at tick 2
wider_reaches : Narrows finer_entered 0 2 4 (pos 1700) (pos 1900) → ⊥
wider_reaches n =
    let w : Within hot_wider hot_fine = n hot_wider (refl, refl) 2 (omega arith) (omega arith) in
    let l : pos 1800 ≤ℤ pos 1700 = w.lower in
    omega (arith, ints)

wider_ends : ReadingEnds (pos 1700) (pos 1900)
wider_ends = ((le_z_yes tt, le_z_yes tt), (le_z_yes tt, le_z_yes tt), le_z_yes tt)

pub wider_turn : JobTurn finer_entered (enter 0 2 4 (pos 1700) (pos 1900)) (Err 5) finer_entered
wider_turn = (inr (refl, inr (omega arith, inr ((omega arith, omega arith), inr (wider_ends, inl (wider_reaches, refl))))), refl)

-- the readings are those of the worked cases
module _ (r : Reading) where
  -- what is entered by tick 10 tells nothing behind it, and nothing of other lines
  entry_behind : (x : Readings) (line from to k t : ℕ) → ¬ (k ≡ line) ⊎ ((t < from) ⊎ (to ≤ t)) → x k t ≡ widest → entered x line from to r k t ≡ widest
  entry_behind x line from to k t e h = entered_elsewhere x line from to r k t e ∙ h

forecast_late : (line t : ℕ) → (2 ≤ line) ⊎ (10 ≤ t) → forecast line t ≡ widest
forecast_late line t h =
    let hot : Readings = entered nothing_entered 0 0 10 hot_wide in
    let known : Readings = entered hot 1 0 2 dry in
    entry_behind flowing known 1 2 10 line t (past 1 10 (omega arith) (omega arith) 2) (entry_behind dry hot 1 0 2 line t (past 1 2 (omega arith) (omega arith) 0) (entry_behind hot_wide nothing_entered 0 0 10 line t (past 0 10 (omega arith) (omega arith) 0) refl))
  where
    past : (k to : ℕ) → k < 2 → to ≤ 10 → (from : ℕ) → ¬ (line ≡ k) ⊎ ((t < from) ⊎ (to ≤ t))
    past k to a b from = elim h [ inl far ↦ inl (λ e. omega arith) | inr late ↦ inr (inr (omega arith)) ]

refined_late : (line t : ℕ) → (2 ≤ line) ⊎ (10 ≤ t) → refined line t ≡ widest
refined_late line t h = entry_behind hot_fine forecast 0 2 4 line t (elim h [ inl far ↦ inl (λ e. omega arith) | inr late ↦ inr (inr (omega arith)) ]) (forecast_late line t h)

flow_reads : (line t : ℕ) → readings_of flow_entered line t ≡ forecast line t
flow_reads zero t = each_tick (λ t. readings_of flow_entered 0 t ≡ forecast 0 t) refl refl refl refl refl refl refl refl refl refl (λ u h. flow_late 0 u h ∙ sym (forecast_late 0 u (inr h))) t
flow_reads (suc zero) t = each_tick (λ t. readings_of flow_entered 1 t ≡ forecast 1 t) refl refl refl refl refl refl refl refl refl refl (λ u h. flow_late 1 u h ∙ sym (forecast_late 1 u (inr h))) t
flow_reads (suc (suc line)) t = sym (forecast_late (suc (suc line)) t (inl (omega arith)))

pub flow_is_forecast : readings_of flow_entered ≡ forecast
flow_is_forecast = fun_ext (λ line. fun_ext (flow_reads line))

finer_reads : (line t : ℕ) → readings_of finer_entered line t ≡ refined line t
finer_reads zero t = each_tick (λ t. readings_of finer_entered 0 t ≡ refined 0 t) refl refl refl refl refl refl refl refl refl refl (λ u h. finer_late 0 u h ∙ sym (refined_late 0 u (inr h))) t
finer_reads (suc zero) t = each_tick (λ t. readings_of finer_entered 1 t ≡ refined 1 t) refl refl refl refl refl refl refl refl refl refl (λ u h. finer_late 1 u h ∙ sym (refined_late 1 u (inr h))) t
finer_reads (suc (suc line)) t = sym (refined_late (suc (suc line)) t (inl (omega arith)))

pub finer_is_refined : readings_of finer_entered ≡ refined
finer_is_refined = fun_ext (λ line. fun_ext (finer_reads line))
