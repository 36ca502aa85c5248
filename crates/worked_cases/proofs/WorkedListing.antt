-- The listing of the worked case.
use Rattle.std.proofs.Common.{◌≡◌, ◌≤◌, zero, suc, List, [], ◌∷◌, length, pos, Ok, Err, sym, refl, subst, arith}
use Rattle.std.specs.Fmt.{digits}
use Rattle.grades.specs.Kinds.{Kind}
use Rattle.grades.specs.Truths.{truths}
use Rattle.grades.specs.Margins.{margins}
use Rattle.meaning.specs.declared.mark.Mark.{Mark}
use Rattle.meaning.specs.Readings.{Readings}
use Rattle.meaning.specs.Values.{over, until_at, step, values, value}
use Rattle.meaning.specs.Verdicts.{verdict as verdict_of}
use Rattle.meaning.specs.Marks.{Marked, Marks}
use Rattle.meaning.specs.Cases.{guard, stretch}
use Rattle.meaning.proofs.Samples.{forecast_marks, refined_marks}
use Rattle.meaning.proofs.Pinned.{lists_same}
use Rattle.runs.specs.Jobs.{accepted}
use Rattle.runs.specs.States.{State, readings_of}
use Rattle.runs.specs.Calls.{HasLines, judge_asks, mark_asks, JudgeTurn, MarkTurn}
use Rattle.runs.proofs.Conditions.{none_failing}
use Rattle.case_lines.specs.Listings.{ticks, enters, verdict, ended, does, Listing, lent_cells, listed}
use Rattle.worked_cases.specs.WorkedCase.{worked_bytes, worked_lines}
use Rattle.worked_cases.proofs.GuardLists.{WidestFromTen, guard_rows_fit, guard_wants_fit}
use Rattle.worked_cases.proofs.WorkedStates.{flow_entered, finer_entered, hot_turn, dry_turn, flow_turn, finer_turn, wider_turn, flow_late, finer_late, flow_is_forecast, finer_is_refined}
use Rattle.worked_cases.proofs.WorkedFields.{worked_opened, worked_opens, entry_of, hot_call, dry_call, flow_call, first_tick_call, finer_call, second_tick_call, wider_call, hot_step, dry_step, flow_step, first_tick_step, finer_step, second_tick_step, wider_step, fields_end}

module _ (s : State) (two : length s.lines ≡ 2) (late : WidestFromTen (readings_of s)) where
  has_lines : HasLines s guard
  has_lines zero line l t = omega (arith, two, t)
  has_lines (suc zero) line l t = omega (arith, two, t)
  has_lines (suc (suc zero)) line l t = absurd t
  has_lines (suc (suc (suc zero))) line l t = absurd t
  has_lines (suc (suc (suc (suc k)))) line l t = absurd (omega arith)

  guard_judged : (K : Kind) → JudgeTurn K s guard 0 1024 (Ok (verdict_of K guard (readings_of s) 0))
  guard_judged K = (none_failing (judge_asks K s guard 0 1024 []) (has_lines, (omega arith, (guard_rows_fit K (readings_of s) late, tt))), refl)

  few_marks : (ms : List Mark) → length ms ≤ 256 → Marks truths guard (readings_of s) 0 ms → (ns : List Mark) → Marks truths guard (readings_of s) 0 ns → length ns ≤ 256
  few_marks ms few is ns h = subst (λ (v : List Mark). length v ≤ 256) (lists_same {P = Marked truths guard (readings_of s) 0} ms ns is h) few

  guard_marked : (ms : List Mark) → length ms ≤ 256 → Marks truths guard (readings_of s) 0 ms → MarkTurn truths s guard 0 1024 1024 256 (Ok (record { verdict = verdict_of truths guard (readings_of s) 0; marks = ms }))
  guard_marked ms few is = (
    none_failing (judge_asks truths s guard 0 1024 (mark_asks truths s guard 0 1024 256)) (has_lines, (omega arith, (guard_rows_fit truths (readings_of s) late, (guard_wants_fit truths (readings_of s) late, (few_marks ms few is, tt))))),
    refl,
    is,
  )

abbrev two_marks : List Mark
two_marks = stretch 0 2 4 ∷ stretch 1 2 4 ∷ []

flow_marks : Marks truths guard (readings_of flow_entered) 0 two_marks
flow_marks = subst (λ (x : Readings). Marks truths guard x 0 two_marks) (sym flow_is_forecast) forecast_marks

finer_marks : Marks truths guard (readings_of finer_entered) 0 []
finer_marks = subst (λ (x : Readings). Marks truths guard x 0 []) (sym finer_is_refined) refined_marks

few_two : 2 ≤ 256
few_two = omega arith

few_none : 0 ≤ 256
few_none = omega arith

short_case : 155 ≤ 16384
short_case = omega arith

pub worked_listed : Listing (lent_cells 1024 1024 1024 1024 256) worked_bytes worked_lines
unfolding over until_at step values value digits
worked_listed = listed worked_opened short_case worked_opens
    (does hot_call hot_step (enters (entry_of 0 0 10 (pos 1750) (pos 1900)) refl (record { reply = Ok accepted; turn = hot_turn; prints = refl }))
    (does dry_call dry_step (enters (entry_of 1 0 2 (pos 0) (pos 0)) refl (record { reply = Ok accepted; turn = dry_turn; prints = refl }))
    (does flow_call flow_step (enters (entry_of 1 2 10 (pos 0) (pos 40)) refl (record { reply = Ok accepted; turn = flow_turn; prints = refl }))
    (does first_tick_call first_tick_step (ticks 0 refl (verdict _ _ _ (guard_judged flow_entered refl flow_late truths) (guard_judged flow_entered refl flow_late margins) (guard_marked flow_entered refl flow_late two_marks few_two flow_marks) refl) refl)
    (does finer_call finer_step (enters (entry_of 0 2 4 (pos 1800) (pos 1850)) refl (record { reply = Ok accepted; turn = finer_turn; prints = refl }))
    (does second_tick_call second_tick_step (ticks 0 refl (verdict _ _ _ (guard_judged finer_entered refl finer_late truths) (guard_judged finer_entered refl finer_late margins) (guard_marked finer_entered refl finer_late [] few_none finer_marks) refl) refl)
    (does wider_call wider_step (enters (entry_of 0 2 4 (pos 1700) (pos 1900)) refl (record { reply = Err 5; turn = wider_turn; prints = refl }))
    (ended fields_end refl)
    refl) refl) refl) refl) refl) refl) refl)
