-- The loop that opens the lines one by one.
use Rattle.std.proofs.Common.{◌≡◌, ℕ, ◌+◌, ◌*◌, ◌<◌, ◌≤◌, false, ◌≢◌, List, [], ◌∷◌, map, length, get_or, take, drop, set, replicate, sym, refl, ap, ◌∙◌, subst, ⊎_elim, arith}
use Rattle.std.specs.List.{range_with_len}
use Rattle.std.proofs.lemmas.List.{get_or-set_same, get_or-set_other, drop_more, drop-drop, drop-set-lt, get_or-replicate, length-replicate}
use Rattle.std.proofs.lemmas.List.FromFn.{fill_by_all}
use Rattle.std.proofs.lemmas.Bool.{cases_eq}
use Rattle.pieces.specs.declared.piece.Piece.{Piece}
use Rattle.meaning.specs.declared.reading.Reading.{Reading}
use Rattle.meaning.specs.Readings.{widest}
use Rattle.runs.specs.States.{blank, opened}
use Rattle.jobs.specs.declared.held.Held.{Held}
use Rattle.jobs.specs.declared.held.LineNote.{LineNote}
use Rattle.jobs.specs.Lines.{no_note, noted_count, held_pieces, held_state}
use Rattle.jobs.specs.Holds.{Kept, AllKept}

abbrev wide : Piece Reading
wide = record { start = 0; value = widest }

-- the first n lines are open, and the cells behind them are as they were
pub record OpenedTo (before cells : List (Piece Reading)) (n : ℕ) : Type 0 where
  pub firsts : (k : ℕ) (d : Piece Reading) → k < n → get_or cells (64 * k) d ≡ wide
  pub behind : drop (64 * n) cells ≡ drop (64 * n) before

pub opened_none : (cells : List (Piece Reading)) → OpenedTo cells cells 0
opened_none cells = record { firsts = λ k d h. absurd (omega arith); behind = refl }

pub opened_more : (before cells : List (Piece Reading)) (n : ℕ) (v : Reading) → v ≡ widest → 64 * n < length cells → OpenedTo before cells n →
    OpenedTo before (set cells (64 * n) (record { start = 0; value = v })) (n + 1)
opened_more before cells n v e l o =
    let p : Piece Reading = record { start = 0; value = v } in
    let next : 64 * (n + 1) ≡ 64 * n + 64 = omega arith in
    record {
      firsts = λ k d h. ⊎_elim
          (λ (q : k ≡ n). ap (λ j. get_or (set cells (64 * n) p) (64 * j) d) q ∙ get_or-set_same cells (64 * n) p d l ∙ ap (λ (r : Reading). record { start = 0; value = r }) e)
          (λ (q : k ≡ n → ⊥). let ne : 64 * k ≢ 64 * n = omega arith in get_or-set_other cells (64 * n) (64 * k) p d ne ∙ o.firsts k d (omega arith))
          (cases_eq k n);
      behind =
          drop-set-lt (64 * (n + 1)) cells (64 * n) p (omega arith)
          ∙ ap (λ j. drop j cells) next ∙ sym (drop-drop 64 (64 * n) cells)
          ∙ ap (drop 64) o.behind
          ∙ drop-drop 64 (64 * n) before ∙ ap (λ j. drop j before) (sym next);
    }

-- each line has one piece
abbrev one_piece : LineNote
one_piece = record { count = 1 }

abbrev pub just_held : ℕ → Held
just_held n = record { lines = n; notes = replicate 16 one_piece; tally = 0; sealed = false }

pub one_each : (n : ℕ) → n ≤ 16 → (k : ℕ) → k < n → noted_count (just_held n) k ≡ 1
one_each n few k h = ap (λ (m : LineNote). m.count) (get_or-replicate 16 k one_piece no_note (omega arith))

module _ (before cells : List (Piece Reading)) (n i : ℕ) (end : i ≡ n) (o : OpenedTo before cells i) (few : n ≤ 16) (room : 64 * n ≤ length cells) where
  each_blank : (k : ℕ) → k < n → held_pieces cells (just_held n) k ≡ blank
  each_blank k h =
      ap (λ m. take m (drop (64 * k) cells)) (one_each n few k h)
      ∙ ap (take 1) (drop_more cells (64 * k) wide (omega arith))
      ∙ ap (λ (p : Piece Reading). p ∷ []) (o.firsts k wide (omega arith))

  pub blank_kept : AllKept cells (just_held n)
  blank_kept k h = subst Kept (sym (each_blank k h)) ((refl, tt), λ t a. refl)

  pub opened_state : (m : ℕ) → n ≡ m → held_state cells (just_held n) ≡ opened m
  opened_state m e =
      let all : map (held_pieces cells (just_held n)) (range_with_len 0 n) ≡ replicate n blank =
      sym (fill_by_all (held_pieces cells (just_held n)) (replicate n blank) n [] (length-replicate n blank) (λ k h. get_or-replicate n k blank [] h ∙ sym (each_blank k h))) in
      ap (λ (ls : List (List (Piece Reading))). record { lines = ls; tally = 0; sealed = false }) all ∙ ap opened e

  pub opened_behind : (m : ℕ) → n ≡ m → drop (64 * m) cells ≡ drop (64 * m) before
  opened_behind m e = subst (λ j. drop (64 * j) cells ≡ drop (64 * j) before) (end ∙ e) o.behind
