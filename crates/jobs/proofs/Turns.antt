-- What an entry leaves: a sound job, and the state that the run of calls wants.
use Rattle.std.proofs.Common.{◌≡◌, ℕ, ◌+◌, ◌*◌, ◌<◌, ◌≤◌, cond, ◌&&◌, ltb, leb, List, [], ◌∷◌, ◌++◌, length, get_or, take, drop, set, Ok, Err, Result, sym, refl, ap, ◌∙◌, subst, ap₂, inr, ⊎_elim, arith, eq-eqb}
use mathlib.Core.Logic.{∥∥₁_map}
use Rattle.std.proofs.lemmas.List.FromFn.{fill_by_all}
use Rattle.std.proofs.lemmas.List.{length-set, get_or-set_same, get_or-set_other, length-append, length-take-le, length-drop, drop-take}
use Rattle.std.proofs.lemmas.Bool.{cases_eq, cases_lt}
use Rattle.pieces.specs.declared.piece.Piece.{Piece}
use Rattle.pieces.specs.Pieces.{Lists}
use Rattle.pieces.proofs.Chains.{only_one}
use Rattle.meaning.specs.declared.reading.Reading.{Reading}
use Rattle.meaning.specs.Readings.{entered}
use Rattle.meaning.proofs.Readings.{entered_elsewhere}
use Rattle.runs.specs.States.{State, reading_at, readings_of}
use Rattle.runs.specs.Jobs.{enter, JobAnswer, accepted, FitsLine, counted, JobTurn}
use Rattle.jobs.specs.declared.edit.Edit.{Edit}
use Rattle.jobs.specs.declared.held.Held.{Held}
use Rattle.jobs.specs.declared.held.LineNote.{LineNote}
use Rattle.jobs.specs.Lines.{cells_from, no_note, noted_count, held_pieces, held_state}
use Rattle.jobs.specs.Entries.{Changes}
use Rattle.jobs.specs.Holds.{Kept, AllKept, HeldSound}
use Rattle.jobs.specs.Checks.{Ready}
use Rattle.jobs.specs.Edits.{written, set_on, optional, edited, edited_size}
use Rattle.jobs.proofs.Parts.{length_part, length_lines, line_at}
use Rattle.jobs.proofs.Keeps.{kept_at}
use Rattle.jobs.proofs.Writes.{take_written, part_written, drop_written, length_written}
use Rattle.jobs.proofs.Refusals.{one_reading, fails_6, all_pass}

length_edited : (ps : List (Piece Reading)) (e : Edit) → e.keep ≤ e.skip → e.skip ≤ length ps → length (edited ps e) ≡ edited_size e (length ps)
length_edited ps e h k =
    let fs = optional e.first in
    let gs = optional e.second in
    let a = length-append (take e.keep ps) (fs ++ (gs ++ drop e.skip ps)) in
    let b = length-append fs (gs ++ drop e.skip ps) in
    let c = length-append gs (drop e.skip ps) in
    omega (arith, a, b, c, length-take-le e.keep ps (omega arith), length-drop e.skip ps)

-- an edit of a line's pieces
module _ (cells : List (Piece Reading)) (h : Held) (sound : HeldSound cells h) (line : ℕ) (there : line < h.lines)
    (qs : List (Piece Reading)) (are : qs ≡ held_pieces cells h line) (e : Edit) (order : (e.keep ≤ e.skip) × (e.skip ≤ length qs)) where
  many : length (held_pieces cells h line) ≡ noted_count h line
  many = length_part cells (64 * line) (noted_count h line) (omega (arith, sound.room, sound.short line there))

  pub edit_order : (e.keep ≤ e.skip) × (e.skip ≤ noted_count h line)
  edit_order = (order.0, omega (arith, order.1, ap length are, many))

  pub edit_size : (n : ℕ) → n ≡ edited_size e (noted_count h line) → n ≡ length (edited (held_pieces cells h line) e)
  edit_size n l =
      l ∙ ap (edited_size e) (sym many) ∙ sym (length_edited (held_pieces cells h line) e order.0 (omega (arith, order.1, ap length are)))

  pub edit_lists : (from to : ℕ) (p : Reading) → Lists (set_on qs from to p) (edited qs e) → Lists (set_on (held_pieces cells h line) from to p) (edited (held_pieces cells h line) e)
  edit_lists from to p l = subst (λ xs. Lists (set_on xs from to p) (edited xs e)) are l

reads_listed : (f : ℕ → Reading) (es : List (Piece Reading)) → Lists f es → (t : ℕ) → reading_at es t ≡ f t
reads_listed f [] l t = absurd l.0
reads_listed f (e ∷ es) l t = l.1 t

lists_as : (f g : ℕ → Reading) (es : List (Piece Reading)) → ((t : ℕ) → f t ≡ g t) → Lists f es → Lists g es
lists_as f g [] e l = absurd l.0
lists_as f g (p ∷ ps) e l = (l.0, λ t. l.1 t ∙ e t)

-- what is held once the entry is counted, with another note of the line
abbrev pub noted : Held → ℕ → LineNote → ℕ → Held
noted h line note tally = record h { notes = set h.notes line note; tally = tally }

-- the lines with the pieces es put into one of them
module _ (cells : List (Piece Reading)) (h : Held) (sound : HeldSound cells h) (line : ℕ) (there : line < h.lines) (in_notes : line < length h.notes) (es : List (Piece Reading)) (short : length es ≤ 64)
    (note : LineNote) (size : note.count ≡ length es) (tally : ℕ) where
  abbrev after : List (Piece Reading)
  after = written cells (64 * line) es

  abbrev now : Held
  now = noted h line note tally

  fits : 64 * line + length es ≤ length cells
  fits = omega (arith, sound.room)

  pub rest_kept : Changes line cells after (Ok tt)
  rest_kept = (take_written cells (64 * line) es fits (64 * line) (omega arith), drop_written cells (64 * line) es fits (64 * line + 64) (omega arith))

  count_here : noted_count now line ≡ length es
  count_here = ap (λ (n : LineNote). n.count) (get_or-set_same h.notes line note no_note in_notes) ∙ size

  count_other : (k : ℕ) → (k ≡ line → ⊥) → noted_count now k ≡ noted_count h k
  count_other k n = ap (λ (n : LineNote). n.count) (get_or-set_other h.notes line k note no_note n)

  here : held_pieces after now line ≡ es
  here = ap (cells_from after (64 * line)) count_here ∙ part_written cells (64 * line) es fits

  other : (k : ℕ) → k < h.lines → (k ≡ line → ⊥) → held_pieces after now k ≡ held_pieces cells h k
  other k l n =
      let m = noted_count h k in
      ap (cells_from after (64 * k)) (count_other k n) ∙ ⊎_elim
      (λ (b : k < line).
      sym (drop-take (64 * k) m after) ∙ ap (drop (64 * k)) (take_written cells (64 * line) es fits (64 * k + m) (omega (arith, sound.short k l))) ∙ drop-take (64 * k) m cells)
      (λ (b : line ≤ k). ap (take m) (drop_written cells (64 * line) es fits (64 * k) (omega arith)))
      (cases_lt k line)

  lines_set : (held_state after now).lines ≡ set (held_state cells h).lines line es
  lines_set =
      let all = (held_state cells h).lines in
      sym (fill_by_all (held_pieces after now) (set all line es) h.lines [] (length-set all line es ∙ length_lines cells h) (λ k l. ⊎_elim
      (λ (e : k ≡ line).
      ap (λ j. get_or (set all line es) j []) e ∙ get_or-set_same all line es [] (omega (arith, length_lines cells h)) ∙ sym here ∙ ap (held_pieces after now) (sym e))
      (λ (n : k ≡ line → ⊥).
      get_or-set_other all line k es [] n ∙ line_at cells h k l ∙ sym (other k l n))
      (cases_eq k line)))

  pub state_set : held_state after now ≡ record (held_state cells h) { lines = set (held_state cells h).lines line es; tally = tally }
  state_set = ap (λ (ls : List (List (Piece Reading))). record (held_state cells h) { lines = ls; tally = tally }) lines_set

  pub sound_set : Kept es → HeldSound after now
  sound_set kept = record {
    few = sound.few;
    room = omega (arith, sound.room, length_written cells (64 * line) es fits);
    short = λ k l. ⊎_elim
        (λ (e : k ≡ line). subst (λ j. noted_count now j ≤ 64) (sym e) (omega (arith, count_here)))
        (λ (n : k ≡ line → ⊥). omega (arith, count_other k n, sound.short k l))
        (cases_eq k line);
    kept = ∥∥₁_map sound.kept (λ (all : AllKept cells h). λ k l. ⊎_elim
        (λ (e : k ≡ line). subst (λ j. Kept (held_pieces after now j)) (sym e) (subst Kept (sym here) kept))
        (λ (n : k ≡ line → ⊥). subst Kept (sym (other k l n)) (all k l))
        (cases_eq k line));
  }

-- the list of the line with p set on the stretch decides whether there is room
module _ (s : State) (line from to : ℕ) (p : Reading) (ready : Ready s line from to p) (ps es : List (Piece Reading)) (is : get_or s.lines line [] ≡ ps) (l : Lists (set_on ps from to p) es) where
  pub set_listed : Lists (entered (readings_of s) line from to p line) es
  set_listed =
      lists_as (set_on ps from to p) (entered (readings_of s) line from to p line) es
      (λ t. ap₂ (λ b xs. cond (b && leb from t && ltb t to) p (reading_at xs t)) (sym (eq-eqb line line refl)) (sym is)) l

  pub room : length es ≤ 64 → FitsLine s line from to p.lower p.upper
  room h q qs set =
      let e : q ≡ p = one_reading p.lower p.upper q p set.0 (refl, refl) in
      let same : qs ≡ es = only_one Reading (entered (readings_of s) line from to p line) qs es (subst (λ (z : Reading). Lists (entered (readings_of s) line from to z line) qs) e set.1) set_listed in
      subst (λ xs. length xs ≤ 64) (sym same) h

  pub no_room : 64 < length es → FitsLine s line from to p.lower p.upper → ⊥
  no_room h r = let k = r p es ((refl, refl), set_listed) in omega arith

-- nothing is known behind the last tick of an entry either
pub kept_set : (ps es : List (Piece Reading)) (from to : ℕ) (p : Reading) → to ≤ 1000000001 → Kept ps → Lists (set_on ps from to p) es → Kept es
kept_set ps es from to p h k l =
    (l.0, λ t a. reads_listed (set_on ps from to p) es l t ∙ entered_elsewhere (λ line. reading_at ps) 0 from to p 0 t (inr (inr (omega arith))) ∙ k.1 t a)

-- an entry for which the first five conditions hold, and the list that it leads to
module _ (cells : List (Piece Reading)) (h : Held) (sound : HeldSound cells h) (line : ℕ) (there : line < h.lines)
    (from to : ℕ) (p : Reading) (ready : Ready (held_state cells h) line from to p) (es : List (Piece Reading)) (l : Lists (set_on (held_pieces cells h line) from to p) es) where
  abbrev state : State
  state = held_state cells h

  abbrev Turns : Result JobAnswer ℕ → State → Type 0
  Turns = JobTurn state (enter line from to p.lower p.upper)

  is : get_or state.lines line [] ≡ held_pieces cells h line
  is = line_at cells h line there

  pub turned_down : 64 < length es → Turns (Err 6) state
  turned_down k = (fails_6 state line from to p.lower p.upper p (refl, refl) ready (no_room state line from to p ready (held_pieces cells h line) es is l k), refl)

  -- the cells, the note of the line and the tally are what it makes of them
  abbrev Left : List (Piece Reading) → LineNote → ℕ → Type 0
  Left xs note m = HeldSound xs (noted h line note m) × Turns (Ok accepted) (held_state xs (noted h line note m)) × Changes line cells xs (Ok tt)

  pub taken_up : (xs : List (Piece Reading)) (note : LineNote) (m : ℕ) → line < length h.notes → length es ≤ 64 → xs ≡ written cells (64 * line) es → note.count ≡ length es → m ≡ counted h.tally → Left xs note m
  taken_up xs note m in_notes short xe size me =
      let ps = held_pieces cells h line in
      let kept = kept_set ps es from to p ready.stretch.1 (kept_at cells h sound line there) l in
      let turn : Turns (Ok accepted) (held_state (written cells (64 * line) es) (noted h line note (counted h.tally))) = (
        all_pass state line from to p.lower p.upper p (refl, refl) ready (room state line from to p ready ps es is l short),
        (refl, (p, (es, (((refl, refl), set_listed state line from to p ready ps es is l), state_set cells h sound line there in_notes es short note size (counted h.tally))))),
      ) in
      let all : Left (written cells (64 * line) es) note (counted h.tally) = (
        sound_set cells h sound line there in_notes es short note size (counted h.tally) kept,
        turn,
        rest_kept cells h sound line there in_notes es short note size (counted h.tally),
      ) in
      subst (λ ys. Left ys note m) (sym xe) (subst (Left (written cells (64 * line) es) note) (sym me) all)
