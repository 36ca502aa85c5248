-- From a judged and marked table to the answer of the call: the first condition that fails, the marks, and the cells.
use Rattle.std.proofs.Common.{◌≡◌, ℕ, ◌≤◌, Bool, List, length, take, Some, None, Ok, Err, sym, refl, ap, ◌∙◌, subst, inl, inr, arith}
use Rattle.grades.specs.Kinds.{Kind, Lawful}
use Rattle.grades.specs.declared.range.Range.{Range}
use Rattle.pieces.specs.declared.piece.Piece.{Piece}
use Rattle.rules.specs.declared.row.Row.{Row}
use Rattle.rules.specs.Rows.{Sound}
use Rattle.meaning.specs.declared.mark.Mark.{Mark}
use Rattle.meaning.specs.Marks.{Marked, Marks}
use Rattle.meaning.proofs.Pinned.{lists_same}
use Rattle.runs.specs.States.{State, readings_of}
use Rattle.runs.specs.Calls.{all, WantLists, mark_asks, MarkTurn}
use Rattle.runs.proofs.Conditions.{none_failing}
use Rattle.runs.proofs.WantedLists.{one_want_lists}
use Rattle.judge.specs.declared.fault.JudgeFault.{JudgeFault}
use Rattle.judge.specs.declared.fault.MarkFault.{MarkFault}
use Rattle.judge.specs.declared.fault.MarkFault.TheVariants.{Judging, WantCells, MarkCells}
use Rattle.judge.specs.declared.judgement.Judgement.{Judgement}
use Rattle.judge.specs.Judges.{JudgedTable}
use Rattle.judge.specs.Markings.{RangesStand, MarkedTable}
use Rattle.judge.specs.Answers.{mark_reply, MarkedCells}
use Rattle.judge.proofs.JudgedTables.{refused_first, judged_first}

module _ {K : Kind} (L : Lawful K) {G : Type 0} (val : G → K.Value) (s : State) (rows : List Row) (sound : Sound rows) (tick : ℕ) (cells cells' : List (Piece (Range G))) (wants wants' : List (Piece Bool)) (marks marks' : List Mark) where
  -- all want lists fit if the written ones do
  wants_fit : (wss : List (List (Piece Bool))) → WantLists K rows (readings_of s) tick wss → length (all wss) ≤ length wants → (vss : List (List (Piece Bool))) → WantLists K rows (readings_of s) tick vss → length (all vss) ≤ length wants
  wants_fit wss h fits vss k = subst (λ zss. length (all zss) ≤ length wants) (one_want_lists K rows (readings_of s) tick wss vss h k) fits

  marks_fit : (ms : List Mark) → Marks K rows (readings_of s) tick ms → length ms ≤ length marks → (ns : List Mark) → Marks K rows (readings_of s) tick ns → length ns ≤ length marks
  marks_fit ms h fits ns k = subst (λ zs. length zs ≤ length marks) (lists_same {P = Marked K rows (readings_of s) tick} ms ns h k) fits

  -- nothing but judging stands against the call
  pub refused_turn : (f : JudgeFault) → JudgedTable K val s rows tick cells cells' (Err f) → MarkTurn K s rows tick (length cells) (length wants) (length marks) (mark_reply K val marks' (Err (Judging f)))
  refused_turn f h = refused_first K val s rows tick cells cells' (mark_asks K s rows tick (length wants) (length marks)) f h

  module _ (j : Judgement G) (h : JudgedTable K val s rows tick cells cells' (Ok j)) where
    -- want cells or mark cells run out
    pub short_turn : (f : MarkFault) → MarkedTable K rows (readings_of s) tick wants wants' marks marks' (Err f) → MarkTurn K s rows tick (length cells) (length wants) (length marks) (mark_reply K val marks' (Err f))
    short_turn (Judging f) m = absurd m
    short_turn WantCells m =
        judged_first K val s rows tick cells cells' (mark_asks K s rows tick (length wants) (length marks)) j h (Some 10)
        (inl (λ fits. omega (arith, fits m.0.0 m.0.1.0, m.0.1.1.longer), refl))
    short_turn MarkCells m =
        let w = m.0 in
        judged_first K val s rows tick cells cells' (mark_asks K s rows tick (length wants) (length marks)) j h (Some 11)
        (inr (wants_fit w.0 w.1.0 w.1.1.fits, inl (λ fits. omega (arith, fits m.1.0 m.1.1.0, m.1.1.1.longer), refl)))

    pub short_cells : (f : MarkFault) → MarkedTable K rows (readings_of s) tick wants wants' marks marks' (Err f) → MarkedCells K val rows (readings_of s) tick cells cells' wants wants' marks marks' (Err f)
    short_cells (Judging f) m = absurd m
    short_cells WantCells m = ((h.2.0, h.2.1.0), m.0, m.1)
    short_cells MarkCells m = ((h.2.0, h.2.1.0), m.0, m.1)

    -- all is written
    pub marked_turn : (n : ℕ) → MarkedTable K rows (readings_of s) tick wants wants' marks marks' (Ok n) → MarkTurn K s rows tick (length cells) (length wants) (length marks) (mark_reply K val marks' (Ok (record { verdict = j.verdict; marks = n })))
    marked_turn n m =
        let w = m.0 in
        let z = m.1.1 in
        let listed : take n marks' ≡ m.1.0 = ap (λ k. take k marks') z.1 ∙ z.2.written in (
          judged_first K val s rows tick cells cells' (mark_asks K s rows tick (length wants) (length marks)) j h None
              (none_failing (mark_asks K s rows tick (length wants) (length marks)) (wants_fit w.0 w.1.0 w.1.1.fits, (marks_fit m.1.0 z.0 z.2.fits, tt))),
          h.2.1.2,
          subst (λ ns. Marks K rows (readings_of s) tick ns) (sym listed) z.0,
        )

    -- the lists of a judged table lie in its cells
    pub judged_stand : length cells' ≡ length cells → RangesStand K rows (readings_of s) val j.begins cells'
    judged_stand same =
        let C = h.2.1.0 in
        record { lists = h.2.0; listed = C.listed; fits = omega (arith, C.fits); written = C.written; begin = h.2.1.1 }
