-- What is read off the want lists as they lie in the cells, and the marks that come of them.
use Rattle.std.proofs.Common.{◌≡◌, ℕ, ◌+◌, ◌-◌, ◌<◌, ◌≤◌, Bool, true, false, List, [], ◌∷◌, ◌++◌, length, get_or, take, drop, Ok, Err, Result, sym, refl, ap, ◌∙◌, subst, sub-one, arith, length-append}
use Rattle.std.proofs.lemmas.List.{take_all, take_at, length-take}
use Rattle.std.proofs.lemmas.Int.{clamps}
use Rattle.grades.specs.Kinds.{Kind, Tells}
use Rattle.grades.specs.Ranges.{Settled}
use Rattle.grades.specs.declared.range.Range.{Range}
use Rattle.rules.specs.declared.row.Row.{Row}
use Rattle.rules.specs.Rows.{row_at, root, reach, Sound}
use Rattle.pieces.specs.declared.piece.Piece.{Piece}
use Rattle.pieces.specs.Pieces.{Lists, at_from}
use Rattle.pieces.specs.Cells.{Put}
use Rattle.pieces.proofs.Shows.{lists_at}
use Rattle.meaning.specs.declared.mark.Mark.{Mark}
use Rattle.meaning.specs.Readings.{Readings}
use Rattle.meaning.specs.Values.{value}
use Rattle.meaning.specs.Verdicts.{ranges}
use Rattle.meaning.specs.Wants.{Wanted}
use Rattle.runs.specs.Calls.{all}
use Rattle.judge.specs.Places.{list_at, ListStands}
use Rattle.judge.specs.Children.{is_test, said, asks_at}
use Rattle.judge.specs.Marks.{MarkedRows}
use Rattle.judge.specs.Cells.{BeginsWith, RunsOut}
use Rattle.judge.specs.Markings.{RangesStand, WantsStand, MarksWritten}
use Rattle.judge.proofs.WantFilling.{plain}
use Rattle.judge.proofs.Stacks.{Stacked, lies, heard_at}
use Rattle.judge.proofs.RowStretches.{marks_whole, marks_begun}
use Rattle.judge.proofs.RowWants.{asks_tell, asks_near}

module _ {X : Type 0} where
  -- what was put first is what the cells begin with
  put_begins : (before after xs : List X) → length after ≡ length before → Put before 0 xs after → BeginsWith xs before after
  put_begins before after xs kept p =
      let z : 0 + length xs ≡ length xs = omega arith in
      let w : take (length xs) after ≡ xs = ap (λ n. take n after) (sym z) ∙ p.0 in
      let short : length xs ≤ length after = omega (arith, clamps, sym (ap length w), length-take (length xs) after) in
      record { fits = omega arith; written = w; behind = subst (λ n. drop n after ≡ drop n before) z p.1 }

  -- and all that they have, where there is no room for more
  put_runs_out : (before after xs more : List X) → length after ≡ length before → length before ≤ length xs → 0 < length more → Put before 0 xs after → RunsOut (xs ++ more) before after
  put_runs_out before after xs more kept full some p =
      let b = put_begins before after xs kept p in
      let same : length before ≡ length xs = omega (arith, b.fits) in
      let all_of : after ≡ xs = sym (take_all (length xs) after (omega arith)) ∙ b.written in
      record { longer = omega (arith, length-append xs more); beginning = all_of ∙ sym (take_at xs more (length before) (sym same)) }

-- the lists of where all rows are wanted
module _ (K : Kind) (rows : List Row) (x : Readings) (tick : ℕ) (starts : List ℕ) (wants : List (Piece Bool)) (W : WantsStand K rows x tick starts wants) where
  abbrev says : ℕ → ℕ → Bool
  says i = said (get_or W.lists i [])

  says_itself : (w : ℕ → Bool) (ps : List (Piece Bool)) → Lists w ps → Lists (said ps) ps
  says_itself w [] h = h
  says_itself w (p ∷ ps) h = (h.0, λ t. h.1 t ∙ sym (lists_at w (p ∷ ps) h false t))

  row_of : (i : ℕ) → i < length rows → root rows - (root rows - i) ≡ i
  row_of i h = omega (arith, sub-one (length rows))

  says_lists : (i : ℕ) → i < length rows → Lists (says i) (get_or W.lists i [])
  says_lists i h =
      let k : ℕ = root rows - i in
      let lk : k < length rows = omega (arith, sub-one (length rows)) in
      let e = W.listed.each k lk in
      subst (λ j. Lists (says j) (get_or W.lists j [])) (row_of i h) (says_itself e.0 (get_or W.lists (root rows - k) []) e.1.1)

  wants_fit : length (all W.lists) ≤ length wants
  wants_fit = omega (arith, clamps, sym (ap length W.written), length-take (length (all W.lists)) wants)

  wants_stacked : Stacked (λ (b : Bool). b) says W.lists starts wants (length (all W.lists))
  wants_stacked = record {
    listed = λ i h. says_lists i (omega (arith, W.listed.many));
    marks = W.begin.at;
    top = refl;
    within = wants_fit;
    holds = plain (take (length (all W.lists)) wants) ∙ W.written;
  }

  pub wants_stand : (k : ℕ) → k < length rows → ListStands starts wants (length rows - 1 - k)
  wants_stand k h = record {
    known = omega (arith, W.begin.known, W.listed.many);
    lies = lies (λ (b : Bool). b) says W.lists starts wants (length (all W.lists)) wants_stacked (length rows - 1 - k) (omega (arith, W.listed.many));
  }

  -- each row's list says where the row is wanted
  pub wants_told : (k : ℕ) → k < length rows → (u : ℕ) → Tells (said (list_at starts wants (length rows - 1 - k)) u) (Wanted K rows (value (ranges K) rows x) tick k u)
  wants_told k h u =
      let i : ℕ = length rows - 1 - k in
      let li : i < length W.lists = omega (arith, W.listed.many) in
      let e = W.listed.each k h in
      let z : root rows - k ≡ i = omega (arith, sub-one (length rows)) in
      let heard : said (list_at starts wants i) u ≡ says i u =
      ap (λ ps. at_from false ps u) (sym (plain (list_at starts wants i)))
      ∙ heard_at (λ (b : Bool). b) says W.lists starts wants (length (all W.lists)) wants_stacked false i li u in
      let same : says i u ≡ e.0 u = ap (λ j. says j u) (sym z) ∙ lists_at e.0 (get_or W.lists (root rows - k) []) e.1.1 false u in
      subst (λ (b : Bool). Tells b (Wanted K rows (value (ranges K) rows x) tick k u)) (sym (heard ∙ same)) (e.1.0 u)

-- both together give the marks
module _ (K : Kind) {G : Type 0} (val : G → K.Value) (rows : List Row) (sound : Sound rows) (x : Readings) (tick limit : ℕ) (far : limit ≡ tick + reach rows + 1) (begins : List ℕ) (cells : List (Piece (Range G))) (D : RangesStand K rows x val begins cells) (starts : List ℕ) (wants : List (Piece Bool)) (W : WantsStand K rows x tick starts wants) where
  abbrev asking : ℕ → ℕ → Bool
  asking k = asks_at K val begins cells starts wants k (length rows - 1 - k)

  asking_told : (k u : ℕ) → k < length rows → Tells (asking k u) (Wanted K rows (value (ranges K) rows x) tick k u × ¬ (Settled K (value (ranges K) rows x k u)))
  asking_told k u h = asks_tell K val rows sound x tick begins cells D (said (list_at starts wants (length rows - 1 - k))) k h (wants_told K rows x tick starts wants W k h) u

  asking_near : (k u : ℕ) → k < length rows → asking k u ≡ true → u < limit
  asking_near k u h e = asks_near K val rows sound x tick begins cells D limit far (said (list_at starts wants (length rows - 1 - k))) k h (wants_told K rows x tick starts wants W k h) u e

  marks_all : (before after : List Mark) (n : ℕ) → length after ≡ length before → MarkedRows (λ k. is_test (row_at rows k)) asking (λ k. limit) {E = ⊥} (length rows) before after (Ok n) → MarksWritten K rows x tick {E = ⊥} before after (Ok n)
  marks_all before after n kept m =
      let ms = m.0 in (
        ms,
        (
          marks_whole K rows sound x tick limit asking asking_told asking_near ms m.1.2,
          m.1.0,
          put_begins before after ms kept m.1.1,
        ),
      )

  marks_cut : (before after : List Mark) → length after ≡ length before → MarkedRows (λ k. is_test (row_at rows k)) asking (λ k. limit) {E = Unit {0}} (length rows) before after (Err tt) → MarksWritten K rows x tick {E = Unit {0}} before after (Err tt)
  marks_cut before after kept m =
      let ms = m.0 in
      let b = marks_begun K rows sound x tick limit asking asking_told asking_near ms m.1.2 in
      (ms ++ b.0, (b.1.1, put_runs_out before after ms b.0 kept m.1.0 b.1.0 m.1.1))

  pub marks_written : {E : Type 0} (before after : List Mark) → length after ≡ length before → (r : Result ℕ E) → MarkedRows (λ k. is_test (row_at rows k)) asking (λ k. limit) (length rows) before after r → MarksWritten K rows x tick before after r
  marks_written before after kept (Ok n) m = marks_all before after n kept m
  marks_written before after kept (Err e) m = marks_cut before after kept m
