-- The loop over the want lists: those of the last rows stand in the cells, and the next row's list comes behind them or does not fit.
use Rattle.std.proofs.Common.{◌≡◌, ℕ, ◌+◌, ◌-◌, ◌<◌, Bool, false, List, length, get_or, take, drop, set, Ok, Err, sym, ap, ◌∙◌, subst, arith}
use mathlib.Core.Path.{fun_ext}
use Rattle.std.proofs.lemmas.List.{map-id}
use Rattle.grades.specs.Kinds.{Kind, Lawful, Tells}
use Rattle.rules.specs.declared.row.Row.{Row}
use Rattle.rules.specs.Rows.{root, Sound}
use Rattle.pieces.specs.declared.piece.Piece.{Piece}
use Rattle.pieces.specs.Pieces.{at_from}
use Rattle.pieces.specs.Cells.{shown, CellsWhole, CellsShort}
use Rattle.meaning.specs.Readings.{Readings}
use Rattle.meaning.specs.Values.{value}
use Rattle.meaning.specs.Verdicts.{ranges}
use Rattle.meaning.specs.Wants.{Wanted}
use Rattle.runs.specs.Calls.{all, TellsWanted}
use Rattle.runs.proofs.WantedLists.{wants_by, wants_by_tell, wants_listed, listed_wants, told_same}
use Rattle.judge.specs.Places.{list_at}
use Rattle.judge.specs.Children.{said}
use Rattle.judge.specs.Markings.{WantsKnown, WantWritten, WantsWritten}
use Rattle.judge.proofs.Stacks.{below_lies, below_heard}
use Rattle.judge.proofs.Fills.{Filled, filled_none, filled_next, filled_out}

-- pieces of yes and no stand for themselves
pub plain : (ps : List (Piece Bool)) → shown (λ b. b) ps ≡ ps
plain ps = map-id ps

module _ {K : Kind} (L : Lawful K) (rows : List Row) (sound : Sound rows) (x : Readings) (tick : ℕ) where
  -- the want lists of the last i rows stand in the cells
  abbrev pub FilledWants : List (Piece Bool) → ℕ → List ℕ → List (Piece Bool) → ℕ → Type 0
  FilledWants = Filled (λ (b : Bool). b) (wants_by L rows sound x tick)

  pub wants_none : (cells : List (Piece Bool)) (starts : List ℕ) → length starts ≡ 65 → get_or starts 0 0 ≡ 0 → FilledWants cells 0 starts cells 0
  wants_none = filled_none (λ (b : Bool). b) (wants_by L rows sound x tick)

  module _ (first : List (Piece Bool)) (i : ℕ) (starts : List ℕ) (cells : List (Piece Bool)) (used : ℕ) (F : FilledWants first i starts cells used) where
    pub wants_known : i < length rows → WantsKnown K rows x tick i starts (take used cells)
    wants_known lt = record {
      stands = λ j h. record { known = omega (arith, F.room, sound.few); lies = below_lies (λ (b : Bool). b) (wants_by L rows sound x tick) F.lists starts cells used F.stacked j (omega (arith, F.many)) };
      right = λ j h u.
          let heard : said (list_at starts (take used cells) j) u ≡ wants_by L rows sound x tick j u =
          ap (λ ps. at_from false ps u) (sym (plain (list_at starts (take used cells) j)))
          ∙ below_heard (λ (b : Bool). b) (wants_by L rows sound x tick) F.lists starts cells used F.stacked false j (omega (arith, F.many)) u in
          subst (λ (b : Bool). Tells b (Wanted K rows (value (ranges K) rows x) tick (root rows - j) u)) (sym heard) (wants_by_tell L rows sound x tick j u);
    }

    -- whatever tells where the row is wanted is the same function of ticks
    one_want : (w : ℕ → Bool) → TellsWanted K rows x tick (root rows - i) w → w ≡ wants_by L rows sound x tick i
    one_want w h = fun_ext (λ u. told_same (Wanted K rows (value (ranges K) rows x) tick (root rows - i) u) (w u) (wants_by L rows sound x tick i u) (h u) (wants_by_tell L rows sound x tick i u))

    -- the next list fits
    pub wants_more : (E : Type 0) → i < length rows → (after : List (Piece Bool)) → length after ≡ length cells → (n : ℕ) → WantWritten K rows x tick {E = E} i cells used after (Ok n) → FilledWants first (i + 1) (set starts (i + 1) n) after n
    wants_more E lt after kept n w =
        filled_next (λ (b : Bool). b) (wants_by L rows sound x tick) first i starts cells used F (omega (arith, sound.few)) after kept n
        (subst (λ (f : ℕ → Bool). CellsWhole (λ b. b) f cells used after n) (one_want w.0 w.1.0) w.1.1)

    -- it does not
    pub wants_short : {E : Type 0} (fault : E) → i < length rows → (after : List (Piece Bool)) → length after ≡ length cells → length cells ≡ length first → WantWritten K rows x tick i cells used after (Err fault) → WantsWritten K rows x tick first after (Err fault)
    wants_short fault lt after kept size w =
        let full = wants_listed L rows sound x tick in
        let pss = full.0 in
        let s = subst (λ (f : ℕ → Bool). CellsShort (λ b. b) f cells used after) (one_want w.0 w.1.0) w.1.1 in
        let out = filled_out (λ (b : Bool). b) (wants_by L rows sound x tick) first i starts cells used F pss (omega (arith, full.1.0)) (λ j h. full.1.1 j (omega (arith, full.1.0))) after kept size s in
        (pss, (listed_wants L rows sound x tick pss full.1.0 full.1.1, record { longer = out.0; beginning = sym (plain after) ∙ out.1 }))

    -- behind the last one
    pub wants_whole : (E : Type 0) → i ≡ length rows → length cells ≡ length first → WantsWritten K rows x tick {E = E} first cells (Ok starts)
    wants_whole E e size =
        let S = F.stacked in (
          F.lists,
          (
            listed_wants L rows sound x tick F.lists (F.many ∙ e) (λ j h. S.listed j (omega (arith, F.many))),
            record {
              fits = omega (arith, S.top, S.within);
              written = subst (λ n. take n cells ≡ all F.lists) S.top (sym (plain (take used cells)) ∙ S.holds);
              behind = subst (λ n. drop n cells ≡ drop n first) S.top F.behind;
            },
            record { known = omega (arith, F.many, F.room, sound.few); at = S.marks },
          ),
        )
