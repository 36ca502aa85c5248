-- What a state has of an earlier one, with what is set between them.
use Rattle.std.proofs.Common.{◌≡◌, ℕ, ◌+◌, ◌<◌, ◌≤◌, min, Bool, true, false, cond, ◌&&◌, eqb, ltb, leb, ◌≢◌, ◌⊎◌, List, [], ◌∷◌, length, get_or, set, Some, None, Option, IfSome, sym, refl, ap, ◌∙◌, subst, inl, inr, arith, get_or-set_other, get_or-set_same, ltb-false, ltb-true, eqb-true, leb-false, leb-true}
use borrow.Author.Tests.{eqb-false}
use lib.Signed.{≤ℤ_refl}
use Rattle.std.proofs.lemmas.Int.{ints}
use Rattle.std.proofs.lemmas.List.{length-set}
use Rattle.rules.specs.declared.row.Row.{Row}
use Rattle.rules.specs.Rows.{row_at}
use Rattle.pieces.specs.declared.piece.Piece.{Piece}
use Rattle.pieces.specs.Pieces.{Canonical, Lists}
use Rattle.meaning.specs.declared.reading.Reading.{Reading}
use Rattle.meaning.specs.declared.mark.Mark.{Mark}
use Rattle.meaning.specs.Readings.{Readings, widest, Within, AllWithin, entered}
use Rattle.rules.specs.Tested.{Tests}
use Rattle.meaning.specs.Marks.{Listed}
use Rattle.meaning.proofs.Readings.{entered_here, entered_elsewhere}
use Rattle.runs.specs.States.{State, reading_at, readings_of}
use Rattle.runs.specs.Jobs.{counted}
use Rattle.runs.specs.Runs.{Setting, with_setting, setting_count, Touches}

-- what is set has its line and stretch, narrows what stands there, and leaves the one list of what the line then reads
pub record SetsLine (s : State) (w : Setting) (z : State) : Type 0 where
  pub there : w.line < length s.lines
  pub far : w.to ≤ 1000000001
  pub narrows : (u : ℕ) → w.from ≤ u → u < w.to → Within w.reading (readings_of s w.line u)
  pub pieces : List (Piece Reading)
  pub listed : Lists (entered (readings_of s) w.line w.from w.to w.reading w.line) pieces
  pub lines : z.lines ≡ set s.lines w.line pieces
  pub tally : z.tally ≡ counted s.tally

-- where nothing is set, lines and tally are as they were
pub record SetsNone (s z : State) : Type 0 where
  pub lines : z.lines ≡ s.lines
  pub tally : z.tally ≡ s.tally

abbrev pub SetBetween : State → Option Setting → State → Type 0
SetBetween s None z = SetsNone s z
SetBetween s (Some w) z = SetsLine s w z

-- a tick of a line is in what is set, or elsewhere
abbrev pub About : (line from to k t : ℕ) → Type 0
About line from to k t = (k ≡ line) × (from ≤ t) × (t < to)

abbrev pub NotAbout : (line from to k t : ℕ) → Type 0
NotAbout line from to k t = ¬ (k ≡ line) ⊎ ((t < from) ⊎ (to ≤ t))

about? : (line from to k t : ℕ) → About line from to k t ⊎ NotAbout line from to k t
about? line from to k t =
    elim (eqb k line) as (λ (b : Bool). eqb k line ≡ b → About line from to k t ⊎ NotAbout line from to k t) [
      | true ↦ λ e.
          elim (leb from t) as (λ (b : Bool). leb from t ≡ b → About line from to k t ⊎ NotAbout line from to k t) [
            | true ↦ λ f.
                elim (ltb t to) as (λ (b : Bool). ltb t to ≡ b → About line from to k t ⊎ NotAbout line from to k t) [
                  | true ↦ λ g. inl (eqb-true k line e, leb-true from t f, ltb-true t to g)
                  | false ↦ λ g. inr (inr (inr (ltb-false t to g)))
                ] refl
            | false ↦ λ f. inr (inr (inl (leb-false from t f)))
          ] refl
      | false ↦ λ e. inr (inl (eqb-false k line e))
    ] refl

pub within_refl : (p : Reading) → Within p p
within_refl p = record { lower = ≤ℤ_refl p.lower; upper = ≤ℤ_refl p.upper }

pub within_trans : (p q r : Reading) → Within p q → Within q r → Within p r
within_trans p q r h k =
    let a = h.lower in
    let b = k.lower in
    let c = h.upper in
    let d = k.upper in
    record { lower = omega (arith, ints); upper = omega (arith, ints) }

same_within : (p q : Reading) → p ≡ q → Within p q
same_within p q e = subst (λ (r : Reading). Within p r) e (within_refl p)

-- the readings that are listed are read
listed_reads : (f : ℕ → Reading) (ps : List (Piece Reading)) (t : ℕ) → Lists f ps → reading_at ps t ≡ f t
listed_reads f [] t h = absurd h.0
listed_reads f (p ∷ ps) t h = h.1 t

-- a list in the place of a line's is read there
set_line_reads : (lines : List (List (Piece Reading))) (line : ℕ) (ps : List (Piece Reading)) → line < length lines → (k t : ℕ) → (f : ℕ → ℕ → Reading) → reading_at ps t ≡ f line t → (k ≢ line → reading_at (get_or lines k []) t ≡ f k t) → reading_at (get_or (set lines line ps) k []) t ≡ f k t
set_line_reads lines line ps lt k t f here there =
    elim (eqb k line) as (λ (b : Bool). eqb k line ≡ b → reading_at (get_or (set lines line ps) k []) t ≡ f k t) [
      | true ↦ λ e.
          subst (λ (j : ℕ). reading_at (get_or (set lines line ps) j []) t ≡ f j t) (sym (eqb-true k line e)) (ap (λ (v : List (Piece Reading)). reading_at v t) (get_or-set_same lines line ps [] lt) ∙ here)
      | false ↦ λ e.
          let ne : k ≢ line = eqb-false k line e in
          ap (λ (v : List (Piece Reading)). reading_at v t) (get_or-set_other lines line k ps [] ne) ∙ there ne
    ] refl

-- the readings of the later state are the earlier one's, with what is set
pub set_reads : (s : State) (w : Option Setting) (z : State) → SetBetween s w z → (k t : ℕ) → readings_of z k t ≡ with_setting (readings_of s) w k t
set_reads s None z h k t = ap (λ (v : List (List (Piece Reading))). reading_at (get_or v k []) t) h.lines
set_reads s (Some w) z h k t =
    let f : Readings = entered (readings_of s) w.line w.from w.to w.reading in
    ap (λ (v : List (List (Piece Reading))). reading_at (get_or v k []) t) h.lines ∙
    set_line_reads s.lines w.line h.pieces h.there k t f (listed_reads (f w.line) h.pieces t h.listed) (λ ne. sym (entered_elsewhere (readings_of s) w.line w.from w.to w.reading k t (inl ne)))

-- what is set depends on the readings tick by tick
pub setting_same : (x y : Readings) (w : Option Setting) → ((k t : ℕ) → x k t ≡ y k t) → (k t : ℕ) → with_setting x w k t ≡ with_setting y w k t
setting_same x y None h k t = h k t
setting_same x y (Some w) h k t = ap (λ (r : Reading). cond (eqb k w.line && leb w.from t && ltb t w.to) w.reading r) (h k t)

-- readings only narrow
pub set_narrows : (s : State) (w : Option Setting) (z : State) → SetBetween s w z → AllWithin (readings_of z) (readings_of s)
set_narrows s None z h k t = same_within _ _ (set_reads s None z h k t)
set_narrows s (Some w) z h k t =
    let x : Readings = readings_of s in
    let reads : readings_of z k t ≡ entered x w.line w.from w.to w.reading k t = set_reads s (Some w) z h k t in
    elim (about? w.line w.from w.to k t) [
      | inl b ↦
          let here : entered x w.line w.from w.to w.reading w.line t ≡ w.reading = entered_here x w.line w.from w.to w.reading t b.1 b.2 in
          subst (λ (r : Reading). Within r (x k t)) (sym (reads ∙ ap (λ (j : ℕ). entered x w.line w.from w.to w.reading j t) b.0 ∙ here)) (subst (λ (j : ℕ). Within w.reading (x j t)) (sym b.0) (h.narrows t b.1 b.2))
      | inr n ↦ same_within _ _ (reads ∙ entered_elsewhere x w.line w.from w.to w.reading k t n)
    ]

-- readings of listed stretches stay where what is set touches none
pub set_misses : (x : Readings) (w : Option Setting) (rows : List Row) (ms : List Mark) → IfSome w (λ v. Touches rows ms v → ⊥) → (k line u : ℕ) → Listed ms k u → Tests (row_at rows k) line → with_setting x w line u ≡ x line u
set_misses x None rows ms miss k line u l t = refl
set_misses x (Some w) rows ms miss k line u l t =
    elim (about? w.line w.from w.to line u) [
      | inl b ↦ absurd (miss (record { row = k; tick = u; listed = l; tests = subst (λ (i : ℕ). Tests (row_at rows k) i) b.0 t; begins = b.1; ends = b.2 }))
      | inr n ↦ entered_elsewhere x w.line w.from w.to w.reading line u n
    ]

-- nothing is known from this tick on
abbrev pub EndsAt : ℕ → State → Type 0
EndsAt e s = (line t : ℕ) → e ≤ t → readings_of s line t ≡ widest

pub set_ends : (e : ℕ) → 1000000001 ≤ e → (s : State) (w : Option Setting) (z : State) → SetBetween s w z → EndsAt e s → EndsAt e z
set_ends e far s None z h ends k t a = set_reads s None z h k t ∙ ends k t a
set_ends e far s (Some w) z h ends k t a =
    set_reads s (Some w) z h k t ∙ entered_elsewhere (readings_of s) w.line w.from w.to w.reading k t (inr (inr (omega (arith, h.far)))) ∙ ends k t a

-- the tally counts what is set, up to where it rests
pub set_counts : (s : State) (w : Option Setting) (z : State) → SetBetween s w z → (k : ℕ) → s.tally ≡ min k 4294967295 → z.tally ≡ min (k + setting_count w) 4294967295
set_counts s None z h k e = omega (arith, h.tally, e)
set_counts s (Some w) z h k e = omega (arith, h.tally, e)

-- each line's pieces are the one list of something
abbrev pub AllCanonical : List (List (Piece Reading)) → Type 0
AllCanonical lines = (line : ℕ) → line < length lines → Canonical (get_or lines line [])

canonical_lists : (f : ℕ → Reading) (ps : List (Piece Reading)) → Lists f ps → Canonical ps
canonical_lists f ps h = h.0

set_canonical : (lines : List (List (Piece Reading))) (line : ℕ) (ps : List (Piece Reading)) → Canonical ps → AllCanonical lines → AllCanonical (set lines line ps)
set_canonical lines line ps c h k lt =
    let inside : k < length lines = subst (λ (n : ℕ). k < n) (length-set lines line ps) lt in
    elim (eqb k line) as (λ (b : Bool). eqb k line ≡ b → Canonical (get_or (set lines line ps) k [])) [
      | true ↦ λ e.
          let is : k ≡ line = eqb-true k line e in
          let at : get_or (set lines line ps) k [] ≡ ps = subst (λ (j : ℕ). get_or (set lines line ps) j [] ≡ ps) (sym is) (get_or-set_same lines line ps [] (subst (λ (j : ℕ). j < length lines) is inside)) in
          subst (λ (v : List (Piece Reading)). Canonical v) (sym at) c
      | false ↦ λ e. subst (λ (v : List (Piece Reading)). Canonical v) (sym (get_or-set_other lines line k ps [] (eqb-false k line e))) (h k inside)
    ] refl

-- as many lines, and lists that are the one list of something stay so
pub record Onward (s z : State) : Type 0 where
  pub many : length z.lines ≡ length s.lines
  pub canonical : AllCanonical s.lines → AllCanonical z.lines

pub set_onward : (s : State) (w : Option Setting) (z : State) → SetBetween s w z → Onward s z
set_onward s None z h = record { many = ap (λ (v : List (List (Piece Reading))). length v) h.lines; canonical = λ c. subst (λ (v : List (List (Piece Reading))). AllCanonical v) (sym h.lines) c }
set_onward s (Some w) z h = record {
  many = ap (λ (v : List (List (Piece Reading))). length v) h.lines ∙ length-set s.lines w.line h.pieces;
  canonical = λ c. subst (λ (v : List (List (Piece Reading))). AllCanonical v) (sym h.lines) (set_canonical s.lines w.line h.pieces (canonical_lists _ h.pieces h.listed) c);
}
