-- What a run keeps of the job: its lines as lists, its tally and its seal.
use Rattle.std.proofs.Common.{◌≡◌, ℕ, zero, suc, ◌+◌, ◌<◌, min, Bool, ◌||◌, List, [], ◌∷◌, length, get_or, replicate, sym, refl, ap, ◌∙◌, subst, arith}
use Rattle.std.proofs.Math.Bool.{or_assoc}
use Rattle.grades.specs.Kinds.{Kind}
use Rattle.pieces.specs.declared.piece.Piece.{Piece}
use Rattle.pieces.specs.Pieces.{Canonical, Lists}
use Rattle.meaning.specs.declared.reading.Reading.{Reading}
use Rattle.runs.specs.States.{State, reading_at, blank, opened}
use Rattle.runs.specs.Runs.{Event, Ran, standing, sets, setting_count, entries, is_seal, any_seal}
use Rattle.runs.proofs.Settings.{Onward, set_onward, set_counts}
use Rattle.runs.proofs.Turns.{or_false, turned, turn_sets, opened_reads}

lists_read : (f : ℕ → Reading) (ps : List (Piece Reading)) → Canonical ps → ((t : ℕ) → reading_at ps t ≡ f t) → Lists f ps
lists_read f [] c h = absurd c
lists_read f (p ∷ ps) c h = (c, h)

blank_canonical : (n line : ℕ) → line < length (replicate n blank) → Canonical (get_or (replicate n blank) line [])
blank_canonical zero line lt = absurd (omega (arith, lt))
blank_canonical (suc n) zero lt = (refl, tt)
blank_canonical (suc n) (suc line) lt = blank_canonical n line (omega (arith, lt))

blanks : (n : ℕ) → length (replicate n blank) ≡ n
blanks zero = refl
blanks (suc n) = ap suc (blanks n)

module _ {N : Type 0} (kinds : N → Kind) where
  ran_onward : (s z : State) (es : List (Event kinds)) → Ran kinds s es z → Onward s z
  ran_onward s z [] h = subst (λ (v : State). Onward s v) (sym h) (record { many = refl; canonical = λ c. c })
  ran_onward s z (e ∷ es) h =
      let one = set_onward s (sets kinds e) h.0 (turn_sets kinds s h.0 e h.1.0) in
      let more = ran_onward h.0 z es h.1.1 in
      record { many = more.many ∙ one.many; canonical = λ c. more.canonical (one.canonical c) }

  pub keeps_lists : (lines : ℕ) (es : List (Event kinds)) (z : State) → Ran kinds (opened lines) es z → (length z.lines ≡ lines) × ((line : ℕ) → line < lines → Lists (standing kinds es line) (get_or z.lines line []))
  keeps_lists lines es z h =
      let on = ran_onward (opened lines) z es h in
      let many : length z.lines ≡ lines = on.many ∙ blanks lines in
      (many, λ line lt. lists_read (standing kinds es line) (get_or z.lines line []) (on.canonical (blank_canonical lines) line (subst (λ (n : ℕ). line < n) (sym many) lt)) (opened_reads kinds lines z es h line))

  -- the tally
  ran_counts : (s z : State) (es : List (Event kinds)) → Ran kinds s es z → (k : ℕ) → s.tally ≡ min k 4294967295 → z.tally ≡ min (k + entries kinds es) 4294967295
  ran_counts s z [] h k e = let is : z.tally ≡ s.tally = ap (λ (v : State). v.tally) h in omega (arith, is, e)
  ran_counts s z (e ∷ es) h k b =
      let one : ℕ = setting_count (sets kinds e) in
      let more = ran_counts h.0 z es h.1.1 (k + one) (set_counts s (sets kinds e) h.0 (turn_sets kinds s h.0 e h.1.0) k b) in
      let sum : (k + one) + entries kinds es ≡ k + (one + entries kinds es) = omega arith in
      more ∙ ap (λ (n : ℕ). min n 4294967295) sum

  pub counts_entries : (lines : ℕ) (es : List (Event kinds)) (z : State) → Ran kinds (opened lines) es z → z.tally ≡ min (entries kinds es) 4294967295
  counts_entries lines es z h = let c = ran_counts (opened lines) z es h 0 refl in omega (arith, c)

  -- the seal
  ran_seals : (s z : State) (es : List (Event kinds)) → Ran kinds s es z → z.sealed ≡ (s.sealed || any_seal kinds es)
  ran_seals s z [] h = ap (λ (v : State). v.sealed) h ∙ or_false s.sealed
  ran_seals s z (e ∷ es) h =
      ran_seals h.0 z es h.1.1 ∙ ap (λ (b : Bool). b || any_seal kinds es) (turned kinds s h.0 e h.1.0).sealed ∙ or_assoc s.sealed (is_seal kinds e) (any_seal kinds es)

  pub seals_once : (lines : ℕ) (es : List (Event kinds)) (z : State) → Ran kinds (opened lines) es z → z.sealed ≡ any_seal kinds es
  seals_once lines es z h = ran_seals (opened lines) z es h
