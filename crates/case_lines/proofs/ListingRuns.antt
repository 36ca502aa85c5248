-- Listings as runs of calls.
use Rattle.std.proofs.Common.{ℕ, List, [], ◌∷◌, ◌++◌, Ok, Err, sym, refl, ◌∙◌, subst}
use Rattle.runs.specs.Families.{truth_and_margin}
use Rattle.runs.specs.States.{State, opened, line_count}
use Rattle.runs.specs.Calls.{RuleRows}
use Rattle.runs.specs.Runs.{Event, Turn, Ran}
use Rattle.runs.proofs.Turns.{ran_split, ran_join}
use Rattle.lent.specs.Holding.{CellCounts}
use Rattle.cases.specs.Contents.{Item}
use Rattle.cases.specs.Headings.{OpenedCase}
use Rattle.cases.proofs.OneReading.{one_opening}
use Rattle.cases.proofs.OpenedRules.{opened_sound, heading_apart, same_heading}
use Rattle.case_lines.specs.Listings.{Ticks, Does, ListsFields, LentCells, Listing, too_long, no_heading, listed}
use Rattle.case_lines.specs.Listings as does
use Rattle.case_lines.specs.Runs.{entry_event, in_truth, in_margin, marking, Prints, enters, no_truth, no_margin, no_marks, verdict, AllPrint, ended, refused, prints, ListingsRun, RunsList}
use Rattle.case_lines.proofs.OneListing.{sized_one}

module _ (cells : CellCounts) (rule : RuleRows) where
  -- what field k does as calls
  record Calls (k : ℕ) (i : Item) (s z : State) (text : List ℕ) : Type 0 where
    pub events : List (Event truth_and_margin)
    pub ran : Ran truth_and_margin s events z
    pub printed : Prints cells rule k i events text

  called : (k : ℕ) (i : Item) (s z : State) (text : List ℕ) → Does cells rule.rows k i s z text → Calls k i s z text
  called k i s z text (does.enters e is d) = record { events = entry_event e d.reply ∷ []; ran = (z, (d.turn, refl)); printed = enters e d.reply is refl d.prints }
  called k i s z text (does.ticks t is (does.no_truth n a w) same) = record { events = in_truth cells rule t (Err n) ∷ []; ran = (s, ((a, refl), same)); printed = no_truth t n is refl w }
  called k i s z text (does.ticks t is (does.no_margin p n a b w) same) = record { events = in_truth cells rule t (Ok p) ∷ (in_margin cells rule t (Err n) ∷ []); ran = (s, ((a, refl), (s, ((b, refl), same)))); printed = no_margin t n p is refl w }
  called k i s z text (does.ticks t is (does.no_marks p q n a b c w) same) = record { events = in_truth cells rule t (Ok p) ∷ (in_margin cells rule t (Ok q) ∷ (marking cells rule t (Err n) ∷ [])); ran = (s, ((a, refl), (s, ((b, refl), (s, ((c, refl), same)))))); printed = no_marks t n p q is refl w }
  called k i s z text (does.ticks t is (does.verdict p q m a b c w) same) = record { events = in_truth cells rule t (Ok p) ∷ (in_margin cells rule t (Ok q) ∷ (marking cells rule t (Ok m) ∷ [])); ran = (s, ((a, refl), (s, ((b, refl), (s, ((c, refl), same)))))); printed = verdict t p q m is refl w }

  -- the fields from number n on as a run
  record Running (n : ℕ) (s : State) (bytes text : List ℕ) : Type 0 where
    pub events : List (Event truth_and_margin)
    pub end : State
    pub ran : Ran truth_and_margin s events end
    pub printed : AllPrint cells rule n bytes events text

  runs : (n : ℕ) (s : State) (bytes text : List ℕ) → ListsFields cells rule.rows n s bytes text → Running n s bytes text
  runs n s bytes text (does.ended p w) = record { events = []; end = s; ran = refl; printed = ended p refl w }
  runs n s bytes text (does.refused e p w) = record { events = []; end = s; ran = refl; printed = refused e p refl w }
  runs n s bytes text (does.does {after = z} {first = first} {more = more} x p d l w) =
      let c = called x.field x.item s z first d in
      let r = runs x.next z x.rest more l in
      record { events = c.events ++ r.events; end = r.end; ran = ran_join truth_and_margin s z r.end c.events r.events c.ran r.ran; printed = prints x p c.printed r.printed refl w }

  -- and back: calls that lead from s to z do what the field does
  done : (k : ℕ) (i : Item) (s z : State) (text : List ℕ) (es : List (Event truth_and_margin)) → Prints cells rule k i es text → Ran truth_and_margin s es z → Does cells rule.rows k i s z text
  done k i s z text es (enters e r is made w) h =
      let g = subst (λ (v : List (Event truth_and_margin)). Ran truth_and_margin s v z) made h in
      does.enters e is (record { reply = r; turn = subst (λ (y : State). Turn truth_and_margin s (entry_event e r) y) (sym g.1.1) g.1.0; prints = w })
  done k i s z text es (no_truth t n is made w) h =
      let g = subst (λ (v : List (Event truth_and_margin)). Ran truth_and_margin s v z) made h in
      does.ticks t is (does.no_truth n g.1.0.0 w) (g.1.1 ∙ g.1.0.1)
  done k i s z text es (no_margin t n p is made w) h =
      let g = subst (λ (v : List (Event truth_and_margin)). Ran truth_and_margin s v z) made h in
      let f = subst (λ (y : State). Ran truth_and_margin y (in_margin cells rule t (Err n) ∷ []) z) g.1.0.1 g.1.1 in
      does.ticks t is (does.no_margin p n g.1.0.0 f.1.0.0 w) (f.1.1 ∙ f.1.0.1)
  done k i s z text es (no_marks t n p q is made w) h =
      let g = subst (λ (v : List (Event truth_and_margin)). Ran truth_and_margin s v z) made h in
      let f = subst (λ (y : State). Ran truth_and_margin y (in_margin cells rule t (Ok q) ∷ (marking cells rule t (Err n) ∷ [])) z) g.1.0.1 g.1.1 in
      let l = subst (λ (y : State). Ran truth_and_margin y (marking cells rule t (Err n) ∷ []) z) f.1.0.1 f.1.1 in
      does.ticks t is (does.no_marks p q n g.1.0.0 f.1.0.0 l.1.0.0 w) (l.1.1 ∙ l.1.0.1)
  done k i s z text es (verdict t p q m is made w) h =
      let g = subst (λ (v : List (Event truth_and_margin)). Ran truth_and_margin s v z) made h in
      let f = subst (λ (y : State). Ran truth_and_margin y (in_margin cells rule t (Ok q) ∷ (marking cells rule t (Ok m) ∷ [])) z) g.1.0.1 g.1.1 in
      let l = subst (λ (y : State). Ran truth_and_margin y (marking cells rule t (Ok m) ∷ []) z) f.1.0.1 f.1.1 in
      does.ticks t is (does.verdict p q m g.1.0.0 f.1.0.0 l.1.0.0 w) (l.1.1 ∙ l.1.0.1)

  lists : (n : ℕ) (s z : State) (bytes text : List ℕ) (es : List (Event truth_and_margin)) → AllPrint cells rule n bytes es text → Ran truth_and_margin s es z → ListsFields cells rule.rows n s bytes text
  lists n s z bytes text es (ended p e w) h = does.ended p w
  lists n s z bytes text es (refused x p e w) h = does.refused x p w
  lists n s z bytes text es (prints {first = first} {more = more} {fs = fs} {gs = gs} x p d l e w) h =
      let a = ran_split truth_and_margin s z fs gs (subst (λ (v : List (Event truth_and_margin)). Ran truth_and_margin s v z) e h) in
      does.does x p (done x.field x.item s a.0 first fs d a.1.0) (lists x.next a.0 z x.rest more gs l a.1.1) w

pub run : ListingsRun
run lent case text o sized opens (too_long x p e) = absurd (sized_one case x sized p)
run lent case text o sized opens (no_heading x p g e) = absurd (heading_apart o x (one_opening 1 [] case (Ok o) (Err x) opens g))
run lent case text o sized opens (listed i p g l) =
    let same = same_heading i o (one_opening 1 [] case (Ok i) (Ok o) g opens) in
    let sound = opened_sound o opens in
    let all = subst (λ (x : OpenedCase). ListsFields lent.cells x.rows x.next (opened (line_count x.lines lent.pieces)) x.rest text) same l in
    let r = runs lent.cells (record { rows = o.rows; sound = sound }) o.next (opened (line_count o.lines lent.pieces)) o.rest text all in
    record { sound = sound; events = r.events; end = r.end; ran = r.ran; printed = r.printed }

pub back : RunsList
back lent case text o sized opens r =
    listed o sized opens (lists lent.cells (record { rows = o.rows; sound = r.sound }) o.next (opened (line_count o.lines lent.pieces)) r.end o.rest text r.events r.printed r.ran)
