-- Verdicts and marks along a run.
use Rattle.std.proofs.Common.{◌≡◌, ℕ, List, ◌∷◌, ◌++◌, sym, ap, ◌∙◌, subst}
use Rattle.grades.specs.Kinds.{Kind, Lawful}
use Rattle.grades.specs.Ranges.{Span, Inside, Holds, Settled}
use Rattle.rules.specs.declared.row.Row.{Row}
use Rattle.rules.specs.Rows.{root, Sound}
use Rattle.meaning.specs.declared.reading.Reading.{Reading}
use Rattle.meaning.specs.declared.mark.Mark.{Mark}
use Rattle.meaning.specs.Readings.{Readings, Within, Exact, AllWithin, AllExact}
use Rattle.meaning.specs.Verdicts.{verdict, exact_grade}
use Rattle.meaning.specs.Marks.{Marks, AtMarks}
use Rattle.meaning.proofs.Rows.{root_below}
use Rattle.meaning.proofs.Kept.{values_nest, values_hold}
use Rattle.meaning.proofs.Blame.{marks_suffice_lem, marks_settle_lem}
use Rattle.runs.specs.States.{State, opened, readings_of}
use Rattle.runs.specs.Runs.{Event, Turn, Ran, standing, Gives, by_judge, by_mark, MarksBy, marked, AllMiss}
use Rattle.runs.proofs.Settings.{within_refl, within_trans}
use Rattle.runs.proofs.Turns.{ran_narrows, turn_narrows, ran_keeps, ran_split, ran_join, opened_reads}

-- what an accepted judgement or marking of the state s says
pub record Said (K : Kind) (s : State) (rows : List Row) (t : ℕ) (p : Span K.Value) : Type 0 where
  pub sound : Sound rows
  pub is : p ≡ verdict K rows (readings_of s) t

module _ {N : Type 0} (kinds : N → Kind) where
  pub said : (s z : State) (e : Event kinds) (n : N) (rows : List Row) (t : ℕ) (p : Span (kinds n).Value) → Turn kinds s e z → Gives kinds e n rows t p → Said (kinds n) s rows t p
  said s z e n rows t p h (by_judge a c is) =
      record { sound = subst (λ (v : List Row). Sound v) is a.sound; is = h.0.1 ∙ ap (λ (v : List Row). verdict (kinds n) v (readings_of s) t) is }
  said s z e n rows t p h (by_mark a c w k m is) =
      record { sound = subst (λ (v : List Row). Sound v) is a.sound; is = h.0.1 ∙ ap (λ (v : List Row). verdict (kinds n) v (readings_of s) t) is }

  pub record SaidMarks (n : N) (s z : State) (rows : List Row) (t : ℕ) (p : Span (kinds n).Value) (ms : List Mark) : Type 0 where
    pub says : Said (kinds n) s rows t p
    pub lists : Marks (kinds n) rows (readings_of s) t ms
    pub stays : z ≡ s

  pub said_marks : (s z : State) (e : Event kinds) (n : N) (rows : List Row) (t : ℕ) (p : Span (kinds n).Value) (ms : List Mark) → Turn kinds s e z → MarksBy kinds e n rows t p ms → SaidMarks n s z rows t p ms
  said_marks s z e n rows t p ms h (marked a c w k m is) =
      record {
        says = record { sound = subst (λ (v : List Row). Sound v) is a.sound; is = h.0.1 ∙ ap (λ (v : List Row). verdict (kinds n) v (readings_of s) t) is };
        lists = subst (λ (v : List Row). Marks (kinds n) v (readings_of s) t m.marks) is h.0.2;
        stays = h.1;
      }

  pub own_verdict : (e : Event kinds) (n : N) (rows : List Row) (t : ℕ) (p : Span (kinds n).Value) (ms : List Mark) → MarksBy kinds e n rows t p ms → Gives kinds e n rows t p
  own_verdict e n rows t p ms (marked a c w k m is) = by_mark a c w k m is

  pub own_alone : (start z : State) (before behind : List (Event kinds)) (m : Event kinds) (n : N) (rows : List Row) (t : ℕ) (p q : Span (kinds n).Value) (ms : List Mark) → Ran kinds start (before ++ (m ∷ behind)) z → MarksBy kinds m n rows t p ms → Gives kinds m n rows t q → q ≡ p
  own_alone start z before behind m n rows t p q ms h g i =
      let a = ran_split kinds start z before (m ∷ behind) h in
      let turn = a.1.1.1.0 in
      (said a.0 a.1.1.0 m n rows t q turn i).is ∙ sym (said_marks a.0 a.1.1.0 m n rows t p ms turn g).says.is

  -- the states around two events of a run
  pub record Around (before between behind : List (Event kinds)) (e f : Event kinds) (start : State) : Type 0 where
    pub at : State
    pub then : State
    pub later : State
    pub last : State
    pub came : Ran kinds start before at
    pub first : Turn kinds at e then
    pub way : Ran kinds then between later
    pub second : Turn kinds later f last

  pub around : (before between behind : List (Event kinds)) (e f : Event kinds) (start z : State) → Ran kinds start (before ++ (e ∷ (between ++ (f ∷ behind)))) z → Around before between behind e f start
  around before between behind e f start z h =
      let a = ran_split kinds start z before (e ∷ (between ++ (f ∷ behind))) h in
      let b = a.1.1 in
      let c = ran_split kinds b.0 z between (f ∷ behind) b.1.1 in
      let d = c.1.1 in
      record { at = a.0; then = b.0; later = c.0; last = d.0; came = a.1.0; first = b.1.0; way = c.1.0; second = d.1.0 }

  narrower : {before between behind : List (Event kinds)} {e f : Event kinds} {start : State} (a : Around before between behind e f start) → AllWithin (readings_of a.later) (readings_of a.at)
  narrower {between = between} {e = e} a k t = within_trans _ _ _ (ran_narrows kinds a.then a.later between a.way k t) (turn_narrows kinds a.at a.then e a.first k t)

  module _ (lawful : (n : N) → Lawful (kinds n)) where
    pub nest : (start z : State) (before between behind : List (Event kinds)) (e f : Event kinds) (n : N) (rows : List Row) (t : ℕ) (p q : Span (kinds n).Value) → Ran kinds start (before ++ (e ∷ (between ++ (f ∷ behind)))) z → Gives kinds e n rows t p → Gives kinds f n rows t q → Inside (kinds n) q p
    nest start z before between behind e f n rows t p q h g i =
        let a = around before between behind e f start z h in
        let one = said a.at a.then e n rows t p a.first g in
        let two = said a.later a.last f n rows t q a.second i in
        subst (λ (v : Span (kinds n).Value). Inside (kinds n) v p) (sym two.is) (subst (λ (v : Span (kinds n).Value). Inside (kinds n) (verdict (kinds n) rows (readings_of a.later) t) v) (sym one.is) (values_nest (lawful n) one.sound (readings_of a.at) (readings_of a.later) (narrower a) (root rows) (root_below one.sound) t))

    pub hold : (lines : ℕ) (z : State) (before behind : List (Event kinds)) (e : Event kinds) (n : N) (rows : List Row) (t : ℕ) (p : Span (kinds n).Value) (y : Readings) → Ran kinds (opened lines) (before ++ (e ∷ behind)) z → Gives kinds e n rows t p → AllExact y → AllWithin y (standing kinds before) → Holds (kinds n) p (exact_grade (kinds n) rows y t)
    hold lines z before behind e n rows t p y h g exact within =
        let a = ran_split kinds (opened lines) z before (e ∷ behind) h in
        let s = a.0 in
        let one = said s a.1.1.0 e n rows t p a.1.1.1.0 g in
        let inside : AllWithin y (readings_of s) = λ k u. subst (λ (r : Reading). Within (y k u) r) (sym (opened_reads kinds lines s before a.1.0 k u)) (within k u) in
        subst (λ (v : Span (kinds n).Value). Holds (kinds n) v (exact_grade (kinds n) rows y t)) (sym one.is) (values_hold (lawful n) one.sound (readings_of s) y inside (root rows) (root_below one.sound) t)

    pub suffice : (start z : State) (before between behind : List (Event kinds)) (m f : Event kinds) (n : N) (rows : List Row) (t : ℕ) (p q : Span (kinds n).Value) (ms : List Mark) → Ran kinds start (before ++ (m ∷ (between ++ (f ∷ behind)))) z → MarksBy kinds m n rows t p ms → Gives kinds f n rows t q → AllMiss kinds rows ms between → q ≡ p
    suffice start z before between behind m f n rows t p q ms h g i miss =
        let a = around before between behind m f start z h in
        let one = said_marks a.at a.then m n rows t p ms a.first g in
        let two = said a.later a.last f n rows t q a.second i in
        let same : AtMarks rows ms (λ line u. readings_of a.later line u ≡ readings_of a.at line u) = λ k line u l tests. ran_keeps kinds a.then a.later between rows ms a.way miss k line u l tests ∙ ap (λ (v : State). readings_of v line u) one.stays in
        two.is ∙ marks_suffice_lem (lawful n) one.says.sound (readings_of a.at) (readings_of a.later) t ms one.lists (narrower a) same ∙ sym one.says.is

    pub settle_own : (lines : ℕ) (z : State) (before behind : List (Event kinds)) (m : Event kinds) (n : N) (rows : List Row) (t : ℕ) (p : Span (kinds n).Value) (ms : List Mark) → Ran kinds (opened lines) (before ++ (m ∷ behind)) z → MarksBy kinds m n rows t p ms → AtMarks rows ms (λ line u. Exact (standing kinds before line u)) → Settled (kinds n) p
    settle_own lines z before behind m n rows t p ms h g exact =
        let a = ran_split kinds (opened lines) z before (m ∷ behind) h in
        let s = a.0 in
        let one = said_marks s a.1.1.0 m n rows t p ms a.1.1.1.0 g in
        let at : AtMarks rows ms (λ line u. Exact (readings_of s line u)) = λ k line u l tests. subst (λ (r : Reading). Exact r) (sym (opened_reads kinds lines s before a.1.0 line u)) (exact k line u l tests) in
        subst (λ (v : Span (kinds n).Value). Settled (kinds n) v) (sym one.says.is) (marks_settle_lem (lawful n) one.says.sound (readings_of s) (readings_of s) t ms one.lists (λ k u. within_refl (readings_of s k u)) at)

    pub settle : (lines : ℕ) (z : State) (before between behind : List (Event kinds)) (m f : Event kinds) (n : N) (rows : List Row) (t : ℕ) (p q : Span (kinds n).Value) (ms : List Mark) → Ran kinds (opened lines) (before ++ (m ∷ (between ++ (f ∷ behind)))) z → MarksBy kinds m n rows t p ms → Gives kinds f n rows t q → AtMarks rows ms (λ line u. Exact (standing kinds (before ++ (m ∷ between)) line u)) → Settled (kinds n) q
    settle lines z before between behind m f n rows t p q ms h g i exact =
        let a = around before between behind m f (opened lines) z h in
        let one = said_marks a.at a.then m n rows t p ms a.first g in
        let two = said a.later a.last f n rows t q a.second i in
        let there : Ran kinds (opened lines) (before ++ (m ∷ between)) a.later = ran_join kinds (opened lines) a.at a.later before (m ∷ between) a.came (a.then, (a.first, a.way)) in
        let at : AtMarks rows ms (λ line u. Exact (readings_of a.later line u)) = λ k line u l tests. subst (λ (r : Reading). Exact r) (sym (opened_reads kinds lines a.later (before ++ (m ∷ between)) there line u)) (exact k line u l tests) in
        subst (λ (v : Span (kinds n).Value). Settled (kinds n) v) (sym two.is) (marks_settle_lem (lawful n) one.says.sound (readings_of a.at) (readings_of a.later) t ms one.lists (narrower a) at)
