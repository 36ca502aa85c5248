-- A text has one answer: its lines say one list of items, or it stops at one bad line.
use Rattle.std.proofs.Common.{◌≡◌, ℕ, List, [], ◌∷◌, ◌++◌, length, ℤ, sym, refl, ap, ◌∙◌, subst, ⊎_elim, arith}
use mathlib.Core.List.{head-eq_of_cons-eq, tail-eq_of_cons-eq}
use Rattle.std.proofs.lemmas.Bool.{cases_order}
use Rattle.std.specs.List.{AllByRecursion}
use Rattle.tokens.specs.Words.{Digit}
use Rattle.cases.specs.declared.field.Entry.{Entry}
use Rattle.cases.specs.Contents.{Item, name, entry, tick}
use Rattle.case_text.specs.Pieces.{lines_of, spoken, behind_word}
use Rattle.case_text.specs.Words.{WholeNumber, PlainNumber, MinusNumber, WritesReading, plain, minus, FirstNamed, WordsEnter}
use Rattle.case_text.specs.Sayings.{Silent, LineSays, a_name, a_rule, an_entry, a_tick, Foregone, and_then, and_all, at_first, MayCome, Speaks, SpeaksNot, Bad, LinesSay}
use Rattle.case_text.specs.Sayings as say
use Rattle.case_text.specs.Laws.{OneSaying, OneStop, NeverSaidAndStopped}
use Rattle.case_text.proofs.Keywords.{loud}
use Rattle.case_text.proofs.Fives.{its_line, its_from, its_to, its_lower, its_upper}

one_line : (names : List (List ℕ)) (w : List ℕ) (j k : ℕ) → FirstNamed names w j → FirstNamed names w k → j ≡ k
one_line names w j k x y = ⊎_elim (λ e. e) (⊎_elim (λ l. absurd (y.first j l x.same)) (λ l. absurd (x.first k l y.same))) (cases_order j k)

no_sign : (w ds : List ℕ) (y : ℤ) → w ≡ 45 ∷ ds → PlainNumber w y → ⊥
no_sign w ds y e p = let d : AllByRecursion Digit (45 ∷ ds) = subst (AllByRecursion Digit) e p.digits.all in omega (arith, d.0.0)

one_reading : (w : List ℕ) (y z : ℤ) → WritesReading w y → WritesReading w z → y ≡ z
one_reading w y z (plain p) (plain q) = p.value ∙ sym q.value
one_reading w y z (plain p) (minus {ds = ds} f m) = absurd (no_sign w ds y f p)
one_reading w y z (minus {ds = ds} e m) (plain q) = absurd (no_sign w ds z e q)
one_reading w y z (minus {ds = ds} e m) (minus {ds = other} f n) = m.value ∙ sym (subst (λ (v : List ℕ). MinusNumber v z) (tail-eq_of_cons-eq (sym f ∙ e)) n).value

one_entry : (names : List (List ℕ)) (words : List ℕ) (d e : Entry) → WordsEnter names words d → WordsEnter names words e → d ≡ e
one_entry names words d e x y =
    let f = x.five in
    let l = one_line names x.which d.line e.line x.line_is (its_line names words x.which x.begin x.end x.low x.high f e y) in
    let a = x.from_is.value ∙ sym (its_from names words x.which x.begin x.end x.low x.high f e y).value in
    let b = x.to_is.value ∙ sym (its_to names words x.which x.begin x.end x.low x.high f e y).value in
    let p = one_reading x.low d.lower e.lower x.lower_is (its_lower names words x.which x.begin x.end x.low x.high f e y) in
    let q = one_reading x.high d.upper e.upper x.upper_is (its_upper names words x.which x.begin x.end x.low x.high f e y) in
    λ i. record { line = l i; from = a i; to = b i; lower = p i; upper = q i }

one_key : {key : List ℕ} {a b : ℕ} {xs ys : List ℕ} → key ≡ a ∷ xs → key ≡ b ∷ ys → a ≡ b
one_key e f = head-eq_of_cons-eq (sym e ∙ f)

one_item : (names : List (List ℕ)) (line : List ℕ) (i j : Item) → LineSays names line i → LineSays names line j → i ≡ j
one_item names line i j (a_name e n p) (a_name f m q) = p ∙ ap name (head-eq_of_cons-eq (sym n ∙ m)) ∙ sym q
one_item names line i j (a_name e n p) (a_rule f q) = absurd (omega (arith, one_key e f))
one_item names line i j (a_name e n p) (an_entry f m q) = absurd (omega (arith, one_key e f))
one_item names line i j (a_name e n p) (a_tick f m o q) = absurd (omega (arith, one_key e f))
one_item names line i j (a_rule e p) (a_name f m q) = absurd (omega (arith, one_key e f))
one_item names line i j (a_rule e p) (a_rule f q) = p ∙ sym q
one_item names line i j (a_rule e p) (an_entry f m q) = absurd (omega (arith, one_key e f))
one_item names line i j (a_rule e p) (a_tick f m o q) = absurd (omega (arith, one_key e f))
one_item names line i j (an_entry e n p) (a_name f m q) = absurd (omega (arith, one_key e f))
one_item names line i j (an_entry e n p) (a_rule f q) = absurd (omega (arith, one_key e f))
one_item names line i j (an_entry {e = x} e n p) (an_entry {e = y} f m q) = p ∙ ap entry (one_entry names (behind_word (spoken line)) x y n m) ∙ sym q
one_item names line i j (an_entry e n p) (a_tick f m o q) = absurd (omega (arith, one_key e f))
one_item names line i j (a_tick e n k p) (a_name f m q) = absurd (omega (arith, one_key e f))
one_item names line i j (a_tick e n k p) (a_rule f q) = absurd (omega (arith, one_key e f))
one_item names line i j (a_tick e n k p) (an_entry f m q) = absurd (omega (arith, one_key e f))
one_item names line i j (a_tick {w = w} {n = t} e n k p) (a_tick {w = v} {n = u} f m o q) = p ∙ ap tick (k.value ∙ sym (subst (λ (x : List ℕ). WholeNumber x u) (head-eq_of_cons-eq (sym m ∙ n)) o).value) ∙ sym q

-- a line that says what may not stand there says nothing else
pub barred_here : (g : Foregone) (line : List ℕ) (i : Item) → LineSays g.names line i → (MayCome g i → ⊥) → SpeaksNot g line
barred_here g line i says bars = λ j s. bars (subst (MayCome g) (one_item g.names line j i s.says says) s.place)

-- a line and those behind it, by what the line says
data FirstLine (g : Foregone) (line : List ℕ) (more : List (List ℕ)) (items : List Item) : Type 0 where
  hushed : Silent line → LinesSay g more items → FirstLine g line more items
  voiced : (i : Item) (rest : List Item) → Speaks g line i → items ≡ i ∷ rest → LinesSay (and_then g i) more rest → FirstLine g line more items

first_line : (g : Foregone) (line : List ℕ) (more : List (List ℕ)) (items : List Item) → LinesSay g (line ∷ more) items → FirstLine g line more items
first_line g line more items (say.nothing e f) = absurd (omega (arith, ap length e))
first_line g line more items (say.silent {more = rest} {line = l} e s m) = hushed (subst Silent (sym (head-eq_of_cons-eq e)) s) (subst (λ (v : List (List ℕ)). LinesSay g v items) (sym (tail-eq_of_cons-eq e)) m)
first_line g line more items (say.item {line = l} {i = i} {rest = rest} e s f m) =
    voiced i rest (subst (λ (v : List ℕ). Speaks g v i) (sym (head-eq_of_cons-eq e)) s) f (subst (λ (v : List (List ℕ)). LinesSay (and_then g i) v rest) (sym (tail-eq_of_cons-eq e)) m)

no_line : (g : Foregone) (items : List Item) → LinesSay g [] items → items ≡ []
no_line g items (say.nothing e f) = f
no_line g items (say.silent e s m) = absurd (omega (arith, ap length e))
no_line g items (say.item e s f m) = absurd (omega (arith, ap length e))

one_list : (g : Foregone) (lines : List (List ℕ)) (a b : List Item) → LinesSay g lines a → LinesSay g lines b → a ≡ b
one_list g [] a b x y = no_line g a x ∙ sym (no_line g b y)
one_list g (line ∷ more) a b x y =
    elim (first_line g line more a x) [
      | hushed s m ↦
          elim (first_line g line more b y) [
            | hushed t n ↦ one_list g more a b m n
            | voiced i rest t e n ↦ absurd (loud g.names line i s t.says)
          ]
      | voiced i rest s e m ↦
          elim (first_line g line more b y) [
            | hushed t n ↦ absurd (loud g.names line i t s.says)
            | voiced j next t f n ↦
                let same : i ≡ j = one_item g.names line i j s.says t.says in
                let tail : rest ≡ next = one_list (and_then g i) more rest next m (subst (λ (k : Item). LinesSay (and_then g k) more next) (sym same) n) in
                e ∙ (λ d. same d ∷ tail d) ∙ sym f
          ]
    ]

pub one_saying : OneSaying
one_saying text a b x y = one_list at_first (lines_of text) a b x y

-- a bad line is not among lines that say items
refuse : (g : Foregone) (line : List ℕ) (more : List (List ℕ)) (items : List Item) → LinesSay g (line ∷ more) items → Bad g line → ⊥
refuse g line more items x bad = elim (first_line g line more items x) [ hushed s m ↦ bad.loud s | voiced i rest s e m ↦ bad.none i s ]

none_yet : (g : Foregone) (line : List ℕ) (a : List Item) → LinesSay g [] a → Bad (and_all g a) line → Bad g line
none_yet g line a x bad = subst (λ (v : List Item). Bad (and_all g v) line) (no_line g a x) bad

further : (g : Foregone) (line : List ℕ) (i : Item) (a rest : List Item) → a ≡ i ∷ rest → Bad (and_all g a) line → Bad (and_all (and_then g i) rest) line
further g line i a rest e bad = subst (λ (v : List Item). Bad (and_all g v) line) e bad

agree : (g : Foregone) (x y : List (List ℕ)) (l m : List ℕ) (p q : List (List ℕ)) (a b : List Item) → x ++ (l ∷ p) ≡ y ++ (m ∷ q) → LinesSay g x a → Bad (and_all g a) l → LinesSay g y b → Bad (and_all g b) m → length x ≡ length y
agree g [] [] l m p q a b e sx bx sy by = refl
agree g [] (k ∷ y) l m p q a b e sx bx sy by = absurd (refuse g k y b sy (subst (Bad g) (head-eq_of_cons-eq e) (none_yet g l a sx bx)))
agree g (j ∷ x) [] l m p q a b e sx bx sy by = absurd (refuse g j x a sx (subst (Bad g) (sym (head-eq_of_cons-eq e)) (none_yet g m b sy by)))
agree g (j ∷ x) (k ∷ y) l m p q a b e sx bx sy by =
    elim (first_line g j x a sx) [
      | hushed s xs ↦
          elim (first_line g k y b sy) [
            | hushed t ys ↦ omega (arith, agree g x y l m p q a b (tail-eq_of_cons-eq e) xs bx ys by)
            | voiced i rest t f ys ↦ absurd (loud g.names k i (subst Silent (head-eq_of_cons-eq e) s) t.says)
          ]
      | voiced i rest s f xs ↦
          elim (first_line g k y b sy) [
            | hushed t ys ↦ absurd (loud g.names j i (subst Silent (sym (head-eq_of_cons-eq e)) t) s.says)
            | voiced h next t o ys ↦
                let same : i ≡ h = one_item g.names k i h (subst (λ (v : List ℕ). LineSays g.names v i) (head-eq_of_cons-eq e) s.says) t.says in
                omega (arith, agree (and_then g i) x y l m p q rest next (tail-eq_of_cons-eq e) xs (further g l i a rest f bx) (subst (λ (v : Item). LinesSay (and_then g v) y next) (sym same) ys) (subst (λ (v : Item). Bad (and_all (and_then g v) next) m) (sym same) (further g m h b next o by)))
          ]
    ]

pub one_stop : OneStop
one_stop text m n x y =
    omega (arith, x.count, y.count, agree at_first x.before y.before x.line y.line x.behind y.behind x.items y.items (sym x.split ∙ y.split) x.said x.bad y.said y.bad)

clash : (g : Foregone) (x : List (List ℕ)) (l : List ℕ) (p : List (List ℕ)) (a b : List Item) → LinesSay g (x ++ (l ∷ p)) a → LinesSay g x b → Bad (and_all g b) l → ⊥
clash g [] l p a b all sx bx = refuse g l p a all (none_yet g l b sx bx)
clash g (j ∷ x) l p a b all sx bx =
    elim (first_line g j (x ++ (l ∷ p)) a all) [
      | hushed s m ↦
          elim (first_line g j x b sx) [
            | hushed t n ↦ clash g x l p a b m n bx
            | voiced i rest t f n ↦ loud g.names j i s t.says
          ]
      | voiced i rest s f m ↦
          elim (first_line g j x b sx) [
            | hushed t n ↦ loud g.names j i t s.says
            | voiced h next t o n ↦
                let same : i ≡ h = one_item g.names j i h s.says t.says in
                clash (and_then g i) x l p rest next m (subst (λ (v : Item). LinesSay (and_then g v) x next) (sym same) n) (subst (λ (v : Item). Bad (and_all (and_then g v) next) l) (sym same) (further g l h b next o bx))
          ]
    ]

pub never_both : NeverSaidAndStopped
never_both text items n x y = clash at_first y.before y.line y.behind items y.items (subst (λ (v : List (List ℕ)). LinesSay at_first v items) y.split x) y.said y.bad
