-- A machine that reads tokens one by one: every phrase takes it through, and where a reader stops it is stuck.
use Rattle.std.proofs.Common.{◌≡◌, ℕ, Bool, true, false, List, [], ◌∷◌, ◌++◌, None, Option, sym, refl, ap, ◌∙◌}
use Rattle.tokens.specs.declared.token.Token.{Token}
use Rattle.tokens.specs.declared.token.Token.TheVariants.{Or, And, Not, Open, Close, Left, Right, Comma, Minus, Always, Eventually, Until, AtLeast, AtMost, Name, Number}
use Rattle.rules.specs.declared.row.Side.{Side}
use Rattle.rules.specs.declared.row.Side.TheVariants as side
use Rattle.rules.specs.declared.modality.Modality.{Modality}
use Rattle.rules.specs.declared.modality.Modality.TheVariants as modality
use Rattle.rules.specs.Grammar.{PhraseSort, window, limit, part, meet, expr, modal_token, side_token, Phrase, span, plain, minus, test, opposite, modal, brackets, until, one_part, both, one_meet, either, phrase_tokens}
use Rattle.rules.specs.Readers.{Isnt, NoSide, NoNumber, NoLimit, NoStart, NoEnd, Over}

-- what stands before a phrase in a text that is read from the left
pub data Ctx : PhraseSort → Type 0 where
  modal_window : Ctx part → Modality → Ctx window
  until_window : Ctx part → Phrase expr → Ctx window
  test_limit : Ctx part → Option ℕ → Side → Ctx limit
  top : Ctx expr
  in_brackets : Ctx part → Ctx expr
  after_until : Ctx part → Phrase expr → Phrase window → Ctx expr
  at_meet : Ctx expr → Ctx meet
  after_or : Ctx expr → Phrase expr → Ctx meet
  at_part : Ctx meet → Ctx part
  after_and : Ctx meet → Phrase meet → Ctx part
  after_not : Ctx part → Ctx part
  after_modal : Ctx part → Modality → Phrase window → Ctx part

-- a machine that reads token by token
pub data State : Type 0 where
  want : Ctx part → State
  have : Ctx part → Phrase part → State
  named : Ctx part → Option ℕ → State
  win0 : Ctx window → State
  win1 : Ctx window → State
  win2 : Ctx window → ℕ → State
  win3 : Ctx window → ℕ → State
  win4 : Ctx window → ℕ → ℕ → State
  lim0 : Ctx limit → State
  lim1 : Ctx limit → State
  dead : State

abbrev pub got : Ctx part → Phrase part → State
got (at_part k) p = have (at_part k) p
got (after_and k m) p = have (after_and k m) p
got (after_not k) p = got k (opposite p)
got (after_modal k m w) p = got k (modal m w p)

abbrev pub up_meet : Ctx part → Phrase part → Ctx meet × Phrase meet
up_meet (at_part k) p = (k, one_part p)
up_meet (after_and k m) p = (k, both m p)
up_meet (after_not k) p = up_meet k (opposite p)
up_meet (after_modal k m w) p = up_meet k (modal m w p)

abbrev pub up_expr : Ctx meet → Phrase meet → Ctx expr × Phrase expr
up_expr (at_meet k) m = (k, one_meet m)
up_expr (after_or k e) m = (k, either e m)

abbrev pub up : Ctx part → Phrase part → Ctx expr × Phrase expr
up k p = up_expr (up_meet k p).0 (up_meet k p).1

abbrev pub close : Ctx expr → Phrase expr → State
close top e = dead
close (in_brackets k) e = got k (brackets e)
close (after_until k e w) f = got k (until e w f)

abbrev pub second : Ctx expr → Phrase expr → State
second top e = dead
second (in_brackets k) e = win0 (until_window k e)
second (after_until k e w) f = dead

-- where a phrase of each kind is wanted
abbrev pub start : (l : PhraseSort) → Ctx l → State
start window c = win0 c
start limit c = lim0 c
start part k = want k
start meet k = want (at_part k)
start expr k = want (at_part (at_meet k))

abbrev pub opened : Ctx window → Phrase window → State
opened (modal_window k m) w = want (after_modal k m w)
opened (until_window k e) w = start expr (after_until k e w)

abbrev pub limited : Ctx limit → Phrase limit → State
limited (test_limit k n s) v = got k (test n s v)

abbrev pub step : State → Token → State
step (want k) Or = dead
step (want k) And = dead
step (want k) Not = want (after_not k)
step (want k) Open = start expr (in_brackets k)
step (want k) Close = dead
step (want k) Left = dead
step (want k) Right = dead
step (want k) Comma = dead
step (want k) Minus = dead
step (want k) Always = win0 (modal_window k modality.Always)
step (want k) Eventually = win0 (modal_window k modality.Eventually)
step (want k) Until = dead
step (want k) AtLeast = dead
step (want k) AtMost = dead
step (want k) (Name x) = named k x
step (want k) (Number x) = dead
step (have k p) Or = want (at_part (after_or (up k p).0 (up k p).1))
step (have k p) And = want (after_and (up_meet k p).0 (up_meet k p).1)
step (have k p) Not = dead
step (have k p) Open = dead
step (have k p) Close = close (up k p).0 (up k p).1
step (have k p) Left = dead
step (have k p) Right = dead
step (have k p) Comma = dead
step (have k p) Minus = dead
step (have k p) Always = dead
step (have k p) Eventually = dead
step (have k p) Until = second (up k p).0 (up k p).1
step (have k p) AtLeast = dead
step (have k p) AtMost = dead
step (have k p) (Name x) = dead
step (have k p) (Number x) = dead
step (named k n) Or = dead
step (named k n) And = dead
step (named k n) Not = dead
step (named k n) Open = dead
step (named k n) Close = dead
step (named k n) Left = dead
step (named k n) Right = dead
step (named k n) Comma = dead
step (named k n) Minus = dead
step (named k n) Always = dead
step (named k n) Eventually = dead
step (named k n) Until = dead
step (named k n) AtLeast = lim0 (test_limit k n side.AtLeast)
step (named k n) AtMost = lim0 (test_limit k n side.AtMost)
step (named k n) (Name x) = dead
step (named k n) (Number x) = dead
step (win0 c) Or = dead
step (win0 c) And = dead
step (win0 c) Not = dead
step (win0 c) Open = dead
step (win0 c) Close = dead
step (win0 c) Left = win1 c
step (win0 c) Right = dead
step (win0 c) Comma = dead
step (win0 c) Minus = dead
step (win0 c) Always = dead
step (win0 c) Eventually = dead
step (win0 c) Until = dead
step (win0 c) AtLeast = dead
step (win0 c) AtMost = dead
step (win0 c) (Name x) = dead
step (win0 c) (Number x) = dead
step (win1 c) Or = dead
step (win1 c) And = dead
step (win1 c) Not = dead
step (win1 c) Open = dead
step (win1 c) Close = dead
step (win1 c) Left = dead
step (win1 c) Right = dead
step (win1 c) Comma = dead
step (win1 c) Minus = dead
step (win1 c) Always = dead
step (win1 c) Eventually = dead
step (win1 c) Until = dead
step (win1 c) AtLeast = dead
step (win1 c) AtMost = dead
step (win1 c) (Name x) = dead
step (win1 c) (Number x) = win2 c x
step (win2 c a) Or = dead
step (win2 c a) And = dead
step (win2 c a) Not = dead
step (win2 c a) Open = dead
step (win2 c a) Close = dead
step (win2 c a) Left = dead
step (win2 c a) Right = dead
step (win2 c a) Comma = win3 c a
step (win2 c a) Minus = dead
step (win2 c a) Always = dead
step (win2 c a) Eventually = dead
step (win2 c a) Until = dead
step (win2 c a) AtLeast = dead
step (win2 c a) AtMost = dead
step (win2 c a) (Name x) = dead
step (win2 c a) (Number x) = dead
step (win3 c a) Or = dead
step (win3 c a) And = dead
step (win3 c a) Not = dead
step (win3 c a) Open = dead
step (win3 c a) Close = dead
step (win3 c a) Left = dead
step (win3 c a) Right = dead
step (win3 c a) Comma = dead
step (win3 c a) Minus = dead
step (win3 c a) Always = dead
step (win3 c a) Eventually = dead
step (win3 c a) Until = dead
step (win3 c a) AtLeast = dead
step (win3 c a) AtMost = dead
step (win3 c a) (Name x) = dead
step (win3 c a) (Number x) = win4 c a x
step (win4 c a b) Or = dead
step (win4 c a b) And = dead
step (win4 c a b) Not = dead
step (win4 c a b) Open = dead
step (win4 c a b) Close = dead
step (win4 c a b) Left = dead
step (win4 c a b) Right = opened c (span a b)
step (win4 c a b) Comma = dead
step (win4 c a b) Minus = dead
step (win4 c a b) Always = dead
step (win4 c a b) Eventually = dead
step (win4 c a b) Until = dead
step (win4 c a b) AtLeast = dead
step (win4 c a b) AtMost = dead
step (win4 c a b) (Name x) = dead
step (win4 c a b) (Number x) = dead
step (lim0 c) Or = dead
step (lim0 c) And = dead
step (lim0 c) Not = dead
step (lim0 c) Open = dead
step (lim0 c) Close = dead
step (lim0 c) Left = dead
step (lim0 c) Right = dead
step (lim0 c) Comma = dead
step (lim0 c) Minus = lim1 c
step (lim0 c) Always = dead
step (lim0 c) Eventually = dead
step (lim0 c) Until = dead
step (lim0 c) AtLeast = dead
step (lim0 c) AtMost = dead
step (lim0 c) (Name x) = dead
step (lim0 c) (Number x) = limited c (plain x)
step (lim1 c) Or = dead
step (lim1 c) And = dead
step (lim1 c) Not = dead
step (lim1 c) Open = dead
step (lim1 c) Close = dead
step (lim1 c) Left = dead
step (lim1 c) Right = dead
step (lim1 c) Comma = dead
step (lim1 c) Minus = dead
step (lim1 c) Always = dead
step (lim1 c) Eventually = dead
step (lim1 c) Until = dead
step (lim1 c) AtLeast = dead
step (lim1 c) AtMost = dead
step (lim1 c) (Name x) = dead
step (lim1 c) (Number x) = limited c (minus x)
step dead t = dead

abbrev pub run : State → List Token → State
run q [] = q
run q (t ∷ ts) = run (step q t) ts

pub run_append : (q : State) (xs ys : List Token) → run q (xs ++ ys) ≡ run (run q xs) ys
run_append q [] ys = refl
run_append q (x ∷ xs) ys = run_append (step q x) xs ys

pub run_dead : (ts : List Token) → run dead ts ≡ dead
run_dead [] = refl
run_dead (t ∷ ts) = run_dead ts

-- where a phrase of each kind is there
abbrev pub finish_m : Phrase meet → Ctx meet → State
finish_m (one_part p) k = have (at_part k) p
finish_m (both m p) k = have (after_and k m) p

abbrev pub finish_e : Phrase expr → Ctx expr → State
finish_e (one_meet m) k = finish_m m (at_meet k)
finish_e (either e m) k = finish_m m (after_or k e)

abbrev pub finish : (l : PhraseSort) → Phrase l → Ctx l → State
finish window w c = opened c w
finish limit v c = limited c v
finish part p k = got k p
finish meet m k = finish_m m k
finish expr e k = finish_e e k

pub and_next : (m : Phrase meet) (k : Ctx meet) → step (finish_m m k) And ≡ want (after_and k m)
and_next (one_part p) k = refl
and_next (both m p) k = refl

or_next_m : (m : Phrase meet) (k : Ctx meet) → step (finish_m m k) Or ≡ want (at_part (after_or (up_expr k m).0 (up_expr k m).1))
or_next_m (one_part p) k = refl
or_next_m (both m p) k = refl

pub or_next : (e : Phrase expr) (k : Ctx expr) → step (finish_e e k) Or ≡ want (at_part (after_or k e))
or_next (one_meet m) k = or_next_m m (at_meet k)
or_next (either e m) k = or_next_m m (after_or k e)

close_next_m : (m : Phrase meet) (k : Ctx meet) → step (finish_m m k) Close ≡ close (up_expr k m).0 (up_expr k m).1
close_next_m (one_part p) k = refl
close_next_m (both m p) k = refl

pub close_next : (e : Phrase expr) (k : Ctx expr) → step (finish_e e k) Close ≡ close k e
close_next (one_meet m) k = close_next_m m (at_meet k)
close_next (either e m) k = close_next_m m (after_or k e)

until_next_m : (m : Phrase meet) (k : Ctx meet) → step (finish_m m k) Until ≡ second (up_expr k m).0 (up_expr k m).1
until_next_m (one_part p) k = refl
until_next_m (both m p) k = refl

pub until_next : (e : Phrase expr) (k : Ctx expr) → step (finish_e e k) Until ≡ second k e
until_next (one_meet m) k = until_next_m m (at_meet k)
until_next (either e m) k = until_next_m m (after_or k e)

pub side_next : (k : Ctx part) (n : Option ℕ) (s : Side) → step (named k n) (side_token s) ≡ lim0 (test_limit k n s)
side_next k n side.AtLeast = refl
side_next k n side.AtMost = refl

pub modal_next : (k : Ctx part) (m : Modality) → step (want k) (modal_token m) ≡ win0 (modal_window k m)
modal_next k modality.Eventually = refl
modal_next k modality.Always = refl

-- every phrase is read through
pub complete : {l : PhraseSort} (p : Phrase l) (k : Ctx l) → run (start l k) (phrase_tokens p) ≡ finish l p k
complete (span a b) c = refl
complete (plain n) c = refl
complete (minus n) c = refl
complete (test n s v) k = ap (λ (q : State). run q (phrase_tokens v)) (side_next k n s) ∙ complete v (test_limit k n s)
complete (opposite p) k = complete p (after_not k)
complete (modal m w p) k =
    ap (λ (q : State). run q (phrase_tokens w ++ phrase_tokens p)) (modal_next k m) ∙ run_append (win0 (modal_window k m)) (phrase_tokens w) (phrase_tokens p) ∙ ap (λ (q : State). run q (phrase_tokens p)) (complete w (modal_window k m)) ∙ complete p (after_modal k m w)
complete (brackets e) k =
    run_append (start expr (in_brackets k)) (phrase_tokens e) (Close ∷ []) ∙ ap (λ (q : State). step q Close) (complete e (in_brackets k)) ∙ close_next e (in_brackets k)
complete (until e w f) k =
    run_append (start expr (in_brackets k)) (phrase_tokens e) (Until ∷ (phrase_tokens w ++ (phrase_tokens f ++ (Close ∷ [])))) ∙ ap (λ (q : State). run (step q Until) (phrase_tokens w ++ (phrase_tokens f ++ (Close ∷ [])))) (complete e (in_brackets k)) ∙ ap (λ (q : State). run q (phrase_tokens w ++ (phrase_tokens f ++ (Close ∷ [])))) (until_next e (in_brackets k)) ∙ run_append (win0 (until_window k e)) (phrase_tokens w) (phrase_tokens f ++ (Close ∷ [])) ∙ ap (λ (q : State). run q (phrase_tokens f ++ (Close ∷ []))) (complete w (until_window k e)) ∙ run_append (start expr (after_until k e w)) (phrase_tokens f) (Close ∷ []) ∙ ap (λ (q : State). step q Close) (complete f (after_until k e w)) ∙ close_next f (after_until k e w)
complete (one_part p) k = complete p (at_part k)
complete (both m p) k =
    run_append (start meet k) (phrase_tokens m) (And ∷ phrase_tokens p) ∙ ap (λ (q : State). run (step q And) (phrase_tokens p)) (complete m k) ∙ ap (λ (q : State). run q (phrase_tokens p)) (and_next m k) ∙ complete p (after_and k m)
complete (one_meet m) k = complete m (at_meet k)
complete (either e m) k =
    run_append (start expr k) (phrase_tokens e) (Or ∷ phrase_tokens m) ∙ ap (λ (q : State). run (step q Or) (phrase_tokens m)) (complete e k) ∙ ap (λ (q : State). run q (phrase_tokens m)) (or_next e k) ∙ complete m (after_or k e)

-- the expression that a state has read, where it is one
abbrev nothing : Phrase expr
nothing = one_meet (one_part (test None side.AtLeast (plain 0)))

abbrev pub whole : State → Phrase expr
whole (want k) = nothing
whole (have k p) = (up k p).1
whole (named k n) = nothing
whole (win0 c) = nothing
whole (win1 c) = nothing
whole (win2 c a) = nothing
whole (win3 c a) = nothing
whole (win4 c a b) = nothing
whole (lim0 c) = nothing
whole (lim1 c) = nothing
whole dead = nothing

whole_m : (m : Phrase meet) (k : Ctx meet) → whole (finish_m m k) ≡ (up_expr k m).1
whole_m (one_part p) k = refl
whole_m (both m p) k = refl

pub whole_e : (e : Phrase expr) (k : Ctx expr) → whole (finish_e e k) ≡ e
whole_e (one_meet m) k = whole_m m (at_meet k)
whole_e (either e m) k = whole_m m (after_or k e)

-- a text is one expression at most
pub one_reading : (e f : Phrase expr) → phrase_tokens e ≡ phrase_tokens f → e ≡ f
one_reading e f same =
    sym (whole_e e top) ∙ ap whole (sym (complete e top) ∙ ap (run (start expr top)) same ∙ complete f top) ∙ whole_e f top

abbrev pub is_top : Ctx expr → Bool
is_top top = true
is_top (in_brackets k) = false
is_top (after_until k e w) = false

-- a whole expression has been read, with no bracket open
abbrev pub closed : State → Bool
closed (want k) = false
closed (have k p) = is_top (up k p).0
closed (named k n) = false
closed (win0 c) = false
closed (win1 c) = false
closed (win2 c a) = false
closed (win3 c a) = false
closed (win4 c a b) = false
closed (lim0 c) = false
closed (lim1 c) = false
closed dead = false

closed_m : (m : Phrase meet) (k : Ctx meet) → closed (finish_m m k) ≡ is_top (up_expr k m).0
closed_m (one_part p) k = refl
closed_m (both m p) k = refl

pub closed_e : (e : Phrase expr) (k : Ctx expr) → closed (finish_e e k) ≡ is_top k
closed_e (one_meet m) k = closed_m m (at_meet k)
closed_e (either e m) k = closed_m m (after_or k e)

-- the machine cannot go on with the tokens that are left, or, where none is left, is not done
abbrev pub Dead : State → List Token → Type 0
Dead q [] = closed q ≡ false
Dead q (t ∷ r) = step q t ≡ dead

is_have_m : (m : Phrase meet) (k : Ctx meet) → (j : Ctx part) × (p : Phrase part) × (finish_m m k ≡ have j p)
is_have_m (one_part p) k = (at_part k, p, refl)
is_have_m (both m p) k = (after_and k m, p, refl)

is_have : (e : Phrase expr) (k : Ctx expr) → (j : Ctx part) × (p : Phrase part) × (finish_e e k ≡ have j p)
is_have (one_meet m) k = is_have_m m (at_meet k)
is_have (either e m) k = is_have_m m (after_or k e)

other_dead : (e : Phrase expr) (k : Ctx expr) (t : Token) → ((j : Ctx part) (p : Phrase part) → step (have j p) t ≡ dead) → step (finish_e e k) t ≡ dead
other_dead e k t h = let s = is_have e k in ap (λ (q : State). step q t) s.2 ∙ h s.0 s.1

pub dead_want : (k : Ctx part) (rest : List Token) → NoStart rest → Dead (want k) rest
dead_want k [] h = refl
dead_want k (Or ∷ r) h = refl
dead_want k (And ∷ r) h = refl
dead_want k (Not ∷ r) h = elim (h.1 refl) [ ]
dead_want k (Open ∷ r) h = elim (h.4 refl) [ ]
dead_want k (Close ∷ r) h = refl
dead_want k (Left ∷ r) h = refl
dead_want k (Right ∷ r) h = refl
dead_want k (Comma ∷ r) h = refl
dead_want k (Minus ∷ r) h = refl
dead_want k (Always ∷ r) h = elim (h.3 refl) [ ]
dead_want k (Eventually ∷ r) h = elim (h.2 refl) [ ]
dead_want k (Until ∷ r) h = refl
dead_want k (AtLeast ∷ r) h = refl
dead_want k (AtMost ∷ r) h = refl
dead_want k (Name x ∷ r) h = elim (h.0 x refl) [ ]
dead_want k (Number x ∷ r) h = refl

pub dead_named : (k : Ctx part) (n : Option ℕ) (rest : List Token) → NoSide rest → Dead (named k n) rest
dead_named k n [] h = refl
dead_named k n (Or ∷ r) h = refl
dead_named k n (And ∷ r) h = refl
dead_named k n (Not ∷ r) h = refl
dead_named k n (Open ∷ r) h = refl
dead_named k n (Close ∷ r) h = refl
dead_named k n (Left ∷ r) h = refl
dead_named k n (Right ∷ r) h = refl
dead_named k n (Comma ∷ r) h = refl
dead_named k n (Minus ∷ r) h = refl
dead_named k n (Always ∷ r) h = refl
dead_named k n (Eventually ∷ r) h = refl
dead_named k n (Until ∷ r) h = refl
dead_named k n (AtLeast ∷ r) h = elim (h.0 refl) [ ]
dead_named k n (AtMost ∷ r) h = elim (h.1 refl) [ ]
dead_named k n (Name x ∷ r) h = refl
dead_named k n (Number x ∷ r) h = refl

pub dead_win0 : (c : Ctx window) (rest : List Token) → Isnt Left rest → Dead (win0 c) rest
dead_win0 c [] h = refl
dead_win0 c (Or ∷ r) h = refl
dead_win0 c (And ∷ r) h = refl
dead_win0 c (Not ∷ r) h = refl
dead_win0 c (Open ∷ r) h = refl
dead_win0 c (Close ∷ r) h = refl
dead_win0 c (Left ∷ r) h = elim (h refl) [ ]
dead_win0 c (Right ∷ r) h = refl
dead_win0 c (Comma ∷ r) h = refl
dead_win0 c (Minus ∷ r) h = refl
dead_win0 c (Always ∷ r) h = refl
dead_win0 c (Eventually ∷ r) h = refl
dead_win0 c (Until ∷ r) h = refl
dead_win0 c (AtLeast ∷ r) h = refl
dead_win0 c (AtMost ∷ r) h = refl
dead_win0 c (Name x ∷ r) h = refl
dead_win0 c (Number x ∷ r) h = refl

pub dead_win1 : (c : Ctx window) (rest : List Token) → NoNumber rest → Dead (win1 c) rest
dead_win1 c [] h = refl
dead_win1 c (Or ∷ r) h = refl
dead_win1 c (And ∷ r) h = refl
dead_win1 c (Not ∷ r) h = refl
dead_win1 c (Open ∷ r) h = refl
dead_win1 c (Close ∷ r) h = refl
dead_win1 c (Left ∷ r) h = refl
dead_win1 c (Right ∷ r) h = refl
dead_win1 c (Comma ∷ r) h = refl
dead_win1 c (Minus ∷ r) h = refl
dead_win1 c (Always ∷ r) h = refl
dead_win1 c (Eventually ∷ r) h = refl
dead_win1 c (Until ∷ r) h = refl
dead_win1 c (AtLeast ∷ r) h = refl
dead_win1 c (AtMost ∷ r) h = refl
dead_win1 c (Name x ∷ r) h = refl
dead_win1 c (Number x ∷ r) h = elim (h x refl) [ ]

pub dead_win2 : (c : Ctx window) (a : ℕ) (rest : List Token) → Isnt Comma rest → Dead (win2 c a) rest
dead_win2 c a [] h = refl
dead_win2 c a (Or ∷ r) h = refl
dead_win2 c a (And ∷ r) h = refl
dead_win2 c a (Not ∷ r) h = refl
dead_win2 c a (Open ∷ r) h = refl
dead_win2 c a (Close ∷ r) h = refl
dead_win2 c a (Left ∷ r) h = refl
dead_win2 c a (Right ∷ r) h = refl
dead_win2 c a (Comma ∷ r) h = elim (h refl) [ ]
dead_win2 c a (Minus ∷ r) h = refl
dead_win2 c a (Always ∷ r) h = refl
dead_win2 c a (Eventually ∷ r) h = refl
dead_win2 c a (Until ∷ r) h = refl
dead_win2 c a (AtLeast ∷ r) h = refl
dead_win2 c a (AtMost ∷ r) h = refl
dead_win2 c a (Name x ∷ r) h = refl
dead_win2 c a (Number x ∷ r) h = refl

pub dead_win3 : (c : Ctx window) (a : ℕ) (rest : List Token) → NoNumber rest → Dead (win3 c a) rest
dead_win3 c a [] h = refl
dead_win3 c a (Or ∷ r) h = refl
dead_win3 c a (And ∷ r) h = refl
dead_win3 c a (Not ∷ r) h = refl
dead_win3 c a (Open ∷ r) h = refl
dead_win3 c a (Close ∷ r) h = refl
dead_win3 c a (Left ∷ r) h = refl
dead_win3 c a (Right ∷ r) h = refl
dead_win3 c a (Comma ∷ r) h = refl
dead_win3 c a (Minus ∷ r) h = refl
dead_win3 c a (Always ∷ r) h = refl
dead_win3 c a (Eventually ∷ r) h = refl
dead_win3 c a (Until ∷ r) h = refl
dead_win3 c a (AtLeast ∷ r) h = refl
dead_win3 c a (AtMost ∷ r) h = refl
dead_win3 c a (Name x ∷ r) h = refl
dead_win3 c a (Number x ∷ r) h = elim (h x refl) [ ]

pub dead_win4 : (c : Ctx window) (a : ℕ) (b : ℕ) (rest : List Token) → Isnt Right rest → Dead (win4 c a b) rest
dead_win4 c a b [] h = refl
dead_win4 c a b (Or ∷ r) h = refl
dead_win4 c a b (And ∷ r) h = refl
dead_win4 c a b (Not ∷ r) h = refl
dead_win4 c a b (Open ∷ r) h = refl
dead_win4 c a b (Close ∷ r) h = refl
dead_win4 c a b (Left ∷ r) h = refl
dead_win4 c a b (Right ∷ r) h = elim (h refl) [ ]
dead_win4 c a b (Comma ∷ r) h = refl
dead_win4 c a b (Minus ∷ r) h = refl
dead_win4 c a b (Always ∷ r) h = refl
dead_win4 c a b (Eventually ∷ r) h = refl
dead_win4 c a b (Until ∷ r) h = refl
dead_win4 c a b (AtLeast ∷ r) h = refl
dead_win4 c a b (AtMost ∷ r) h = refl
dead_win4 c a b (Name x ∷ r) h = refl
dead_win4 c a b (Number x ∷ r) h = refl

pub dead_lim0 : (c : Ctx limit) (rest : List Token) → NoLimit rest → Dead (lim0 c) rest
dead_lim0 c [] h = refl
dead_lim0 c (Or ∷ r) h = refl
dead_lim0 c (And ∷ r) h = refl
dead_lim0 c (Not ∷ r) h = refl
dead_lim0 c (Open ∷ r) h = refl
dead_lim0 c (Close ∷ r) h = refl
dead_lim0 c (Left ∷ r) h = refl
dead_lim0 c (Right ∷ r) h = refl
dead_lim0 c (Comma ∷ r) h = refl
dead_lim0 c (Minus ∷ r) h = elim (h.1 refl) [ ]
dead_lim0 c (Always ∷ r) h = refl
dead_lim0 c (Eventually ∷ r) h = refl
dead_lim0 c (Until ∷ r) h = refl
dead_lim0 c (AtLeast ∷ r) h = refl
dead_lim0 c (AtMost ∷ r) h = refl
dead_lim0 c (Name x ∷ r) h = refl
dead_lim0 c (Number x ∷ r) h = elim (h.0 x refl) [ ]

pub dead_lim1 : (c : Ctx limit) (rest : List Token) → NoNumber rest → Dead (lim1 c) rest
dead_lim1 c [] h = refl
dead_lim1 c (Or ∷ r) h = refl
dead_lim1 c (And ∷ r) h = refl
dead_lim1 c (Not ∷ r) h = refl
dead_lim1 c (Open ∷ r) h = refl
dead_lim1 c (Close ∷ r) h = refl
dead_lim1 c (Left ∷ r) h = refl
dead_lim1 c (Right ∷ r) h = refl
dead_lim1 c (Comma ∷ r) h = refl
dead_lim1 c (Minus ∷ r) h = refl
dead_lim1 c (Always ∷ r) h = refl
dead_lim1 c (Eventually ∷ r) h = refl
dead_lim1 c (Until ∷ r) h = refl
dead_lim1 c (AtLeast ∷ r) h = refl
dead_lim1 c (AtMost ∷ r) h = refl
dead_lim1 c (Name x ∷ r) h = refl
dead_lim1 c (Number x ∷ r) h = elim (h x refl) [ ]

pub dead_end : (e : Phrase expr) (k : Ctx part) (rest : List Token) → Over expr rest → NoEnd rest → Dead (finish_e e (in_brackets k)) rest
dead_end e k [] o h = closed_e e (in_brackets k)
dead_end e k (Or ∷ r) o h = elim (o.1 refl) [ ]
dead_end e k (And ∷ r) o h = elim (o.0 refl) [ ]
dead_end e k (Not ∷ r) o h = other_dead e (in_brackets k) Not (λ j p. refl)
dead_end e k (Open ∷ r) o h = other_dead e (in_brackets k) Open (λ j p. refl)
dead_end e k (Close ∷ r) o h = elim (h.0 refl) [ ]
dead_end e k (Left ∷ r) o h = other_dead e (in_brackets k) Left (λ j p. refl)
dead_end e k (Right ∷ r) o h = other_dead e (in_brackets k) Right (λ j p. refl)
dead_end e k (Comma ∷ r) o h = other_dead e (in_brackets k) Comma (λ j p. refl)
dead_end e k (Minus ∷ r) o h = other_dead e (in_brackets k) Minus (λ j p. refl)
dead_end e k (Always ∷ r) o h = other_dead e (in_brackets k) Always (λ j p. refl)
dead_end e k (Eventually ∷ r) o h = other_dead e (in_brackets k) Eventually (λ j p. refl)
dead_end e k (Until ∷ r) o h = elim (h.1 refl) [ ]
dead_end e k (AtLeast ∷ r) o h = other_dead e (in_brackets k) AtLeast (λ j p. refl)
dead_end e k (AtMost ∷ r) o h = other_dead e (in_brackets k) AtMost (λ j p. refl)
dead_end e k (Name x ∷ r) o h = other_dead e (in_brackets k) (Name x) (λ j p. refl)
dead_end e k (Number x ∷ r) o h = other_dead e (in_brackets k) (Number x) (λ j p. refl)

pub dead_close : (e : Phrase expr) (k : Ctx part) (f : Phrase expr) (w : Phrase window) (rest : List Token) → Over expr rest → Isnt Close rest → Dead (finish_e e (after_until k f w)) rest
dead_close e k f w [] o h = closed_e e (after_until k f w)
dead_close e k f w (Or ∷ r) o h = elim (o.1 refl) [ ]
dead_close e k f w (And ∷ r) o h = elim (o.0 refl) [ ]
dead_close e k f w (Not ∷ r) o h = other_dead e (after_until k f w) Not (λ j p. refl)
dead_close e k f w (Open ∷ r) o h = other_dead e (after_until k f w) Open (λ j p. refl)
dead_close e k f w (Close ∷ r) o h = elim (h refl) [ ]
dead_close e k f w (Left ∷ r) o h = other_dead e (after_until k f w) Left (λ j p. refl)
dead_close e k f w (Right ∷ r) o h = other_dead e (after_until k f w) Right (λ j p. refl)
dead_close e k f w (Comma ∷ r) o h = other_dead e (after_until k f w) Comma (λ j p. refl)
dead_close e k f w (Minus ∷ r) o h = other_dead e (after_until k f w) Minus (λ j p. refl)
dead_close e k f w (Always ∷ r) o h = other_dead e (after_until k f w) Always (λ j p. refl)
dead_close e k f w (Eventually ∷ r) o h = other_dead e (after_until k f w) Eventually (λ j p. refl)
dead_close e k f w (Until ∷ r) o h = until_next e (after_until k f w)
dead_close e k f w (AtLeast ∷ r) o h = other_dead e (after_until k f w) AtLeast (λ j p. refl)
dead_close e k f w (AtMost ∷ r) o h = other_dead e (after_until k f w) AtMost (λ j p. refl)
dead_close e k f w (Name x ∷ r) o h = other_dead e (after_until k f w) (Name x) (λ j p. refl)
dead_close e k f w (Number x ∷ r) o h = other_dead e (after_until k f w) (Number x) (λ j p. refl)

pub dead_top : (e : Phrase expr) (t : Token) (r : List Token) → Over expr (t ∷ r) → step (finish_e e top) t ≡ dead
dead_top e Or r o = elim (o.1 refl) [ ]
dead_top e And r o = elim (o.0 refl) [ ]
dead_top e Not r o = other_dead e top Not (λ j p. refl)
dead_top e Open r o = other_dead e top Open (λ j p. refl)
dead_top e Close r o = close_next e top
dead_top e Left r o = other_dead e top Left (λ j p. refl)
dead_top e Right r o = other_dead e top Right (λ j p. refl)
dead_top e Comma r o = other_dead e top Comma (λ j p. refl)
dead_top e Minus r o = other_dead e top Minus (λ j p. refl)
dead_top e Always r o = other_dead e top Always (λ j p. refl)
dead_top e Eventually r o = other_dead e top Eventually (λ j p. refl)
dead_top e Until r o = until_next e top
dead_top e AtLeast r o = other_dead e top AtLeast (λ j p. refl)
dead_top e AtMost r o = other_dead e top AtMost (λ j p. refl)
dead_top e (Name x) r o = other_dead e top (Name x) (λ j p. refl)
dead_top e (Number x) r o = other_dead e top (Number x) (λ j p. refl)
