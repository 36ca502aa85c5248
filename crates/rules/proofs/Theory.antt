-- A reader's stop is the end of a viable prefix: the tokens before it begin some expression, and with the next token none.
use Rattle.std.proofs.Common.{◌≡◌, ℕ, ◌+◌, ◌<◌, ◌≤◌, true, false, List, [], ◌∷◌, ◌++◌, length, get_or, take, drop, None, sym, refl, ap, ◌∙◌, subst, append_assoc, arith, length-append, length-drop}
use Rattle.std.proofs.lemmas.List.{append-nil, take_at, take_more, drop_all}
use Rattle.tokens.specs.declared.token.Token.{Token}
use Rattle.tokens.specs.declared.token.Token.TheVariants.{Or, And, Not, Open, Close, Left, Right, Comma, Minus, Until, AtLeast, Name, Number}
use Rattle.rules.specs.declared.row.Side.TheVariants as side
use Rattle.rules.specs.Grammar.{PhraseSort, window, part, meet, expr, modal_token, side_token, Phrase, span, plain, minus, test, opposite, modal, brackets, until, one_part, both, one_meet, either, phrase_tokens, Derives, Fails}
use Rattle.rules.specs.Readers.{Over, Stops, no_left, no_from, no_comma, no_to, no_right, no_limit, no_minus, no_start, no_side, in_test, in_not, in_window, in_modal, in_open, no_end, in_until, in_second, no_close, first_part, next_part, first_meet, next_meet, ReadAs, StopsAt}
use Rattle.rules.proofs.Places.{here}
use Rattle.rules.proofs.Machine.{Ctx, modal_window, until_window, test_limit, top, in_brackets, after_until, at_meet, after_or, at_part, after_and, after_not, after_modal, State, win0, dead, step, run, start, closed, Dead, run_append, run_dead, complete, side_next, modal_next, and_next, or_next, until_next, closed_e, one_reading, dead_want, dead_named, dead_win0, dead_win1, dead_win2, dead_win3, dead_win4, dead_lim0, dead_lim1, dead_end, dead_close, dead_top}

abbrev some : Phrase part
some = test None side.AtLeast (plain 0)

abbrev any : Phrase expr
any = one_meet (one_part some)

pub record Stuck (l : PhraseSort) (ts rest : List Token) : Type 0 where
  pub front : List Token
  pub text : ts ≡ front ++ rest
  pub no_more : (k : Ctx l) → Dead (run (start l k) front) rest
  pub begun : (p : Phrase l) × (us : List Token) × (phrase_tokens p ≡ front ++ us)

-- brackets joined at the left
join3 : (e w z : List Token) → Open ∷ (e ++ (Until ∷ (w ++ z))) ≡ (Open ∷ (e ++ (Until ∷ w))) ++ z
join3 e w z = ap (λ (v : List Token). Open ∷ v) (sym (append_assoc e (Until ∷ w) z))

join4 : (e w f z : List Token) → Open ∷ (e ++ (Until ∷ (w ++ (f ++ z)))) ≡ (Open ∷ (e ++ (Until ∷ (w ++ f)))) ++ z
join4 e w f z = ap (λ (v : List Token). Open ∷ (e ++ (Until ∷ v))) (sym (append_assoc w f z)) ∙ join3 e (w ++ f) z

-- the machine past the first expression and the window of an until
past_until : (k : Ctx part) (e : Phrase expr) (xs : List Token) → run (start expr (in_brackets k)) (phrase_tokens e ++ (Until ∷ xs)) ≡ run (win0 (until_window k e)) xs
past_until k e xs =
    run_append (start expr (in_brackets k)) (phrase_tokens e) (Until ∷ xs) ∙ ap (λ (q : State). run (step q Until) xs) (complete e (in_brackets k)) ∙ ap (λ (q : State). run q xs) (until_next e (in_brackets k))

past_window : (k : Ctx part) (e : Phrase expr) (w : Phrase window) (xs : List Token) → run (start expr (in_brackets k)) (phrase_tokens e ++ (Until ∷ (phrase_tokens w ++ xs))) ≡ run (start expr (after_until k e w)) xs
past_window k e w xs =
    past_until k e (phrase_tokens w ++ xs) ∙ run_append (win0 (until_window k e)) (phrase_tokens w) xs ∙ ap (λ (q : State). run q xs) (complete w (until_window k e))

-- a reader that stops is stuck: the machine is, in every context, and the front can be made a phrase
pub stuck : {l : PhraseSort} {ts rest : List Token} → Stops l ts rest → Stuck l ts rest
stuck (no_left {rest} h) = record { front = []; text = refl; no_more = λ c. dead_win0 c rest h; begun = (span 0 0, phrase_tokens (span 0 0), refl) }
stuck (no_from {us} {rest} eq h) = record { front = Left ∷ []; text = eq; no_more = λ c. dead_win1 c rest h; begun = (span 0 0, Number 0 ∷ (Comma ∷ (Number 0 ∷ (Right ∷ []))), refl) }
stuck (no_comma {us} {rest} a eq h) = record { front = Left ∷ (Number a ∷ []); text = eq; no_more = λ c. dead_win2 c a rest h; begun = (span a 0, Comma ∷ (Number 0 ∷ (Right ∷ [])), refl) }
stuck (no_to {us} {rest} a eq h) = record { front = Left ∷ (Number a ∷ (Comma ∷ [])); text = eq; no_more = λ c. dead_win3 c a rest h; begun = (span a 0, Number 0 ∷ (Right ∷ []), refl) }
stuck (no_right {us} {rest} a b eq h) = record { front = Left ∷ (Number a ∷ (Comma ∷ (Number b ∷ []))); text = eq; no_more = λ c. dead_win4 c a b rest h; begun = (span a b, Right ∷ [], refl) }
stuck (no_limit {rest} h) = record { front = []; text = refl; no_more = λ c. dead_lim0 c rest h; begun = (plain 0, Number 0 ∷ [], refl) }
stuck (no_minus {us} {rest} eq h) = record { front = Minus ∷ []; text = eq; no_more = λ c. dead_lim1 c rest h; begun = (minus 0, Number 0 ∷ [], refl) }
stuck (no_start {rest} h) = record { front = []; text = refl; no_more = λ k. dead_want k rest h; begun = (some, phrase_tokens some, refl) }
stuck (no_side {us} {rest} n eq h) = record { front = Name n ∷ []; text = eq; no_more = λ k. dead_named k n rest h; begun = (test n side.AtLeast (plain 0), AtLeast ∷ (Number 0 ∷ []), refl) }
stuck (in_test {us} {ts} {rest} n c eq s) =
    let r = stuck s in
    let add : List Token → List Token = λ v. Name n ∷ (side_token c ∷ v) in
    record {
      front = Name n ∷ (side_token c ∷ r.front);
      text = eq ∙ ap add r.text;
      no_more = λ k. subst (λ (q : State). Dead q rest) (sym (ap (λ (q : State). run q r.front) (side_next k n c))) (r.no_more (test_limit k n c));
      begun = (test n c r.begun.0, r.begun.1, ap add r.begun.2);
    }
stuck (in_not eq s) =
    let r = stuck s in
    let add : List Token → List Token = λ v. Not ∷ v in
    record { front = Not ∷ r.front; text = eq ∙ ap add r.text; no_more = λ k. r.no_more (after_not k); begun = (opposite r.begun.0, r.begun.1, ap add r.begun.2) }
stuck (in_window {us} {ts} {rest} m eq s) =
    let r = stuck s in
    let add : List Token → List Token = λ v. modal_token m ∷ v in
    record {
      front = modal_token m ∷ r.front;
      text = eq ∙ ap add r.text;
      no_more = λ k. subst (λ (q : State). Dead q rest) (sym (ap (λ (q : State). run q r.front) (modal_next k m))) (r.no_more (modal_window k m));
      begun = (modal m r.begun.0 some, r.begun.1 ++ phrase_tokens some, ap (λ (v : List Token). modal_token m ∷ (v ++ phrase_tokens some)) r.begun.2 ∙ ap add (append_assoc r.front r.begun.1 (phrase_tokens some)));
    }
stuck (in_modal {us} {ts} {rest} m w eq s) =
    let r = stuck s in
    let add : List Token → List Token = λ v. modal_token m ∷ (phrase_tokens w ++ v) in
    let one : List Token → List Token = λ v. modal_token m ∷ v in
    record {
      front = modal_token m ∷ (phrase_tokens w ++ r.front);
      text = eq ∙ ap add r.text ∙ ap one (sym (append_assoc (phrase_tokens w) r.front rest));
      no_more =
          λ k. subst (λ (q : State). Dead q rest) (sym (ap (λ (q : State). run q (phrase_tokens w ++ r.front)) (modal_next k m) ∙ run_append (win0 (modal_window k m)) (phrase_tokens w) r.front ∙ ap (λ (q : State). run q r.front) (complete w (modal_window k m)))) (r.no_more (after_modal k m w));
      begun = (modal m w r.begun.0, r.begun.1, ap add r.begun.2 ∙ ap one (sym (append_assoc (phrase_tokens w) r.front r.begun.1)));
    }
stuck (in_open eq s) =
    let r = stuck s in
    let add : List Token → List Token = λ v. Open ∷ v in
    record {
      front = Open ∷ r.front;
      text = eq ∙ ap add r.text;
      no_more = λ k. r.no_more (in_brackets k);
      begun =
          (brackets r.begun.0, r.begun.1 ++ (Close ∷ []), ap (λ (v : List Token). Open ∷ (v ++ (Close ∷ []))) r.begun.2 ∙ ap add (append_assoc r.front r.begun.1 (Close ∷ [])));
    }
stuck (no_end {us} {ts} {rest} eq r h) =
    record {
      front = Open ∷ phrase_tokens r.phrase;
      text = eq ∙ ap (λ (v : List Token). Open ∷ v) r.text;
      no_more = λ k. subst (λ (q : State). Dead q rest) (sym (complete r.phrase (in_brackets k))) (dead_end r.phrase k rest r.over h);
      begun = (brackets r.phrase, Close ∷ [], refl);
    }
stuck (in_until {us} {ts} {rest} e eq s) =
    let r = stuck s in
    let y : List Token = phrase_tokens any ++ (Close ∷ []) in
    let add : List Token → List Token = λ v. Open ∷ (phrase_tokens e ++ (Until ∷ v)) in
    record {
      front = Open ∷ (phrase_tokens e ++ (Until ∷ r.front));
      text = eq ∙ ap add r.text ∙ join3 (phrase_tokens e) r.front rest;
      no_more = λ k. subst (λ (q : State). Dead q rest) (sym (past_until k e r.front)) (r.no_more (until_window k e));
      begun =
          (until e r.begun.0 any, r.begun.1 ++ y, ap (λ (v : List Token). Open ∷ (phrase_tokens e ++ (Until ∷ (v ++ y)))) r.begun.2 ∙ ap add (append_assoc r.front r.begun.1 y) ∙ join3 (phrase_tokens e) r.front (r.begun.1 ++ y));
    }
stuck (in_second {us} {ts} {rest} e w eq s) =
    let r = stuck s in
    let add : List Token → List Token = λ v. Open ∷ (phrase_tokens e ++ (Until ∷ (phrase_tokens w ++ v))) in
    record {
      front = Open ∷ (phrase_tokens e ++ (Until ∷ (phrase_tokens w ++ r.front)));
      text = eq ∙ ap add r.text ∙ join4 (phrase_tokens e) (phrase_tokens w) r.front rest;
      no_more = λ k. subst (λ (q : State). Dead q rest) (sym (past_window k e w r.front)) (r.no_more (after_until k e w));
      begun =
          (until e w r.begun.0, r.begun.1 ++ (Close ∷ []), ap (λ (v : List Token). Open ∷ (phrase_tokens e ++ (Until ∷ (phrase_tokens w ++ (v ++ (Close ∷ [])))))) r.begun.2 ∙ ap add (append_assoc r.front r.begun.1 (Close ∷ [])) ∙ join4 (phrase_tokens e) (phrase_tokens w) r.front (r.begun.1 ++ (Close ∷ [])));
    }
stuck (no_close {us} {ts} {rest} e w eq r h) =
    let add : List Token → List Token = λ v. Open ∷ (phrase_tokens e ++ (Until ∷ (phrase_tokens w ++ v))) in
    record {
      front = Open ∷ (phrase_tokens e ++ (Until ∷ (phrase_tokens w ++ phrase_tokens r.phrase)));
      text = eq ∙ ap add r.text ∙ join4 (phrase_tokens e) (phrase_tokens w) (phrase_tokens r.phrase) rest;
      no_more =
          λ k. subst (λ (q : State). Dead q rest) (sym (past_window k e w (phrase_tokens r.phrase) ∙ complete r.phrase (after_until k e w))) (dead_close r.phrase k e w rest r.over h);
      begun = (until e w r.phrase, Close ∷ [], join4 (phrase_tokens e) (phrase_tokens w) (phrase_tokens r.phrase) (Close ∷ []));
    }
stuck (first_part s) =
    let r = stuck s in
    record { front = r.front; text = r.text; no_more = λ k. r.no_more (at_part k); begun = (one_part r.begun.0, r.begun.1, r.begun.2) }
stuck (next_part {ts} {us} {rest} m eq s) =
    let r = stuck s in
    record {
      front = phrase_tokens m ++ (And ∷ r.front);
      text = eq ∙ ap (λ (v : List Token). phrase_tokens m ++ (And ∷ v)) r.text ∙ sym (append_assoc (phrase_tokens m) (And ∷ r.front) rest);
      no_more =
          λ k. subst (λ (q : State). Dead q rest) (sym (run_append (start meet k) (phrase_tokens m) (And ∷ r.front) ∙ ap (λ (q : State). run (step q And) r.front) (complete m k) ∙ ap (λ (q : State). run q r.front) (and_next m k))) (r.no_more (after_and k m));
      begun =
          (both m r.begun.0, r.begun.1, ap (λ (v : List Token). phrase_tokens m ++ (And ∷ v)) r.begun.2 ∙ sym (append_assoc (phrase_tokens m) (And ∷ r.front) r.begun.1));
    }
stuck (first_meet s) =
    let r = stuck s in
    record { front = r.front; text = r.text; no_more = λ k. r.no_more (at_meet k); begun = (one_meet r.begun.0, r.begun.1, r.begun.2) }
stuck (next_meet {ts} {us} {rest} e eq s) =
    let r = stuck s in
    record {
      front = phrase_tokens e ++ (Or ∷ r.front);
      text = eq ∙ ap (λ (v : List Token). phrase_tokens e ++ (Or ∷ v)) r.text ∙ sym (append_assoc (phrase_tokens e) (Or ∷ r.front) rest);
      no_more =
          λ k. subst (λ (q : State). Dead q rest) (sym (run_append (start expr k) (phrase_tokens e) (Or ∷ r.front) ∙ ap (λ (q : State). run (step q Or) r.front) (complete e k) ∙ ap (λ (q : State). run q r.front) (or_next e k))) (r.no_more (after_or k e));
      begun =
          (either e r.begun.0, r.begun.1, ap (λ (v : List Token). phrase_tokens e ++ (Or ∷ v)) r.begun.2 ∙ sym (append_assoc (phrase_tokens e) (Or ∷ r.front) r.begun.1));
    }

apart : true ≡ false → ⊥
apart h = let z : ◌≡◌ {A = ℕ} 0 1 = cc in omega arith

-- an expression's tokens are read to the end
through : (e : Phrase expr) → closed (run (start expr top) (phrase_tokens e)) ≡ true
through e = ap closed (complete e top) ∙ closed_e e top

-- no expression goes on with a token at which the machine dies
no_way : (e : Phrase expr) (front : List Token) (t : Token) (us : List Token) → step (run (start expr top) front) t ≡ dead → phrase_tokens e ≡ front ++ (t ∷ us) → ⊥
no_way e front t us d eq =
    apart (sym (through e) ∙ ap (λ (v : List Token). closed (run (start expr top) v)) eq ∙ ap closed (run_append (start expr top) front (t ∷ us) ∙ ap (λ (q : State). run q us) d ∙ run_dead us))

no_whole : (e : Phrase expr) (front rest : List Token) → Dead (run (start expr top) front) rest → phrase_tokens e ≡ front ++ rest → ⊥
no_whole e front [] d eq = apart (sym (through e) ∙ ap (λ (v : List Token). closed (run (start expr top) v)) (eq ∙ append-nil front) ∙ d)
no_whole e front (t ∷ r) d eq = no_way e front t r d eq

front_is : (ts front : List Token) (i : ℕ) → i ≤ length ts → ts ≡ front ++ drop i ts → take i ts ≡ front
front_is ts front i w text =
    let len : length front ≡ i = omega (arith, ap length text, length-append front (drop i ts), length-drop i ts) in
    ap (take i) text ∙ take_at front (drop i ts) i len

pub fails : (ts front : List Token) (i : ℕ) → i ≤ length ts → ts ≡ front ++ drop i ts → Dead (run (start expr top) front) (drop i ts) → ((p : Phrase expr) × (us : List Token) × (phrase_tokens p ≡ front ++ us)) → Fails ts i
fails ts front i w text d b =
    let is : take i ts ≡ front = front_is ts front i w text in
    record {
      within = w;
      begins = (b.0, b.1, b.2 ∙ ap (λ (v : List Token). v ++ b.1) (sym is));
      ends =
          λ e us lt eq. no_way e front (get_or ts i Or) us (subst (λ (v : List Token). Dead (run (start expr top) front) v) (here ts i (get_or ts i Or) lt refl) d) (eq ∙ ap (λ (v : List Token). v ++ us) (take_more ts i Or lt ∙ ap (λ (v : List Token). v ++ (get_or ts i Or ∷ [])) is) ∙ append_assoc front (get_or ts i Or ∷ []) us);
      none = λ e eq. no_whole e front (drop i ts) d (eq ∙ text);
    }

-- what the reader's three ends say
pub stops_fails : {ts : List Token} {i : ℕ} → StopsAt expr ts 0 i → Fails ts i
stops_fails {ts} {i} s =
    let r = stuck s.stops in
    fails ts r.front i s.within r.text (r.no_more top) r.begun

pub more_fails : {ts : List Token} {e : ℕ} (p : Phrase expr) → ReadAs p ts 0 e → e < length ts → Fails ts e
more_fails {ts} {e} p r lt =
    let h : drop e ts ≡ get_or ts e Or ∷ drop (e + 1) ts = here ts e (get_or ts e Or) lt refl in
    fails ts (phrase_tokens p) e r.within r.text (subst (λ (v : List Token). Dead (run (start expr top) (phrase_tokens p)) v) (sym h) (ap (λ (q : State). step q (get_or ts e Or)) (complete p top) ∙ dead_top p _ (drop (e + 1) ts) (subst (λ (v : List Token). Over expr v) h r.over))) (p, [], sym (append-nil (phrase_tokens p)))

pub all_derived : {ts : List Token} {e : ℕ} (p : Phrase expr) → ReadAs p ts 0 e → length ts ≤ e → Derives ts p
all_derived {ts} {e} p r h =
    let text : ts ≡ phrase_tokens p = r.text ∙ ap (λ (v : List Token). phrase_tokens p ++ v) (drop_all e ts h) ∙ append-nil (phrase_tokens p) in
    record { text = text; one = λ other eq. one_reading other p (sym eq ∙ text) }
