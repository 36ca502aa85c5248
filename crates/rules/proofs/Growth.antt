-- What the readers' steps say of the tokens and of the table.
use Rattle.std.proofs.Common.{◌≡◌, ℕ, ◌+◌, ◌-◌, ◌<◌, ◌≤◌, List, [], ◌∷◌, ◌++◌, length, get_or, drop, ℤ, Option, sym, refl, ap, ◌∙◌, subst, append_assoc, arith, length-append, length-drop}
use Rattle.std.proofs.lemmas.List.{append-nil}
use Rattle.tokens.specs.declared.token.Token.{Token}
use Rattle.tokens.specs.declared.token.Token.TheVariants.{Or, And, Not, Open, Close, Left, Right, Comma, Minus, Always, Eventually, Until, Name, Number}
use Rattle.rules.specs.declared.row.Row.{Row}
use Rattle.rules.specs.declared.row.Row.TheVariants as row
use Rattle.rules.specs.declared.row.Side.{Side}
use Rattle.rules.specs.declared.table.Table.{Table}
use Rattle.rules.specs.declared.modality.Modality.{Modality}
use Rattle.rules.specs.Grammar.{PhraseSort, window, limit, part, meet, expr, modal_token, side_token, Phrase, span, plain, minus, test, opposite, modal, brackets, until, one_part, both, one_meet, either, phrase_tokens}
use Rattle.rules.specs.Tables.{size, limit_of, line_of, modal_row, until_row, rows_of, rises}
use Rattle.rules.specs.Readers.{Isnt, NoSide, NoNumber, NoLimit, NoStart, NoEnd, Over, Read, Stops, no_left, no_from, no_comma, no_to, no_right, no_limit, no_minus, no_start, no_side, in_test, in_not, in_window, in_modal, in_open, no_end, in_until, in_second, no_close, first_part, next_part, first_meet, next_meet, ReadAs, StopsAt, TookToken, Missed, ReadLimit, IsAt, TableHolds, Grows, Pushed, Risen, Built}
use Rattle.rules.proofs.Places.{here, at_end, at_token}

abbrev add : Token → List Token → List Token
add t v = t ∷ v

-- how far a phrase goes
pub ends_at : {l : PhraseSort} {ts : List Token} {at e : ℕ} (p : Phrase l) → ReadAs p ts at e → e ≡ at + length (phrase_tokens p)
ends_at {l} {ts} {at} {e} p r =
    omega (arith, r.on, r.within, ap length r.text, length-append (phrase_tokens p) (drop e ts), length-drop at ts, length-drop e ts)

pub reads_as : {l : PhraseSort} {ts : List Token} {at e : ℕ} (p : Phrase l) → at < e → e ≤ length ts → drop at ts ≡ phrase_tokens p ++ drop e ts → Over l (drop e ts) → ReadAs p ts at e
reads_as p on within text over = record { on = on; within = within; text = text; over = over }

pub as_read : {l : PhraseSort} {ts : List Token} {at e : ℕ} (p : Phrase l) → ReadAs p ts at e → Read l (drop at ts) (drop e ts)
as_read p r = record { phrase = p; text = r.text; over = r.over }

-- a phrase that stops at the place j, which the fault names i
pub stops_as : {l : PhraseSort} {ts : List Token} {at i j : ℕ} → i ≡ j → at ≤ j → j ≤ length ts → Stops l (drop at ts) (drop j ts) → StopsAt l ts at i
stops_as {l} {ts} {at} {i} {j} same on within s = subst (λ (k : ℕ). StopsAt l ts at k) (sym same) (record { on = on; within = within; stops = s })

-- windows
pub w_a : {ts : List Token} {at i : ℕ} → at ≤ length ts → Missed (Isnt Left) ts at i → StopsAt window ts at i
w_a le m = stops_as m.same (omega arith) le (no_left m.isnt)

pub w_b : {ts : List Token} {at a i : ℕ} → TookToken Left ts at a → Missed NoNumber ts a i → StopsAt window ts at i
w_b t m = stops_as m.same (omega (arith, t.next)) t.within (no_from t.text m.isnt)

pub w_c : {ts : List Token} {at a b i n : ℕ} → TookToken Left ts at a → TookToken (Number n) ts a b → Missed (Isnt Comma) ts b i → StopsAt window ts at i
w_c {n = n} t u m = stops_as m.same (omega (arith, t.next, u.next)) u.within (no_comma n (t.text ∙ ap (add Left) u.text) m.isnt)

pub w_d : {ts : List Token} {at a b d i n : ℕ} → TookToken Left ts at a → TookToken (Number n) ts a b → TookToken Comma ts b d → Missed NoNumber ts d i → StopsAt window ts at i
w_d {n = n} t u v m =
    stops_as m.same (omega (arith, t.next, u.next, v.next)) v.within (no_to n (t.text ∙ ap (add Left) (u.text ∙ ap (add (Number n)) v.text)) m.isnt)

pub w_e : {ts : List Token} {at a b d f i n o : ℕ} → TookToken Left ts at a → TookToken (Number n) ts a b → TookToken Comma ts b d → TookToken (Number o) ts d f → Missed (Isnt Right) ts f i → StopsAt window ts at i
w_e {n = n} {o = o} t u v w m =
    stops_as m.same (omega (arith, t.next, u.next, v.next, w.next)) w.within (no_right n o (t.text ∙ ap (add Left) (u.text ∙ ap (add (Number n)) (v.text ∙ ap (add Comma) w.text))) m.isnt)

-- limits
pub l_end : (ts : List Token) (at i : ℕ) → at ≤ length ts → i ≡ at → length ts ≤ at → StopsAt limit ts at i
l_end ts at i le same h = stops_as same (omega arith) le (no_limit (at_end (λ r. NoLimit r) ts at h tt))

pub l_rest : (ts : List Token) (at : ℕ) (t : Token) → IsAt t ts at → ((n : ℕ) → t ≡ Number n → ⊥) → (t ≡ Minus → ⊥) → StopsAt limit ts at at
l_rest ts at t h a b = stops_as refl (omega arith) (omega (arith, h.there)) (no_limit (at_token (λ r. NoLimit r) ts at t h (a, b)))

pub l_number : (ts : List Token) (at n : ℕ) (z : ℤ) → at < length ts → get_or ts at Or ≡ Number n → z ≡ limit_of (plain n) → ReadLimit ts at (at + 1) z
l_number ts at n z lt is h = record { phrase = plain n; read = reads_as (plain n) (omega arith) (omega arith) (here ts at (Number n) lt is) tt; is = h }

pub l_minus : (ts : List Token) (at e n : ℕ) (z : ℤ) → at < length ts → get_or ts at Or ≡ Minus → TookToken (Number n) ts (at + 1) e → z ≡ limit_of (minus n) → ReadLimit ts at e z
l_minus ts at e n z lt is t h = record { phrase = minus n; read = reads_as (minus n) (omega (arith, t.next)) t.within (here ts at Minus lt is ∙ ap (add Minus) t.text) tt; is = h }

pub l_stop : (ts : List Token) (at i : ℕ) → at < length ts → get_or ts at Or ≡ Minus → Missed NoNumber ts (at + 1) i → StopsAt limit ts at i
l_stop ts at i lt is m = stops_as m.same (omega arith) (omega arith) (no_minus (here ts at Minus lt is) m.isnt)

-- two lists of rows and a row above them
pub long_two : (xs ys : List Row) (r : Row) (m n : ℕ) → length xs ≡ m → length ys ≡ n → length (xs ++ (ys ++ (r ∷ []))) ≡ (m + n) + 1
long_two xs ys r m n hx hy = omega (arith, length-append xs (ys ++ (r ∷ [])), length-append ys (r ∷ []), hx, hy)

-- rows_of has as many rows as size says
pub rows_long : {l : PhraseSort} (b : ℕ) (p : Phrase l) → length (rows_of b p) ≡ size p
rows_long b (span a c) = refl
rows_long b (plain n) = refl
rows_long b (minus n) = refl
rows_long b (test o s v) = refl
rows_long b (opposite p) = length-append (rows_of b p) _ ∙ ap (λ (n : ℕ). n + 1) (rows_long b p)
rows_long b (modal m w p) = length-append (rows_of b p) _ ∙ ap (λ (n : ℕ). n + 1) (rows_long b p)
rows_long b (brackets e) = rows_long b e
rows_long b (until e w f) = long_two (rows_of b e) (rows_of (b + size e) f) _ (size e) (size f) (rows_long b e) (rows_long (b + size e) f)
rows_long b (one_part p) = rows_long b p
rows_long b (both m p) = long_two (rows_of b m) (rows_of (b + size m) p) _ (size m) (size p) (rows_long b m) (rows_long (b + size m) p)
rows_long b (one_meet m) = rows_long b m
rows_long b (either e m) = long_two (rows_of b e) (rows_of (b + size e) m) _ (size e) (size m) (rows_long b e) (rows_long (b + size e) m)

-- tables: first a rise, then what grows behind it
pub after_rise : {t0 t1 t2 : Table} {at d : ℕ} (rows : ℕ → List Row) (rs : List (ℕ × ℕ)) → Risen at d t0 t1 → Grows t1 t2 rows rs → Grows t0 t2 rows ((at, d) ∷ rs)
after_rise {t0} {t1} {t2} {at} {d} rows rs r g old deeper h =
    let one : List (ℕ × ℕ) = (at, d) ∷ [] in
    let h1 : TableHolds t1 old (deeper ++ one) = subst (λ (v : List Row). TableHolds t1 v (deeper ++ one)) (append-nil old) (r.grows old deeper h) in
    subst (λ (v : List (ℕ × ℕ)). TableHolds t2 (old ++ rows (length old)) v) (append_assoc deeper one rs) (g old (deeper ++ one) h1)

-- a phrase and a row above it, whose child is the phrase's last row
pub above : {l : PhraseSort} {t0 t1 t2 : Table} (p : Phrase l) (op : ℕ → Row) (rs : List (ℕ × ℕ)) (root at : ℕ) → Grows t0 t1 (λ b. rows_of b p) rs → root + 1 ≡ t1.count → Pushed (op root) t1 t2 at → Grows t0 t2 (λ b. rows_of b p ++ (op ((b + size p) - 1) ∷ [])) rs
above {l} {t0} {t1} {t2} p op rs root at g last push old deeper h =
    let n : ℕ = length old in
    let h1 = g old deeper h in
    let er : root ≡ (n + size p) - 1 = omega (arith, last, h1.count, length-append old (rows_of n p), rows_long n p) in
    let h2 = push.grows (old ++ rows_of n p) (deeper ++ rs) h1 in
    let h3 : TableHolds t2 ((old ++ rows_of n p) ++ (op root ∷ [])) (deeper ++ rs) = subst (λ (v : List (ℕ × ℕ)). TableHolds t2 ((old ++ rows_of n p) ++ (op root ∷ [])) v) (append-nil (deeper ++ rs)) h2 in
    subst (λ (v : List Row). TableHolds t2 v (deeper ++ rs)) (append_assoc old (rows_of n p) (op root ∷ []) ∙ ap (λ (x : ℕ). old ++ (rows_of n p ++ (op x ∷ []))) er) h3

-- two phrases and a row above them
pub above_two : {l k : PhraseSort} {t0 t1 t2 t3 : Table} (p : Phrase l) (q : Phrase k) (op : ℕ → ℕ → Row) (rs us : List (ℕ × ℕ)) (root other at : ℕ) → Grows t0 t1 (λ b. rows_of b p) rs → root + 1 ≡ t1.count → Grows t1 t2 (λ b. rows_of b q) us → other + 1 ≡ t2.count → Pushed (op root other) t2 t3 at → Grows t0 t3 (λ b. rows_of b p ++ (rows_of (b + size p) q ++ (op ((b + size p) - 1) (((b + size p) + size q) - 1) ∷ []))) (rs ++ us)
above_two {l} {k} {t0} {t1} {t2} {t3} p q op rs us root other at g last f final push old deeper h =
    let n : ℕ = length old in
    let h1 = g old deeper h in
    let len : length (old ++ rows_of n p) ≡ n + size p = length-append old (rows_of n p) ∙ ap (λ (m : ℕ). n + m) (rows_long n p) in
    let er : root ≡ (n + size p) - 1 = omega (arith, last, h1.count, len) in
    let h2 = f (old ++ rows_of n p) (deeper ++ rs) h1 in
    let h2a : TableHolds t2 ((old ++ rows_of n p) ++ rows_of (n + size p) q) ((deeper ++ rs) ++ us) = subst (λ (m : ℕ). TableHolds t2 ((old ++ rows_of n p) ++ rows_of m q) ((deeper ++ rs) ++ us)) len h2 in
    let eo : other ≡ ((n + size p) + size q) - 1 = omega (arith, final, h2a.count, length-append (old ++ rows_of n p) (rows_of (n + size p) q), len, rows_long (n + size p) q) in
    let h3 = push.grows ((old ++ rows_of n p) ++ rows_of (n + size p) q) ((deeper ++ rs) ++ us) h2a in
    let z : List Row = op root other ∷ [] in
    let h4 : TableHolds t3 (((old ++ rows_of n p) ++ rows_of (n + size p) q) ++ z) (deeper ++ (rs ++ us)) = subst (λ (v : List (ℕ × ℕ)). TableHolds t3 (((old ++ rows_of n p) ++ rows_of (n + size p) q) ++ z) v) (append-nil ((deeper ++ rs) ++ us) ∙ append_assoc deeper rs us) h3 in
    let mk : ℕ → ℕ → List Row = λ x y. old ++ (rows_of n p ++ (rows_of (n + size p) q ++ (op x y ∷ []))) in
    subst (λ (v : List Row). TableHolds t3 v (deeper ++ (rs ++ us))) (append_assoc (old ++ rows_of n p) (rows_of (n + size p) q) z ∙ append_assoc old (rows_of n p) (rows_of (n + size p) q ++ z) ∙ ap (λ (x : ℕ). mk x other) er ∙ ap (mk ((n + size p) - 1)) eo) h4

-- parts
pub p_end : (ts : List Token) (at i : ℕ) → at ≤ length ts → i ≡ at → length ts ≤ at → StopsAt part ts at i
p_end ts at i le same h = stops_as same (omega arith) le (no_start (at_end (λ r. NoStart r) ts at h tt))

pub p_rest : (ts : List Token) (at : ℕ) (t : Token) → IsAt t ts at → ((o : Option ℕ) → t ≡ Name o → ⊥) → (t ≡ Not → ⊥) → (t ≡ Eventually → ⊥) → (t ≡ Always → ⊥) → (t ≡ Open → ⊥) → StopsAt part ts at at
p_rest ts at t h a b c d e = stops_as refl (omega arith) (omega (arith, h.there)) (no_start (at_token (λ r. NoStart r) ts at t h (a, b, c, d, e)))

pub p_side : (ts : List Token) (at i : ℕ) (o : Option ℕ) → at < length ts → get_or ts at Or ≡ Name o → Missed NoSide ts (at + 1) i → StopsAt part ts at i
p_side ts at i o lt is m = stops_as m.same (omega arith) (omega arith) (no_side o (here ts at (Name o) lt is) m.isnt)

pub p_limit : (ts : List Token) (at s i : ℕ) (o : Option ℕ) (c : Side) → at < length ts → get_or ts at Or ≡ Name o → TookToken (side_token c) ts (at + 1) s → StopsAt limit ts s i → StopsAt part ts at i
p_limit ts at s i o c lt is t x =
    record { on = omega (arith, t.next, x.on); within = x.within; stops = in_test o c (here ts at (Name o) lt is ∙ ap (add (Name o)) t.text) x.stops }

pub p_test : {t0 t1 : Table} (ts : List Token) (at s e root line : ℕ) (o : Option ℕ) (c : Side) (y z : ℤ) (depth : ℕ) → at < length ts → get_or ts at Or ≡ Name o → TookToken (side_token c) ts (at + 1) s → ReadLimit ts s e z → line ≡ line_of o → Pushed (row.Test line c y) t0 t1 root → y ≡ z → Built part ts at depth t0 t1 e root
p_test {t0} {t1} ts at s e root line o c y z depth lt is t x li push yz =
    record {
      phrase = test o c x.phrase;
      read = reads_as (test o c x.phrase) (omega (arith, t.next, x.read.on)) x.read.within (here ts at (Name o) lt is ∙ ap (add (Name o)) (t.text ∙ ap (add (side_token c)) x.read.text)) tt;
      grows = λ old deeper h. subst (λ (v : Row). TableHolds t1 (old ++ (v ∷ [])) (deeper ++ [])) (ap (λ (n : ℕ). row.Test n c y) li ∙ ap (row.Test (line_of o) c) (yz ∙ x.is)) (push.grows old deeper h);
      last = omega (arith, push.at_end, push.count);
      few = omega (arith, push.count, t.next, x.read.on);
    }

pub p_not_stop : (ts : List Token) (at i : ℕ) → at < length ts → get_or ts at Or ≡ Not → StopsAt part ts (at + 1) i → StopsAt part ts at i
p_not_stop ts at i lt is x = record { on = omega (arith, x.on); within = x.within; stops = in_not (here ts at Not lt is) x.stops }

pub p_not : {t0 t1 t2 t3 : Table} (ts : List Token) (at e depth root last : ℕ) → at < length ts → get_or ts at Or ≡ Not → Risen at (depth + 1) t0 t1 → Built part ts (at + 1) (depth + 1) t1 t2 e root → Pushed (row.Not root) t2 t3 last → Built part ts at depth t0 t3 e last
p_not ts at e depth root last lt is r b push =
    let p = b.phrase in
    record {
      phrase = opposite p;
      read = reads_as (opposite p) (omega (arith, b.read.on)) b.read.within (here ts at Not lt is ∙ ap (add Not) b.read.text) tt;
      grows = after_rise (λ b. rows_of b (opposite p)) _ r (above p row.Not _ root last b.grows b.last push);
      last = omega (arith, push.at_end, push.count);
      few = omega (arith, push.count, b.few, r.count, b.read.on);
    }

pub p_window : (m : Modality) (ts : List Token) (at i : ℕ) → at < length ts → get_or ts at Or ≡ modal_token m → StopsAt window ts (at + 1) i → StopsAt part ts at i
p_window m ts at i lt is x = record { on = omega (arith, x.on); within = x.within; stops = in_window m (here ts at (modal_token m) lt is) x.stops }

pub p_modal_stop : (m : Modality) (w : Phrase window) (ts : List Token) (at j i : ℕ) → at < length ts → get_or ts at Or ≡ modal_token m → ReadAs w ts (at + 1) j → StopsAt part ts j i → StopsAt part ts at i
p_modal_stop m w ts at j i lt is y x =
    record { on = omega (arith, y.on, x.on); within = x.within; stops = in_modal m w (here ts at (modal_token m) lt is ∙ ap (add (modal_token m)) y.text) x.stops }

pub p_modal : {t0 t1 t2 t3 : Table} (m : Modality) (w : Phrase window) (ts : List Token) (at j e depth root last : ℕ) → at < length ts → get_or ts at Or ≡ modal_token m → Risen at (depth + 1) t0 t1 → ReadAs w ts (at + 1) j → Built part ts j (depth + 1) t1 t2 e root → Pushed (modal_row m w root) t2 t3 last → Built part ts at depth t0 t3 e last
p_modal {t0} {t1} {t2} {t3} m w ts at j e depth root last lt is r y b push =
    let p = b.phrase in
    record {
      phrase = modal m w p;
      read =
          reads_as (modal m w p) (omega (arith, y.on, b.read.on)) b.read.within (here ts at (modal_token m) lt is ∙ ap (add (modal_token m)) (y.text ∙ ap (λ (v : List Token). phrase_tokens w ++ v) b.read.text ∙ sym (append_assoc (phrase_tokens w) (phrase_tokens p) (drop e ts)))) tt;
      grows =
          after_rise (λ b. rows_of b (modal m w p)) (rises (depth + 1) ((at + 1) + length (phrase_tokens w)) p) r (above p (modal_row m w) _ root last (subst (λ (v : ℕ). Grows t1 t2 (λ b. rows_of b p) (rises (depth + 1) v p)) (ends_at w y) b.grows) b.last push);
      last = omega (arith, push.at_end, push.count);
      few = omega (arith, push.count, b.few, r.count, y.on, b.read.on);
    }

pub p_open : (ts : List Token) (at i : ℕ) → at < length ts → get_or ts at Or ≡ Open → StopsAt expr ts (at + 1) i → StopsAt part ts at i
p_open ts at i lt is x = record { on = omega (arith, x.on); within = x.within; stops = in_open (here ts at Open lt is) x.stops }

pub p_no_end : (e : Phrase expr) (ts : List Token) (at j i : ℕ) → at < length ts → get_or ts at Or ≡ Open → ReadAs e ts (at + 1) j → i ≡ j → NoEnd (drop j ts) → StopsAt part ts at i
p_no_end e ts at j i lt is x same h = stops_as same (omega (arith, x.on)) x.within (no_end (here ts at Open lt is) (as_read e x) h)

pub p_brackets : {t0 t1 t2 : Table} (ts : List Token) (at j depth root : ℕ) → at < length ts → get_or ts at Or ≡ Open → Risen at (depth + 1) t0 t1 → Built expr ts (at + 1) (depth + 1) t1 t2 j root → j < length ts → get_or ts j Or ≡ Close → Built part ts at depth t0 t2 (j + 1) root
p_brackets ts at j depth root lt is r b lt2 end =
    let e = b.phrase in
    record {
      phrase = brackets e;
      read =
          reads_as (brackets e) (omega (arith, b.read.on)) (omega arith) (here ts at Open lt is ∙ ap (add Open) (b.read.text ∙ ap (λ (v : List Token). phrase_tokens e ++ v) (here ts j Close lt2 end) ∙ sym (append_assoc (phrase_tokens e) (Close ∷ []) (drop (j + 1) ts)))) tt;
      grows = after_rise (λ b. rows_of b e) _ r b.grows;
      last = b.last;
      few = omega (arith, b.few, r.count, b.read.on);
    }

-- past the first expression and the U, and past the window
to_until : (e : Phrase expr) (ts : List Token) (at j : ℕ) → at < length ts → get_or ts at Or ≡ Open → ReadAs e ts (at + 1) j → j < length ts → get_or ts j Or ≡ Until → drop at ts ≡ Open ∷ (phrase_tokens e ++ (Until ∷ drop (j + 1) ts))
to_until e ts at j lt is x lt2 end = here ts at Open lt is ∙ ap (add Open) (x.text ∙ ap (λ (v : List Token). phrase_tokens e ++ v) (here ts j Until lt2 end))

to_second : (e : Phrase expr) (w : Phrase window) (ts : List Token) (at j k : ℕ) → at < length ts → get_or ts at Or ≡ Open → ReadAs e ts (at + 1) j → j < length ts → get_or ts j Or ≡ Until → ReadAs w ts (j + 1) k → drop at ts ≡ Open ∷ (phrase_tokens e ++ (Until ∷ (phrase_tokens w ++ drop k ts)))
to_second e w ts at j k lt is x lt2 end y = to_until e ts at j lt is x lt2 end ∙ ap (λ (v : List Token). Open ∷ (phrase_tokens e ++ (Until ∷ v))) y.text

pub p_until_window : (e : Phrase expr) (ts : List Token) (at j i : ℕ) → at < length ts → get_or ts at Or ≡ Open → ReadAs e ts (at + 1) j → j < length ts → get_or ts j Or ≡ Until → StopsAt window ts (j + 1) i → StopsAt part ts at i
p_until_window e ts at j i lt is x lt2 end y =
    record { on = omega (arith, x.on, y.on); within = y.within; stops = in_until e (to_until e ts at j lt is x lt2 end) y.stops }

pub p_second_stop : (e : Phrase expr) (w : Phrase window) (ts : List Token) (at j k i : ℕ) → at < length ts → get_or ts at Or ≡ Open → ReadAs e ts (at + 1) j → j < length ts → get_or ts j Or ≡ Until → ReadAs w ts (j + 1) k → StopsAt expr ts k i → StopsAt part ts at i
p_second_stop e w ts at j k i lt is x lt2 end y z =
    record { on = omega (arith, x.on, y.on, z.on); within = z.within; stops = in_second e w (to_second e w ts at j k lt is x lt2 end y) z.stops }

pub p_no_close : (e f : Phrase expr) (w : Phrase window) (ts : List Token) (at j k m i : ℕ) → at < length ts → get_or ts at Or ≡ Open → ReadAs e ts (at + 1) j → j < length ts → get_or ts j Or ≡ Until → ReadAs w ts (j + 1) k → ReadAs f ts k m → Missed (Isnt Close) ts m i → StopsAt part ts at i
p_no_close e f w ts at j k m i lt is x lt2 end y z miss =
    stops_as miss.same (omega (arith, x.on, y.on, z.on)) z.within (no_close e w (to_second e w ts at j k lt is x lt2 end y) (as_read f z) miss.isnt)

pub p_until : {t0 t1 t2 t3 t4 : Table} (w : Phrase window) (ts : List Token) (at j k m g depth left right root : ℕ) → at < length ts → get_or ts at Or ≡ Open → Risen at (depth + 1) t0 t1 → Built expr ts (at + 1) (depth + 1) t1 t2 j left → j < length ts → get_or ts j Or ≡ Until → ReadAs w ts (j + 1) k → Built expr ts k (depth + 1) t2 t3 m right → TookToken Close ts m g → Pushed (until_row w left right) t3 t4 root → Built part ts at depth t0 t4 g root
p_until {t0} {t1} {t2} {t3} {t4} w ts at j k m g depth left right root lt is r b lt2 end y c t push =
    let e = b.phrase in
    let f = c.phrase in
    let ex : List Token = phrase_tokens e in
    let wi : List Token = phrase_tokens w in
    let fx : List Token = phrase_tokens f in
    let rest : List Token = drop g ts in
    let tail : drop k ts ≡ (fx ++ (Close ∷ [])) ++ rest = c.read.text ∙ ap (λ (v : List Token). fx ++ v) t.text ∙ sym (append_assoc fx (Close ∷ []) rest) in
    let place : k ≡ (((at + 1) + length ex) + 1) + length wi = omega (arith, ends_at e b.read, ends_at w y) in
    record {
      phrase = until e w f;
      read =
          reads_as (until e w f) (omega (arith, b.read.on, y.on, c.read.on, t.next)) t.within (to_second e w ts at j k lt is b.read lt2 end y ∙ ap (λ (v : List Token). Open ∷ (ex ++ (Until ∷ (wi ++ v)))) tail ∙ ap (λ (v : List Token). Open ∷ (ex ++ (Until ∷ v))) (sym (append_assoc wi (fx ++ (Close ∷ [])) rest)) ∙ ap (add Open) (sym (append_assoc ex (Until ∷ (wi ++ (fx ++ (Close ∷ [])))) rest))) tt;
      grows =
          after_rise (λ b. rows_of b (until e w f)) (rises (depth + 1) (at + 1) e ++ rises (depth + 1) ((((at + 1) + length ex) + 1) + length wi) f) r (above_two e f (until_row w) _ _ left right root b.grows b.last (subst (λ (v : ℕ). Grows t2 t3 (λ b. rows_of b f) (rises (depth + 1) v f)) place c.grows) c.last push);
      last = omega (arith, push.at_end, push.count);
      few = omega (arith, push.count, b.few, c.few, r.count, b.read.on, y.on, c.read.on, t.next);
    }

-- the phrase of kind l so far, from the table before to the table now
pub record Sofar (l : PhraseSort) (ts : List Token) (at depth : ℕ) (before now : Table) (next : ℕ) : Type 0 where
  pub phrase : Phrase l
  pub text : drop at ts ≡ phrase_tokens phrase ++ drop next ts
  pub place : next ≡ at + length (phrase_tokens phrase)
  pub grows : Grows before now (λ b. rows_of b phrase) (rises depth at phrase)
  pub few : now.count + at ≤ before.count + next

-- what a loop keeps: from where it began, at next0 with the table old, a phrase of kind l has grown to next with the table new;
-- its last phrase of kind k is over there
pub record Grown (k l : PhraseSort) (ts : List Token) (at depth next0 : ℕ) (old : Table) (next root : ℕ) (new : Table) : Type 0 where
  pub on : next0 ≤ next
  pub within : next ≤ length ts
  pub over : Over k (drop next ts)
  pub last : root + 1 ≡ new.count
  pub few : new.count + next0 ≤ old.count + next
  pub grows : (before : Table) → Sofar l ts at depth before old next0 → Sofar l ts at depth before new next

-- expressions
pub sofar_e : {ts : List Token} {at depth : ℕ} {before old : Table} {next root : ℕ} → Built meet ts at depth before old next root → Sofar expr ts at depth before old next
sofar_e b = record { phrase = one_meet b.phrase; text = b.read.text; place = ends_at b.phrase b.read; grows = b.grows; few = b.few }

pub stop_e : {ts : List Token} {at depth n0 r0 : ℕ} {before old new : Table} {next root i : ℕ} → Built meet ts at depth before old n0 r0 → Grown meet expr ts at depth n0 old next root new → next < length ts → get_or ts next Or ≡ Or → StopsAt meet ts (next + 1) i → StopsAt expr ts at i
stop_e {ts} {at} {before = before} {next = next} b g lt is s =
    let f = g.grows before (sofar_e b) in
    record { on = omega (arith, b.read.on, g.on, s.on); within = s.within; stops = next_meet f.phrase (f.text ∙ ap (λ (v : List Token). phrase_tokens f.phrase ++ v) (here ts next Or lt is)) s.stops }

pub end_e : {ts : List Token} {at depth n0 r0 : ℕ} {before old new : Table} {next root : ℕ} → Built meet ts at depth before old n0 r0 → Grown meet expr ts at depth n0 old next root new → Over expr (drop next ts) → Built expr ts at depth before new next root
end_e {before = before} b g o =
    let s = g.grows before (sofar_e b) in
    record { phrase = s.phrase; read = reads_as s.phrase (omega (arith, b.read.on, g.on)) g.within s.text o; grows = s.grows; last = g.last; few = s.few }

pub over_e : (rest : List Token) → Over meet rest → Isnt Or rest → Over expr rest
over_e [] o no_or = tt
over_e (t ∷ rest) o no_or = (o, no_or)

pub grow_e : {ts : List Token} {at depth n0 : ℕ} {old new new2 new3 : Table} {next root next2 root2 root3 : ℕ} → Grown meet expr ts at depth n0 old next root new → next < length ts → get_or ts next Or ≡ Or → Built meet ts (next + 1) depth new new2 next2 root2 → Pushed (row.Or root root2) new2 new3 root3 → Grown meet expr ts at depth n0 old next2 root3 new3
grow_e {ts} {at} {depth} {n0} {old} {new} {new2} {new3} {next} {root} {next2} {root2} {root3} g lt is b push =
    record {
      on = omega (arith, g.on, b.read.on);
      within = b.read.within;
      over = b.read.over;
      last = omega (arith, push.at_end, push.count);
      few = omega (arith, g.few, b.few, push.count, b.read.on);
      grows =
          λ before s.
          let f = g.grows before s in
          let e = f.phrase in
          let m = b.phrase in
          record {
            phrase = either e m;
            text = f.text ∙ ap (λ (v : List Token). phrase_tokens e ++ v) (here ts next Or lt is ∙ ap (add Or) b.read.text) ∙ sym (append_assoc (phrase_tokens e) (Or ∷ phrase_tokens m) (drop next2 ts));
            place = omega (arith, f.place, ends_at m b.read, length-append (phrase_tokens e) (Or ∷ phrase_tokens m));
            grows = above_two e m row.Or _ (rises depth ((at + length (phrase_tokens e)) + 1) m) root root2 root3 f.grows g.last (subst (λ (v : ℕ). Grows new new2 (λ b. rows_of b m) (rises depth (v + 1) m)) f.place b.grows) b.last push;
            few = omega (arith, f.few, b.few, push.count, b.read.on);
          };
    }

pub fail_e : {ts : List Token} {at i : ℕ} → StopsAt meet ts at i → StopsAt expr ts at i
fail_e s = record { on = s.on; within = s.within; stops = first_meet s.stops }

-- meets
pub sofar_m : {ts : List Token} {at depth : ℕ} {before old : Table} {next root : ℕ} → Built part ts at depth before old next root → Sofar meet ts at depth before old next
sofar_m b = record { phrase = one_part b.phrase; text = b.read.text; place = ends_at b.phrase b.read; grows = b.grows; few = b.few }

pub stop_m : {ts : List Token} {at depth n0 r0 : ℕ} {before old new : Table} {next root i : ℕ} → Built part ts at depth before old n0 r0 → Grown part meet ts at depth n0 old next root new → next < length ts → get_or ts next Or ≡ And → StopsAt part ts (next + 1) i → StopsAt meet ts at i
stop_m {ts} {at} {before = before} {next = next} b g lt is s =
    let f = g.grows before (sofar_m b) in
    record { on = omega (arith, b.read.on, g.on, s.on); within = s.within; stops = next_part f.phrase (f.text ∙ ap (λ (v : List Token). phrase_tokens f.phrase ++ v) (here ts next And lt is)) s.stops }

pub end_m : {ts : List Token} {at depth n0 r0 : ℕ} {before old new : Table} {next root : ℕ} → Built part ts at depth before old n0 r0 → Grown part meet ts at depth n0 old next root new → Over meet (drop next ts) → Built meet ts at depth before new next root
end_m {before = before} b g o =
    let s = g.grows before (sofar_m b) in
    record { phrase = s.phrase; read = reads_as s.phrase (omega (arith, b.read.on, g.on)) g.within s.text o; grows = s.grows; last = g.last; few = s.few }

pub over_m : (rest : List Token) → Isnt And rest → Over meet rest
over_m [] no_and = tt
over_m (t ∷ rest) no_and = no_and

pub grow_m : {ts : List Token} {at depth n0 : ℕ} {old new new2 new3 : Table} {next root next2 root2 root3 : ℕ} → Grown part meet ts at depth n0 old next root new → next < length ts → get_or ts next Or ≡ And → Built part ts (next + 1) depth new new2 next2 root2 → Pushed (row.And root root2) new2 new3 root3 → Grown part meet ts at depth n0 old next2 root3 new3
grow_m {ts} {at} {depth} {n0} {old} {new} {new2} {new3} {next} {root} {next2} {root2} {root3} g lt is b push =
    record {
      on = omega (arith, g.on, b.read.on);
      within = b.read.within;
      over = tt;
      last = omega (arith, push.at_end, push.count);
      few = omega (arith, g.few, b.few, push.count, b.read.on);
      grows =
          λ before s.
          let f = g.grows before s in
          let e = f.phrase in
          let m = b.phrase in
          record {
            phrase = both e m;
            text = f.text ∙ ap (λ (v : List Token). phrase_tokens e ++ v) (here ts next And lt is ∙ ap (add And) b.read.text) ∙ sym (append_assoc (phrase_tokens e) (And ∷ phrase_tokens m) (drop next2 ts));
            place = omega (arith, f.place, ends_at m b.read, length-append (phrase_tokens e) (And ∷ phrase_tokens m));
            grows = above_two e m row.And _ (rises depth ((at + length (phrase_tokens e)) + 1) m) root root2 root3 f.grows g.last (subst (λ (v : ℕ). Grows new new2 (λ b. rows_of b m) (rises depth (v + 1) m)) f.place b.grows) b.last push;
            few = omega (arith, f.few, b.few, push.count, b.read.on);
          };
    }

pub fail_m : {ts : List Token} {at i : ℕ} → StopsAt part ts at i → StopsAt meet ts at i
fail_m s = record { on = s.on; within = s.within; stops = first_part s.stops }
