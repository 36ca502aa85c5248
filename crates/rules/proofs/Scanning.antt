-- What a scan over tokens finds is what the derivation's walk finds.
use Rattle.std.proofs.Common.{◌≡◌, ℕ, ◌+◌, Bool, true, false, cond, List, [], ◌∷◌, ◌++◌, length, Some, None, Option, sym, refl, ap, ◌∙◌, append_assoc, arith, length-append}
use Rattle.std.specs.List.{position_from}
use Rattle.std.specs.Option.{option_or}
use Rattle.std.proofs.lemmas.List.{append-nil}
use Rattle.tokens.specs.declared.token.Token.{Token}
use Rattle.tokens.specs.declared.token.Token.TheVariants.{Or, And, Not, Open, Close, Until, Name}
use Rattle.rules.specs.declared.row.Side.{Side}
use Rattle.rules.specs.declared.row.Side.TheVariants as side
use Rattle.rules.specs.declared.modality.Modality.{Modality}
use Rattle.rules.specs.declared.modality.Modality.TheVariants as modality
use Rattle.rules.specs.Grammar.{PhraseSort, window, limit, part, meet, expr, modal_token, side_token, Phrase, span, plain, minus, test, opposite, modal, brackets, until, one_part, both, one_meet, either, phrase_tokens}
use Rattle.rules.specs.Checks.{first_in, any_window, unknown_test, unknown_place, bad_window, bad_limit, wrong_window, wrong_limit, wrong_test, wrong}
use Rattle.rules.specs.Scans.{first_from, nameless, unknown_here, wrong_here}

-- where a name stands that no line has
pub first_nameless : (k : ℕ) (ts : List Token) → position_from nameless k ts ≡ first_from unknown_here k ts
first_nameless k [] = refl
first_nameless k (t ∷ r) = ap (λ (o : Option ℕ). cond (nameless t) (Some k) o) (first_nameless (k + 1) r)

or_none : (o : Option ℕ) → option_or o None ≡ o
or_none None = refl
or_none (Some k) = refl

or_assoc : (a b c : Option ℕ) → option_or (option_or a b) c ≡ option_or a (option_or b c)
or_assoc None b c = refl
or_assoc (Some k) b c = refl

-- a scan that finds something only in windows and tests, s places behind where it looks
pub record Scanner (holds : List Token → Bool) (s : ℕ) (w : ℕ → Phrase window → Option ℕ) (t : ℕ → Option ℕ → Phrase limit → Option ℕ) : Type 0 where
  pub windows : (k : ℕ) (u : Phrase window) (rest : List Token) → first_from holds (k + s) (phrase_tokens u ++ rest) ≡ option_or (w k u) (first_from holds ((k + length (phrase_tokens u)) + s) rest)
  pub tests : (k : ℕ) (o : Option ℕ) (c : Side) (v : Phrase limit) (rest : List Token) → first_from holds (k + s) (Name o ∷ (side_token c ∷ (phrase_tokens v ++ rest))) ≡ option_or (t k o v) (first_from holds ((k + length (phrase_tokens (test o c v))) + s) rest)
  pub not_skips : (r : List Token) → holds (Not ∷ r) ≡ false
  pub modal_skips : (m : Modality) (r : List Token) → holds (modal_token m ∷ r) ≡ false
  pub open_skips : (r : List Token) → holds (Open ∷ r) ≡ false
  pub close_skips : (r : List Token) → holds (Close ∷ r) ≡ false
  pub until_skips : (r : List Token) → holds (Until ∷ r) ≡ false
  pub and_skips : (r : List Token) → holds (And ∷ r) ≡ false
  pub or_skips : (r : List Token) → holds (Or ∷ r) ≡ false

module _ {holds : List Token → Bool} {s : ℕ} {w : ℕ → Phrase window → Option ℕ} {t : ℕ → Option ℕ → Phrase limit → Option ℕ} (S : Scanner holds s w t) where
  skip : (k m : ℕ) (x : Token) (r : List Token) → holds (x ∷ r) ≡ false → (k + s) + 1 ≡ m → first_from holds (k + s) (x ∷ r) ≡ first_from holds m r
  skip k m x r h e = ap (λ (b : Bool). cond b (Some (k + s)) (first_from holds ((k + s) + 1) r)) h ∙ ap (λ (n : ℕ). first_from holds n r) e

  moved : (m n : ℕ) (r : List Token) → m ≡ n → first_from holds m r ≡ first_from holds n r
  moved m n r e = ap (λ (k : ℕ). first_from holds k r) e

  -- two phrases with a token between them
  joined : (a b : Option ℕ) (xs ys rest : List Token) (x : Token) (k : ℕ) → ((r : List Token) → first_from holds (k + s) (xs ++ r) ≡ option_or a (first_from holds ((k + length xs) + s) r)) → ((r : List Token) → holds (x ∷ r) ≡ false) → ((r : List Token) → first_from holds (((k + length xs) + 1) + s) (ys ++ r) ≡ option_or b (first_from holds ((((k + length xs) + 1) + length ys) + s) r)) → first_from holds (k + s) ((xs ++ (x ∷ ys)) ++ rest) ≡ option_or (option_or a b) (first_from holds ((k + length (xs ++ (x ∷ ys))) + s) rest)
  joined a b xs ys rest x k hx h hy =
      ap (first_from holds (k + s)) (append_assoc xs (x ∷ ys) rest) ∙ hx (x ∷ (ys ++ rest)) ∙ ap (option_or a) (skip (k + length xs) (((k + length xs) + 1) + s) x (ys ++ rest) (h (ys ++ rest)) (omega arith) ∙ hy rest ∙ ap (option_or b) (moved _ _ rest (omega (arith, length-append xs (x ∷ ys))))) ∙ sym (or_assoc a b (first_from holds ((k + length (xs ++ (x ∷ ys))) + s) rest))

  -- a token, then a phrase
  ahead : (a : Option ℕ) (xs rest : List Token) (x : Token) (k : ℕ) → holds (x ∷ (xs ++ rest)) ≡ false → ((r : List Token) → first_from holds ((k + 1) + s) (xs ++ r) ≡ option_or a (first_from holds (((k + 1) + length xs) + s) r)) → first_from holds (k + s) (x ∷ (xs ++ rest)) ≡ option_or a (first_from holds ((k + length (x ∷ xs)) + s) rest)
  ahead a xs rest x k h hx = skip k ((k + 1) + s) x (xs ++ rest) h (omega arith) ∙ hx rest ∙ ap (option_or a) (moved _ _ rest (omega arith))

  -- a phrase, then another
  behind : (a b : Option ℕ) (xs ys rest : List Token) (k : ℕ) → ((r : List Token) → first_from holds (k + s) (xs ++ r) ≡ option_or a (first_from holds ((k + length xs) + s) r)) → ((r : List Token) → first_from holds ((k + length xs) + s) (ys ++ r) ≡ option_or b (first_from holds (((k + length xs) + length ys) + s) r)) → first_from holds (k + s) ((xs ++ ys) ++ rest) ≡ option_or (option_or a b) (first_from holds ((k + length (xs ++ ys)) + s) rest)
  behind a b xs ys rest k hx hy =
      ap (first_from holds (k + s)) (append_assoc xs ys rest) ∙ hx (ys ++ rest) ∙ ap (option_or a) (hy rest ∙ ap (option_or b) (moved _ _ rest (omega (arith, length-append xs ys)))) ∙ sym (or_assoc a b (first_from holds ((k + length (xs ++ ys)) + s) rest))

  -- a token alone
  single : (x : Token) (k : ℕ) → ((r : List Token) → holds (x ∷ r) ≡ false) → (r : List Token) → first_from holds (k + s) ((x ∷ []) ++ r) ≡ option_or None (first_from holds ((k + length (x ∷ [])) + s) r)
  single x k h r = skip k ((k + 1) + s) x r (h r) (omega arith)

  -- limits stand in tests alone
  abbrev Walks : (l : PhraseSort) → ℕ → Phrase l → Type 0
  Walks window k p = (r : List Token) → first_from holds (k + s) (phrase_tokens p ++ r) ≡ option_or (w k p) (first_from holds ((k + length (phrase_tokens p)) + s) r)
  Walks limit k p = Unit {0}
  Walks part k p = (r : List Token) → first_from holds (k + s) (phrase_tokens p ++ r) ≡ option_or (first_in w t k p) (first_from holds ((k + length (phrase_tokens p)) + s) r)
  Walks meet k p = (r : List Token) → first_from holds (k + s) (phrase_tokens p ++ r) ≡ option_or (first_in w t k p) (first_from holds ((k + length (phrase_tokens p)) + s) r)
  Walks expr k p = (r : List Token) → first_from holds (k + s) (phrase_tokens p ++ r) ≡ option_or (first_in w t k p) (first_from holds ((k + length (phrase_tokens p)) + s) r)

  pub walks : {l : PhraseSort} (k : ℕ) (p : Phrase l) → Walks l k p
  walks k (span a b) = S.windows k (span a b)
  walks k (plain n) = tt
  walks k (minus n) = tt
  walks k (test o c v) = λ r. S.tests k o c v r
  walks k (opposite p) = λ r. ahead (first_in w t (k + 1) p) (phrase_tokens p) r Not k (S.not_skips (phrase_tokens p ++ r)) (walks (k + 1) p)
  walks k (modal m u p) =
      λ r. ahead (option_or (w (k + 1) u) (first_in w t ((k + 1) + length (phrase_tokens u)) p)) (phrase_tokens u ++ phrase_tokens p) r (modal_token m) k (S.modal_skips m ((phrase_tokens u ++ phrase_tokens p) ++ r)) (λ q. behind (w (k + 1) u) (first_in w t ((k + 1) + length (phrase_tokens u)) p) (phrase_tokens u) (phrase_tokens p) q (k + 1) (S.windows (k + 1) u) (walks ((k + 1) + length (phrase_tokens u)) p))
  walks k (brackets e) =
      λ r. ahead (first_in w t (k + 1) e) (phrase_tokens e ++ (Close ∷ [])) r Open k (S.open_skips ((phrase_tokens e ++ (Close ∷ [])) ++ r)) (λ q. behind (first_in w t (k + 1) e) None (phrase_tokens e) (Close ∷ []) q (k + 1) (walks (k + 1) e) (single Close ((k + 1) + length (phrase_tokens e)) S.close_skips) ∙ ap (λ (o : Option ℕ). option_or o (first_from holds (((k + 1) + length (phrase_tokens e ++ (Close ∷ []))) + s) q)) (or_none (first_in w t (k + 1) e)))
  walks k (until e u f) =
      let ee : Option ℕ = first_in w t (k + 1) e in
      let j : ℕ = (k + 1) + length (phrase_tokens e) in
      let uu : Option ℕ = w (j + 1) u in
      let i : ℕ = (j + 1) + length (phrase_tokens u) in
      let ff : Option ℕ = first_in w t i f in
      let tail : List Token = phrase_tokens f ++ (Close ∷ []) in
      let last : (q : List Token) → first_from holds (i + s) (tail ++ q) ≡ option_or ff (first_from holds ((i + length tail) + s) q) = λ q. behind ff None (phrase_tokens f) (Close ∷ []) q i (walks i f) (single Close (i + length (phrase_tokens f)) S.close_skips) ∙ ap (λ (o : Option ℕ). option_or o (first_from holds ((i + length tail) + s) q)) (or_none ff) in
      let inner : (q : List Token) → first_from holds ((j + 1) + s) ((phrase_tokens u ++ tail) ++ q) ≡ option_or (option_or uu ff) (first_from holds (((j + 1) + length (phrase_tokens u ++ tail)) + s) q) = λ q. behind uu ff (phrase_tokens u) tail q (j + 1) (S.windows (j + 1) u) last in
      λ r. ahead (option_or ee (option_or uu ff)) (phrase_tokens e ++ (Until ∷ (phrase_tokens u ++ tail))) r Open k (S.open_skips ((phrase_tokens e ++ (Until ∷ (phrase_tokens u ++ tail))) ++ r)) (λ q. behind ee (option_or uu ff) (phrase_tokens e) (Until ∷ (phrase_tokens u ++ tail)) q (k + 1) (walks (k + 1) e) (λ z. ahead (option_or uu ff) (phrase_tokens u ++ tail) z Until j (S.until_skips ((phrase_tokens u ++ tail) ++ z)) inner))
  walks k (one_part p) = walks k p
  walks k (both m p) =
      let mm : Option ℕ = first_in w t k m in
      let j : ℕ = k + length (phrase_tokens m) in
      λ r. behind mm (first_in w t (j + 1) p) (phrase_tokens m) (And ∷ phrase_tokens p) r k (walks k m) (λ z. ahead (first_in w t (j + 1) p) (phrase_tokens p) z And j (S.and_skips (phrase_tokens p ++ z)) (walks (j + 1) p))
  walks k (one_meet m) = walks k m
  walks k (either e m) =
      let ee : Option ℕ = first_in w t k e in
      let j : ℕ = k + length (phrase_tokens e) in
      λ r. behind ee (first_in w t (j + 1) m) (phrase_tokens e) (Or ∷ phrase_tokens m) r k (walks k e) (λ z. ahead (first_in w t (j + 1) m) (phrase_tokens m) z Or j (S.or_skips (phrase_tokens m ++ z)) (walks (j + 1) m))

  -- over a whole expression
  pub scanned : (p : Phrase expr) → first_from holds (0 + s) (phrase_tokens p) ≡ first_in w t 0 p
  scanned p = ap (first_from holds (0 + s)) (sym (append-nil (phrase_tokens p))) ∙ walks 0 p [] ∙ or_none (first_in w t 0 p)

name_window : (k : ℕ) (u : Phrase window) (rest : List Token) → first_from unknown_here (k + 0) (phrase_tokens u ++ rest) ≡ option_or (any_window k u) (first_from unknown_here ((k + length (phrase_tokens u)) + 0) rest)
name_window k (span a b) rest = ap (λ (n : ℕ). first_from unknown_here n rest) (omega arith)

name_limit : (k : ℕ) (v : Phrase limit) (rest : List Token) → first_from unknown_here k (phrase_tokens v ++ rest) ≡ first_from unknown_here (k + length (phrase_tokens v)) rest
name_limit k (plain n) rest = refl
name_limit k (minus n) rest = ap (λ (n : ℕ). first_from unknown_here n rest) (omega arith)

name_side : (k : ℕ) (c : Side) (rest : List Token) → first_from unknown_here k (side_token c ∷ rest) ≡ first_from unknown_here (k + 1) rest
name_side k side.AtLeast rest = refl
name_side k side.AtMost rest = refl

name_test : (k : ℕ) (o : Option ℕ) (c : Side) (v : Phrase limit) (rest : List Token) → first_from unknown_here (k + 0) (Name o ∷ (side_token c ∷ (phrase_tokens v ++ rest))) ≡ option_or (unknown_test k o v) (first_from unknown_here ((k + length (phrase_tokens (test o c v))) + 0) rest)
name_test k None c v rest = ap (λ (n : ℕ). Some n) (omega arith)
name_test k (Some line) c v rest = name_side ((k + 0) + 1) c (phrase_tokens v ++ rest) ∙ name_limit (((k + 0) + 1) + 1) v rest ∙ ap (λ (n : ℕ). first_from unknown_here n rest) (omega arith)

name_modal : (m : Modality) (r : List Token) → unknown_here (modal_token m ∷ r) ≡ false
name_modal modality.Eventually r = refl
name_modal modality.Always r = refl

number_window : (k : ℕ) (u : Phrase window) (rest : List Token) → first_from wrong_here (k + 1) (phrase_tokens u ++ rest) ≡ option_or (wrong_window k u) (first_from wrong_here ((k + length (phrase_tokens u)) + 1) rest)
number_window k (span a b) rest =
    elim (bad_window a b) as (λ (x : Bool). cond x (Some (k + 1)) (first_from wrong_here ((((((k + 1) + 1) + 1) + 1) + 1) + 1) rest) ≡ option_or (cond x (Some (k + 1)) None) (first_from wrong_here ((k + 5) + 1) rest)) [
      | true ↦ refl
      | false ↦ ap (λ (n : ℕ). first_from wrong_here n rest) (omega arith)
    ]

number_far : (k m : ℕ) (x : Bool) (rest : List Token) (i j : ℕ) → i ≡ j → k ≡ m → cond x (Some i) (first_from wrong_here k rest) ≡ option_or (cond x (Some j) None) (first_from wrong_here m rest)
number_far k m true rest i j e f = ap (λ (n : ℕ). Some n) e
number_far k m false rest i j e f = ap (λ (n : ℕ). first_from wrong_here n rest) f

number_limit : (k : ℕ) (c : Side) (v : Phrase limit) (rest : List Token) → first_from wrong_here (k + 2) (side_token c ∷ (phrase_tokens v ++ rest)) ≡ option_or (wrong_limit (k + 2) v) (first_from wrong_here ((k + (2 + length (phrase_tokens v))) + 1) rest)
number_limit k side.AtLeast (plain n) rest = number_far _ _ (bad_limit n) rest _ _ (omega arith) (omega arith)
number_limit k side.AtMost (plain n) rest = number_far _ _ (bad_limit n) rest _ _ (omega arith) (omega arith)
number_limit k side.AtLeast (minus n) rest = number_far _ _ (bad_limit n) rest _ _ (omega arith) (omega arith)
number_limit k side.AtMost (minus n) rest = number_far _ _ (bad_limit n) rest _ _ (omega arith) (omega arith)

number_test : (k : ℕ) (o : Option ℕ) (c : Side) (v : Phrase limit) (rest : List Token) → first_from wrong_here (k + 1) (Name o ∷ (side_token c ∷ (phrase_tokens v ++ rest))) ≡ option_or (wrong_test k o v) (first_from wrong_here ((k + length (phrase_tokens (test o c v))) + 1) rest)
number_test k o c v rest =
    ap (λ (n : ℕ). first_from wrong_here n (side_token c ∷ (phrase_tokens v ++ rest))) (omega arith) ∙ number_limit k c v rest ∙ ap (option_or (wrong_limit (k + 2) v)) (ap (λ (n : ℕ). first_from wrong_here ((k + n) + 1) rest) (omega arith))

number_modal : (m : Modality) (r : List Token) → wrong_here (modal_token m ∷ r) ≡ false
number_modal modality.Eventually r = refl
number_modal modality.Always r = refl

names : Scanner unknown_here 0 any_window unknown_test
names = record {
  windows = name_window;
  tests = name_test;
  not_skips = λ r. refl;
  modal_skips = name_modal;
  open_skips = λ r. refl;
  close_skips = λ r. refl;
  until_skips = λ r. refl;
  and_skips = λ r. refl;
  or_skips = λ r. refl;
}

numbers : Scanner wrong_here 1 wrong_window wrong_test
numbers = record {
  windows = number_window;
  tests = number_test;
  not_skips = λ r. refl;
  modal_skips = number_modal;
  open_skips = λ r. refl;
  close_skips = λ r. refl;
  until_skips = λ r. refl;
  and_skips = λ r. refl;
  or_skips = λ r. refl;
}

pub unknown_scanned : (p : Phrase expr) → first_from unknown_here 0 (phrase_tokens p) ≡ unknown_place p
unknown_scanned p = scanned names p

pub wrong_scanned : (p : Phrase expr) → first_from wrong_here 1 (phrase_tokens p) ≡ wrong p
wrong_scanned p = scanned numbers p
