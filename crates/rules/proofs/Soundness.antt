-- The rows of a derivation make a sound table.
use Rattle.std.proofs.Common.{◌≡◌, ℕ, zero, suc, ◌+◌, ◌-◌, ◌<◌, ◌≤◌, Bool, true, false, cond, ◌&&◌, ◌||◌, eqb, ltb, leb, ◌⊎◌, List, [], ◌∷◌, ◌++◌, length, Some, None, Option, sym, refl, ap, ◌∙◌, subst, inl, inr, arith, ltb-false, ltb-true, lt-ltb, eq-eqb, ne_eqb, eqb-true, le-leb}
use borrow.Author.Tests.{eqb-false}
use Rattle.std.proofs.lemmas.Int.{ints}
use Rattle.std.specs.Option.{option_or}
use Rattle.rules.specs.declared.row.Row.{Row}
use Rattle.rules.specs.declared.row.Row.TheVariants.{Test}
use Rattle.rules.specs.Rows.{row_at, row_fits, row_earlier, one_if, kids, uses}
use Rattle.rules.specs.declared.modality.Modality.{Modality}
use Rattle.rules.specs.declared.modality.Modality.TheVariants as modality
use Rattle.rules.specs.Grammar.{PhraseSort, window, limit, part, meet, expr, Phrase, span, plain, minus, test, opposite, modal, brackets, until, one_part, both, one_meet, either, phrase_tokens}
use Rattle.rules.specs.Tables.{size, limit_of, line_of, modal_row, until_row, rows_of}
use Rattle.rules.specs.Checks.{first_in, bad_window, bad_limit, wrong_window, wrong_limit, wrong_test}
use Rattle.rules.proofs.Growth.{rows_long}

-- P holds of each row with its number, where the first has the number b
abbrev pub Each : (Row → ℕ → Type 0) → ℕ → List Row → Type 0
Each P b [] = Unit {0}
Each P b (r ∷ rows) = P r b × Each P (b + 1) rows

pub each_append : (P : Row → ℕ → Type 0) (b n : ℕ) (xs ys : List Row) → n ≡ b + length xs → Each P b xs → Each P n ys → Each P b (xs ++ ys)
each_append P b n [] ys e h g = subst (λ (k : ℕ). Each P k ys) (e ∙ omega arith) g
each_append P b n (x ∷ xs) ys e h g = (h.0, each_append P (b + 1) n xs ys (e ∙ omega arith) h.1 g)

pub each_at : (P : Row → ℕ → Type 0) (b : ℕ) (rows : List Row) → Each P b rows → (k : ℕ) → k < length rows → P (row_at rows k) (b + k)
each_at P b [] h k lt = absurd (omega arith)
each_at P b (r ∷ rows) h zero lt = subst (λ (n : ℕ). P r n) (omega arith) h.0
each_at P b (r ∷ rows) h (suc k) lt = subst (λ (n : ℕ). P (row_at rows k) n) (omega arith) (each_at P (b + 1) rows h.1 k (omega arith))

-- kinds of phrase that have rows
abbrev pub Rowed : PhraseSort → Type 0
Rowed window = ⊥
Rowed limit = ⊥
Rowed part = Unit {0}
Rowed meet = Unit {0}
Rowed expr = Unit {0}

pub size_some : {l : PhraseSort} (p : Phrase l) → Rowed l → 0 < size p
size_some (span a b) h = absurd h
size_some (plain n) h = absurd h
size_some (minus n) h = absurd h
size_some (test o s v) h = omega arith
size_some (opposite p) h = omega arith
size_some (modal m w p) h = omega arith
size_some (brackets e) h = size_some e tt
size_some (until e w f) h = omega arith
size_some (one_part p) h = size_some p tt
size_some (both m p) h = omega arith
size_some (one_meet m) h = size_some m tt
size_some (either e m) h = omega arith

abbrev Earlier : Row → ℕ → Type 0
Earlier r k = row_earlier r k ≡ true

both_true : (a b : Bool) → a ≡ true → b ≡ true → a && b ≡ true
both_true a b h g = ap (λ (x : Bool). x && b) h ∙ g

modal_earlier : (m : Modality) (w : Phrase window) (c k : ℕ) → c < k → Earlier (modal_row m w c) k
modal_earlier modality.Eventually (span a b) c k h = lt-ltb c k h
modal_earlier modality.Always (span a b) c k h = lt-ltb c k h

until_earlier : (w : Phrase window) (l r k : ℕ) → l < k → r < k → Earlier (until_row w l r) k
until_earlier (span a b) l r k h g = both_true (ltb l k) (ltb r k) (lt-ltb l k h) (lt-ltb r k g)

-- a phrase and a row above it
one_above : (P : Row → ℕ → Type 0) {l : PhraseSort} (b : ℕ) (p : Phrase l) (r : Row) → Each P b (rows_of b p) → P r (b + size p) → Each P b (rows_of b p ++ (r ∷ []))
one_above P b p r h g = each_append P b (b + size p) (rows_of b p) (r ∷ []) (ap (λ (n : ℕ). b + n) (sym (rows_long b p))) h (g, tt)

two_above : (P : Row → ℕ → Type 0) {l k : PhraseSort} (b : ℕ) (p : Phrase l) (q : Phrase k) (r : Row) → Each P b (rows_of b p) → Each P (b + size p) (rows_of (b + size p) q) → P r ((b + size p) + size q) → Each P b (rows_of b p ++ (rows_of (b + size p) q ++ (r ∷ [])))
two_above P b p q r h g f = each_append P b (b + size p) (rows_of b p) _ (ap (λ (n : ℕ). b + n) (sym (rows_long b p))) h (one_above P (b + size p) q r g f)

pub earlier : {l : PhraseSort} (b : ℕ) (p : Phrase l) → Each Earlier b (rows_of b p)
earlier b (span a c) = tt
earlier b (plain n) = tt
earlier b (minus n) = tt
earlier b (test o s v) = (refl, tt)
earlier b (opposite p) = one_above Earlier b p _ (earlier b p) (lt-ltb ((b + size p) - 1) (b + size p) (omega (arith, size_some p tt)))
earlier b (modal m w p) = one_above Earlier b p _ (earlier b p) (modal_earlier m w ((b + size p) - 1) (b + size p) (omega (arith, size_some p tt)))
earlier b (brackets e) = earlier b e
earlier b (until e w f) = two_above Earlier b e f _ (earlier b e) (earlier (b + size e) f) (until_earlier w ((b + size e) - 1) (((b + size e) + size f) - 1) ((b + size e) + size f) (omega (arith, size_some e tt, size_some f tt)) (omega (arith, size_some e tt, size_some f tt)))
earlier b (one_part p) = earlier b p
earlier b (both m p) = two_above Earlier b m p _ (earlier b m) (earlier (b + size m) p) (both_true _ _ (lt-ltb ((b + size m) - 1) ((b + size m) + size p) (omega (arith, size_some m tt, size_some p tt))) (lt-ltb (((b + size m) + size p) - 1) ((b + size m) + size p) (omega (arith, size_some m tt, size_some p tt))))
earlier b (one_meet m) = earlier b m
earlier b (either e m) = two_above Earlier b e m _ (earlier b e) (earlier (b + size e) m) (both_true _ _ (lt-ltb ((b + size e) - 1) ((b + size e) + size m) (omega (arith, size_some e tt, size_some m tt))) (lt-ltb (((b + size e) + size m) - 1) ((b + size e) + size m) (omega (arith, size_some e tt, size_some m tt))))

-- limits and windows in bounds
abbrev Fits : Row → ℕ → Type 0
Fits r k = row_fits r ≡ true

none_left : (a b : Option ℕ) → option_or a b ≡ None → a ≡ None
none_left None b h = refl
none_left (Some k) b h = h

none_right : (a b : Option ℕ) → option_or a b ≡ None → b ≡ None
none_right None b h = h
none_right (Some k) b h = let z : ◌≡◌ {A = ℕ} 0 1 = cc in absurd (omega arith)

not_found : (x : Bool) (k : ℕ) → cond x (Some k) None ≡ None → x ≡ false
not_found true k h = let z : ◌≡◌ {A = ℕ} 0 1 = cc in absurd (omega arith)
not_found false k h = refl

none_either : (a b : Bool) → a || b ≡ false → a ≡ false
none_either true b h = h
none_either false b h = refl

window_fits : (k : ℕ) (a b : ℕ) → wrong_window k (span a b) ≡ None → leb a b ≡ true
window_fits k a b h = le-leb a b (ltb-false b a (none_either (ltb b a) (ltb 500000000 b) (not_found (bad_window a b) (k + 1) h)))

modal_fits : (k : ℕ) (m : Modality) (w : Phrase window) (c : ℕ) → wrong_window k w ≡ None → row_fits (modal_row m w c) ≡ true
modal_fits k modality.Eventually (span a b) c h = window_fits k a b h
modal_fits k modality.Always (span a b) c h = window_fits k a b h

until_fits : (k : ℕ) (w : Phrase window) (l r : ℕ) → wrong_window k w ≡ None → row_fits (until_row w l r) ≡ true
until_fits k (span a b) l r h = window_fits k a b h

limit_fits : (k : ℕ) (o : ℕ) (s : _) (v : Phrase limit) → wrong_limit k v ≡ None → row_fits (Test o s (limit_of v)) ≡ true
limit_fits k o s (plain n) h = let lt : n ≤ 500000 = ltb-false 500000 n (not_found (bad_limit n) k h) in grind (arith, ints)
limit_fits k o s (minus n) h = let lt : n ≤ 500000 = ltb-false 500000 n (not_found (bad_limit n) (k + 1) h) in grind (arith, ints)

pub fits : {l : PhraseSort} (k b : ℕ) (p : Phrase l) → first_in wrong_window wrong_test k p ≡ None → Each Fits b (rows_of b p)
fits k b (span a c) h = tt
fits k b (plain n) h = tt
fits k b (minus n) h = tt
fits k b (test o s v) h = (limit_fits (k + 2) (line_of o) s v h, tt)
fits k b (opposite p) h = one_above Fits b p _ (fits (k + 1) b p h) refl
fits k b (modal m w p) h = one_above Fits b p _ (fits _ b p (none_right _ _ h)) (modal_fits _ m w _ (none_left _ _ h))
fits k b (brackets e) h = fits (k + 1) b e h
fits k b (until e w f) h =
    let j : ℕ = ((k + 1) + length (phrase_tokens e)) + 1 in
    let i : ℕ = j + length (phrase_tokens w) in
    let ee : Option ℕ = first_in wrong_window wrong_test (k + 1) e in
    let ff : Option ℕ = first_in wrong_window wrong_test i f in
    let g : option_or (wrong_window j w) ff ≡ None = none_right ee (option_or (wrong_window j w) ff) h in
    two_above Fits b e f _ (fits (k + 1) b e (none_left ee (option_or (wrong_window j w) ff) h)) (fits i (b + size e) f (none_right (wrong_window j w) ff g)) (until_fits j w _ _ (none_left (wrong_window j w) ff g))
fits k b (one_part p) h = fits k b p h
fits k b (both m p) h = two_above Fits b m p _ (fits _ b m (none_left _ _ h)) (fits _ (b + size m) p (none_right _ _ h)) refl
fits k b (one_meet m) h = fits k b m h
fits k b (either e m) h = two_above Fits b e m _ (fits _ b e (none_left _ _ h)) (fits _ (b + size e) m (none_right _ _ h)) refl

-- each row but the last is a child once
pub uses_append : (xs ys : List Row) (c : ℕ) → uses (xs ++ ys) c ≡ uses xs c + uses ys c
uses_append [] ys c = omega arith
uses_append (x ∷ xs) ys c = omega (arith, uses_append xs ys c)

-- how often c is a child in n rows from b on that make one tree
abbrev pub Tree : List Row → ℕ → ℕ → Type 0
Tree rows b n = (c : ℕ) → ((b ≤ c) → (c + 1 < b + n) → uses rows c ≡ 1) × ((c < b) ⊎ (b + n ≤ c + 1) → uses rows c ≡ 0)

is_one : (c a : ℕ) → c ≡ a → one_if (eqb c a) ≡ 1
is_one c a h = ap one_if (eq-eqb c a h)

is_zero : (c a : ℕ) → ((c ≡ a) → ⊥) → one_if (eqb c a) ≡ 0
is_zero c a h = ap one_if (ne_eqb c a h)

-- where c stands to the last row of a tree
pub data Where (c r : ℕ) : Type 0 where
  below : c < r → Where c r
  last : c ≡ r → Where c r
  past : r < c → Where c r

where_is : (c r : ℕ) → Where c r
where_is c r =
    elim (ltb c r) as (λ (x : Bool). ltb c r ≡ x → Where c r) [
      | true ↦ λ h. below (ltb-true c r h)
      | false ↦ λ h.
          elim (eqb c r) as (λ (y : Bool). eqb c r ≡ y → Where c r) [
            | true ↦ λ g. last (eqb-true c r g)
            | false ↦ λ g. let le : r ≤ c = ltb-false c r h in let ne : (c ≡ r) → ⊥ = eqb-false c r g in past (omega arith)
          ] refl
    ] refl

tree_one : (xs : List Row) (b n : ℕ) (r : Row) → 0 < n → ((c : ℕ) → kids r c ≡ one_if (eqb c ((b + n) - 1))) → Tree xs b n → Tree (xs ++ (r ∷ [])) b (n + 1)
tree_one xs b n r some k t c =
    let e : ℕ = (b + n) - 1 in
    let whole = uses_append xs (r ∷ []) c in (
      λ lo hi. elim (where_is c e) [
        | below h ↦ omega (arith, whole, k c, is_zero c e (λ q. omega arith), (t c).0 lo (omega arith))
        | last h ↦ omega (arith, whole, k c, is_one c e h, (t c).1 (inr (omega arith)))
        | past h ↦ absurd (omega arith)
      ],
      λ out. elim out [
        | inl h ↦ omega (arith, whole, k c, is_zero c e (λ q. omega arith), (t c).1 (inl h))
        | inr h ↦ omega (arith, whole, k c, is_zero c e (λ q. omega arith), (t c).1 (inr (omega arith)))
      ],
    )

tree_two : (xs ys : List Row) (b m n : ℕ) (r : Row) → 0 < m → 0 < n → ((c : ℕ) → kids r c ≡ one_if (eqb c ((b + m) - 1)) + one_if (eqb c (((b + m) + n) - 1))) → Tree xs b m → Tree ys (b + m) n → Tree (xs ++ (ys ++ (r ∷ []))) b ((m + n) + 1)
tree_two xs ys b m n r sm sn k t u c =
    let e : ℕ = (b + m) - 1 in
    let d : ℕ = ((b + m) + n) - 1 in
    let first = uses_append xs (ys ++ (r ∷ [])) c in
    let second = uses_append ys (r ∷ []) c in (
      λ lo hi. elim (where_is c e) [
        | below h ↦ omega (arith, first, second, k c, is_zero c e (λ q. omega arith), is_zero c d (λ q. omega arith), (t c).0 lo (omega arith), (u c).1 (inl (omega arith)))
        | last h ↦ omega (arith, first, second, k c, is_one c e h, is_zero c d (λ q. omega arith), (t c).1 (inr (omega arith)), (u c).1 (inl (omega arith)))
        | past h ↦ elim (where_is c d) [
          | below g ↦ omega (arith, first, second, k c, is_zero c e (λ q. omega arith), is_zero c d (λ q. omega arith), (t c).1 (inr (omega arith)), (u c).0 (omega arith) (omega arith))
          | last g ↦ omega (arith, first, second, k c, is_zero c e (λ q. omega arith), is_one c d g, (t c).1 (inr (omega arith)), (u c).1 (inr (omega arith)))
          | past g ↦ absurd (omega arith)
        ]
      ],
      λ out. elim out [
        | inl h ↦ omega (arith, first, second, k c, is_zero c e (λ q. omega arith), is_zero c d (λ q. omega arith), (t c).1 (inl h), (u c).1 (inl (omega arith)))
        | inr h ↦ omega (arith, first, second, k c, is_zero c e (λ q. omega arith), is_zero c d (λ q. omega arith), (t c).1 (inr (omega arith)), (u c).1 (inr (omega arith)))
      ],
    )

modal_kids : (m : Modality) (w : Phrase window) (d c : ℕ) → kids (modal_row m w d) c ≡ one_if (eqb c d)
modal_kids modality.Eventually (span a b) d c = refl
modal_kids modality.Always (span a b) d c = refl

until_kids : (w : Phrase window) (l r c : ℕ) → kids (until_row w l r) c ≡ one_if (eqb c l) + one_if (eqb c r)
until_kids (span a b) l r c = refl

pub tree : {l : PhraseSort} (b : ℕ) (p : Phrase l) → Rowed l → Tree (rows_of b p) b (size p)
tree b (span a c) h = absurd h
tree b (plain n) h = absurd h
tree b (minus n) h = absurd h
tree b (test o s v) h = λ c. (λ lo hi. absurd (omega arith), λ out. refl)
tree b (opposite p) h = tree_one (rows_of b p) b (size p) _ (size_some p tt) (λ c. refl) (tree b p tt)
tree b (modal m w p) h = tree_one (rows_of b p) b (size p) _ (size_some p tt) (modal_kids m w _) (tree b p tt)
tree b (brackets e) h = tree b e tt
tree b (until e w f) h = tree_two (rows_of b e) (rows_of (b + size e) f) b (size e) (size f) _ (size_some e tt) (size_some f tt) (until_kids w _ _) (tree b e tt) (tree (b + size e) f tt)
tree b (one_part p) h = tree b p tt
tree b (both m p) h = tree_two (rows_of b m) (rows_of (b + size m) p) b (size m) (size p) _ (size_some m tt) (size_some p tt) (λ c. refl) (tree b m tt) (tree (b + size m) p tt)
tree b (one_meet m) h = tree b m tt
tree b (either e m) h = tree_two (rows_of b e) (rows_of (b + size e) m) b (size e) (size m) _ (size_some e tt) (size_some m tt) (λ c. refl) (tree b e tt) (tree (b + size e) m tt)
