-- What holds of every text that falls into tokens, for those who read on from its tokens.
use Rattle.std.proofs.Common.{◌≡◌, ℕ, zero, suc, ◌+◌, ◌<◌, ◌≤◌, List, [], ◌++◌, length, get_or, drop, Some, sym, refl, ap, ◌∙◌, subst, arith}
use Rattle.std.specs.List.{AllByRecursion}
use Rattle.std.proofs.lemmas.List.{length-append, drop-drop, drop_at}
use Rattle.std.proofs.ByRecursion.{All-get_or, All-weaker}
use Rattle.tokens.specs.declared.token.Token.{Token}
use Rattle.tokens.specs.declared.token.Token.TheVariants.{Name, Number}
use Rattle.tokens.specs.Words.{Named, IsName, Spells}
use Rattle.tokens.specs.Splits.{LongestWord, ReadsWords, nothing, blank, word, Split}
use Rattle.tokens.proofs.Decimals.{decimal_below}
use Rattle.tokens.proofs.Pieces.{view, word_piece}
use Rattle.tokens.proofs.OneWay.{piece_some}

some_bytes : (names : List (List ℕ)) (w rest : List ℕ) (t : Token) → Spells names w t → LongestWord w rest → 0 < length w
some_bytes names w rest t s l = piece_some (word_piece (view names w t s) rest l)

-- each token took a byte at least
took : {names : List (List ℕ)} {p q : ℕ} {text rest ps : List ℕ} {ts : List Token} → ReadsWords names p text q rest ps ts → length ts + length rest ≤ length text
took nothing = omega arith
took (blank b r) = let h = took r in omega arith
took {names} (word {w = w} {after = after} {token = t} e s l r) =
    let h = took r in
    omega (arith, ap length e, length-append w after, some_bytes names w after t s l)

-- each place lies between the ends
between_ends : {names : List (List ℕ)} {p q : ℕ} {text rest ps : List ℕ} {ts : List Token} → ReadsWords names p text q rest ps ts → (p ≤ q) × AllByRecursion (λ x. (p ≤ x) × (x < q)) ps
between_ends nothing = (omega arith, tt)
between_ends (blank b r) = let h = between_ends r in (omega (arith, h.0), All-weaker _ _ (λ x i. (omega (arith, i.0), i.1)) _ h.1)
between_ends {names} (word {w = w} {after = after} {token = t} e s l r) =
    let h = between_ends r in
    let some = some_bytes names w after t s l in
    (omega (arith, h.0), ((omega arith, omega (arith, h.0)), All-weaker _ _ (λ x i. (omega (arith, i.0), i.1)) _ h.1))

spelled : {names : List (List ℕ)} {p q : ℕ} {text rest ps : List ℕ} {ts : List Token} → ReadsWords names p text q rest ps ts → AllByRecursion (λ t. (w : List ℕ) × Spells names w t) ts
spelled nothing = tt
spelled (blank b r) = spelled r
spelled (word {w = w} e s l r) = ((w, s), spelled r)

as_many : {names : List (List ℕ)} {p q : ℕ} {text rest ps : List ℕ} {ts : List Token} → ReadsWords names p text q rest ps ts → length ps ≡ length ts
as_many nothing = refl
as_many (blank b r) = as_many r
as_many (word e s l r) = ap suc (as_many r)

-- at this place of the text the word of this token stands
pub record Stands (names : List (List ℕ)) (text : List ℕ) (place : ℕ) (t : Token) : Type 0 where
  pub bytes : List ℕ
  pub after : List ℕ
  pub text_is : drop place text ≡ bytes ++ after
  pub spells : Spells names bytes t
  pub longest : LongestWord bytes after

stands : {names : List (List ℕ)} (whole : List ℕ) {p q : ℕ} {text rest ps : List ℕ} {ts : List Token} → drop p whole ≡ text → ReadsWords names p text q rest ps ts → (i : ℕ) (d : Token) → i < length ts → Stands names whole (get_or ps i 0) (get_or ts i d)
stands whole here nothing i d h = absurd (omega arith)
stands whole {p} here (blank b r) i d h = stands whole (sym (drop-drop 1 p whole) ∙ ap (drop 1) here) r i d h
stands whole here (word {w = w} {after = after} e s l r) zero d h = record { bytes = w; after = after; text_is = here ∙ e; spells = s; longest = l }
stands whole {p} here (word {w = w} {after = after} e s l r) (suc i) d h =
    stands whole (sym (drop-drop (length w) p whole) ∙ ap (drop (length w)) (here ∙ e) ∙ drop_at w after (length w) refl) r i d (omega arith)

rises : {names : List (List ℕ)} {p q : ℕ} {text rest ps : List ℕ} {ts : List Token} → ReadsWords names p text q rest ps ts → (i j : ℕ) → i < j → j < length ps → get_or ps i 0 < get_or ps j 0
rises nothing i j h k = absurd (omega arith)
rises (blank b r) i j h k = rises r i j h k
rises {names} (word {w = w} {after = after} {places = ps} {token = t} e s l r) zero (suc j) h k =
    omega (arith, (All-get_or _ ps j 0 (omega arith) (between_ends r).1).0, some_bytes names w after t s l)
rises (word e s l r) (suc i) (suc j) h k = rises r i j (omega arith) (omega arith)
rises (word e s l r) i zero h k = absurd (omega arith)

module _ (names : List (List ℕ)) (text places : List ℕ) (tokens : List Token) (split : Split names text places tokens) where
  pub places_tokens : length places ≡ length tokens
  places_tokens = as_many split

  pub tokens_few : length tokens ≤ length text
  tokens_few = omega (arith, took split)

  pub places_within : AllByRecursion (λ x. x < length text) places
  places_within = All-weaker _ _ (λ x h. h.1) _ (between_ends split).1

  pub places_rise : (i j : ℕ) → i < j → j < length places → get_or places i 0 < get_or places j 0
  places_rise = rises split

  pub token_stands : (i : ℕ) (d : Token) → i < length tokens → Stands names text (get_or places i 0) (get_or tokens i d)
  token_stands = stands text refl split

  pub numbers_small : AllByRecursion (λ t. (n : ℕ) → t ≡ Number n → n < 1000000000) tokens
  numbers_small = All-weaker _ _ (λ t h n e. small n (subst (Spells names h.0) e h.1)) _ (spelled split)
    where
      small : (n : ℕ) {w : List ℕ} → Spells names w (Number n) → n < 1000000000
      small n {w} s = omega (arith, s.1, decimal_below w 9 s.0.all s.0.short)

  pub lines_known : AllByRecursion (λ t. (k : ℕ) → t ≡ Name (Some k) → Named names (get_or names k []) k × IsName (get_or names k [])) tokens
  lines_known = All-weaker _ _ (λ t h k e. known k h.0 (subst (Spells names h.0) e h.1)) _ (spelled split)
    where
      known : (k : ℕ) (w : List ℕ) → Spells names w (Name (Some k)) → Named names (get_or names k []) k × IsName (get_or names k [])
      known k w s = let e = sym s.1.same in (subst (λ v. Named names v k) e s.1, subst IsName e s.0)
