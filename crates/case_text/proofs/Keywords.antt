-- What a line says, by its first word.
use Rattle.std.proofs.Common.{◌≡◌, ℕ, ◌<◌, ◌≤◌, Bool, true, false, List, [], ◌∷◌, length, Some, None, codes, Option, sym, ap, ◌∙◌, subst, arith}
use mathlib.Core.List.{head-eq_of_cons-eq}
use Rattle.tokens.specs.Words.{IsName}
use Rattle.cases.specs.declared.field.Entry.{Entry}
use Rattle.cases.specs.declared.field.Content.{Content}
use Rattle.cases.specs.Contents.{Item, name, rule, entry, tick, item_of}
use Rattle.case_text.specs.Pieces.{spoken, words_of, from_word, first_word, behind_word}
use Rattle.case_text.specs.Words.{WholeNumber, WordsEnter}
use Rattle.case_text.specs.Sayings.{Silent, LineSays, a_name, a_rule, an_entry, a_tick, Foregone, PlacedBy, MayCome}
use Rattle.case_text.specs.Parts.{Begins, ContentOf, NameContent, EntryContent, TickContent, FitsField}
use Rattle.case_text.proofs.Cutting.{none_first}

data Keyed (names : List (List ℕ)) (key args : List ℕ) (i : Item) : Type 0 where
  k_name : (w : List ℕ) → key ≡ codes "line" → words_of args ≡ w ∷ [] → i ≡ name w → Keyed names key args i
  k_rule : key ≡ codes "rule" → i ≡ rule (from_word args) → Keyed names key args i
  k_entry : (e : Entry) → key ≡ codes "enter" → WordsEnter names args e → i ≡ entry e → Keyed names key args i
  k_tick : (w : List ℕ) (n : ℕ) → key ≡ codes "tick" → words_of args ≡ w ∷ [] → WholeNumber w n → i ≡ tick n → Keyed names key args i

module _ (names : List (List ℕ)) (line told key args : List ℕ) (is : told ≡ spoken line) (cut : Begins told key args) where
  word : key ≡ first_word (spoken line)
  word = cut.word ∙ ap first_word is

  behind : args ≡ behind_word (spoken line)
  behind = cut.behind ∙ ap behind_word is

  keyed : (i : Item) → LineSays names line i → Keyed names key args i
  keyed i (a_name {w = w} e n p) = k_name w (word ∙ e) (ap words_of behind ∙ n) p
  keyed i (a_rule e p) = k_rule (word ∙ e) (p ∙ ap (λ (v : List ℕ). rule (from_word v)) (sym behind))
  keyed i (an_entry {e = x} e n p) = k_entry x (word ∙ e) (subst (λ (v : List ℕ). WordsEnter names v x) (sym behind) n) p
  keyed i (a_tick {w = w} {n = t} e n m p) = k_tick w t (word ∙ e) (ap words_of behind ∙ n) m p

  clash : {a b : ℕ} {xs ys : List ℕ} → key ≡ a ∷ xs → key ≡ b ∷ ys → a ≡ b
  clash x y = head-eq_of_cons-eq (sym x ∙ y)

  no_name : ((w : List ℕ) → words_of args ≡ w ∷ [] → ⊥) → key ≡ codes "line" → (i : Item) → Keyed names key args i → ⊥
  no_name none k i (k_name w e n p) = none w n
  no_name none k i (k_rule e p) = omega (arith, clash k e)
  no_name none k i (k_entry x e n p) = omega (arith, clash k e)
  no_name none k i (k_tick w t e n m p) = omega (arith, clash k e)

  no_entry : ((e : Entry) → WordsEnter names args e → ⊥) → key ≡ codes "enter" → (i : Item) → Keyed names key args i → ⊥
  no_entry none k i (k_name w e n p) = omega (arith, clash k e)
  no_entry none k i (k_rule e p) = omega (arith, clash k e)
  no_entry none k i (k_entry x e n p) = none x n
  no_entry none k i (k_tick w t e n m p) = omega (arith, clash k e)

  no_tick : ((w : List ℕ) (n : ℕ) → words_of args ≡ w ∷ [] → WholeNumber w n → ⊥) → key ≡ codes "tick" → (i : Item) → Keyed names key args i → ⊥
  no_tick none k i (k_name w e n p) = omega (arith, clash k e)
  no_tick none k i (k_rule e p) = omega (arith, clash k e)
  no_tick none k i (k_entry x e n p) = omega (arith, clash k e)
  no_tick none k i (k_tick w t e n m p) = none w t n m

  key_is : (w : List ℕ) → key ≡ w → first_word (spoken line) ≡ w
  key_is w k = sym word ∙ k

  pub by_name : key ≡ codes "line" → (r : Option Content) → NameContent args r → ContentOf names line r
  by_name k None none = λ i s. no_name none k i (keyed i s)
  by_name k (Some c) said = a_name (key_is _ k) (ap words_of (sym behind) ∙ said.1) said.2

  pub by_rule : (c : Content) → key ≡ codes "rule" → item_of c ≡ rule (from_word args) → LineSays names line (item_of c)
  by_rule c k said = a_rule (key_is _ k) (said ∙ ap (λ (v : List ℕ). rule (from_word v)) behind)

  pub by_entry : key ≡ codes "enter" → (r : Option Content) → EntryContent names args r → ContentOf names line r
  by_entry k None none = λ i s. no_entry none k i (keyed i s)
  by_entry k (Some c) said = an_entry (key_is _ k) (subst (λ (v : List ℕ). WordsEnter names v said.0) behind said.1) said.2

  pub by_tick : key ≡ codes "tick" → (r : Option Content) → TickContent args r → ContentOf names line r
  by_tick k None none = λ i s. no_tick none k i (keyed i s)
  by_tick k (Some c) said = a_tick (key_is _ k) (ap words_of (sym behind) ∙ said.2) said.3 said.4

  no_key : (key ≡ codes "line" → ⊥) → (key ≡ codes "rule" → ⊥) → (key ≡ codes "enter" → ⊥) → (key ≡ codes "tick" → ⊥) → (i : Item) → Keyed names key args i → ⊥
  no_key a b c d i (k_name w e n p) = a e
  no_key a b c d i (k_rule e p) = b e
  no_key a b c d i (k_entry x e n p) = c e
  no_key a b c d i (k_tick w t e n m p) = d e

  pub by_none : (key ≡ codes "line" → ⊥) → (key ≡ codes "rule" → ⊥) → (key ≡ codes "enter" → ⊥) → (key ≡ codes "tick" → ⊥) → (i : Item) → LineSays names line i → ⊥
  by_none a b c d = λ i s. no_key a b c d i (keyed i s)

-- a silent line says no item
no_first : (line word : List ℕ) → 0 < length word → Silent line → first_word (spoken line) ≡ word → ⊥
no_first line word some s e = omega (arith, some, ap length e, ap length (none_first (spoken line) s))

pub loud : (names : List (List ℕ)) (line : List ℕ) (i : Item) → Silent line → LineSays names line i → ⊥
loud names line i s (a_name e n p) = no_first line (codes "line") (omega arith) s e
loud names line i s (a_rule e p) = no_first line (codes "rule") (omega arith) s e
loud names line i s (an_entry e n p) = no_first line (codes "enter") (omega arith) s e
loud names line i s (a_tick e n m p) = no_first line (codes "tick") (omega arith) s e

-- what a line says that may stand there fits a field
name_size : (w : List ℕ) → IsName w → (0 < length w) × (length w ≤ 8)
name_size [] n = absurd n.letter
name_size (b ∷ w) n = (omega arith, n.short)

name_fits : (ruled : Bool) (names : List (List ℕ)) (w : List ℕ) → PlacedBy ruled names (name w) → (0 < length w) × (length w ≤ 8)
name_fits false names w a = name_size w a.formed
name_fits true names w a = absurd a

pub fits_here : (f : Foregone) (i : Item) → MayCome f i → FitsField f.size i
fits_here f (name w) m = let n = name_fits f.ruled f.names w m.0 in (n.0, n.1, omega (arith, m.1))
fits_here f (rule text) m = omega (arith, m.1)
fits_here f (entry e) m = m.1
fits_here f (tick t) m = m.1
