-- Where a field ends.
use Rattle.std.proofs.Common.{◌≡◌, ℕ, ◌+◌, ◌-◌, ◌*◌, ◌<◌, ◌≤◌, List, [], ◌∷◌, ◌++◌, length, get_or, take, drop, sym, ap, ◌∙◌, arith}
use Rattle.std.proofs.lemmas.List.{length-append, length-take-le, take-append-drop, nil_from_length, drop-drop, take_rest}
use Rattle.cases.specs.Fields.{Leads, CutShort}

-- three bytes and what they say stands behind them
pub leads : (bytes : List ℕ) (size : ℕ) → 3 ≤ length bytes → size ≡ get_or bytes 1 0 * 256 + get_or bytes 2 0 → size ≤ length (drop 3 bytes) → Leads bytes (get_or bytes 0 0) (take size (drop 3 bytes)) (drop size (drop 3 bytes))
leads [] size h e s = absurd (omega arith)
leads (a ∷ []) size h e s = absurd (omega arith)
leads (a ∷ (b ∷ [])) size h e s = absurd (omega arith)
leads (a ∷ (b ∷ (c ∷ r))) size h e s = record {
  high = b;
  low = c;
  whole = ap (λ (v : List ℕ). a ∷ (b ∷ (c ∷ v))) (sym (take-append-drop size r));
  size = length-take-le size r s ∙ e;
}

-- fewer than three bytes are cut short
pub no_front : (bytes : List ℕ) → 0 < length bytes → length bytes < 3 → CutShort bytes
no_front bytes some few = record {
  some = some;
  none = λ tag body rest l. omega (arith, ap length l.whole);
}

-- and so are fewer than the length says
size_said : (bytes : List ℕ) (tag : ℕ) (body rest : List ℕ) → Leads bytes tag body rest → get_or bytes 1 0 * 256 + get_or bytes 2 0 + 3 ≤ length bytes
size_said bytes tag body rest l =
    let h : get_or bytes 1 0 ≡ l.high = ap (λ (v : List ℕ). get_or v 1 0) l.whole in
    let w : get_or bytes 2 0 ≡ l.low = ap (λ (v : List ℕ). get_or v 2 0) l.whole in
    omega (arith, h, w, l.size, ap length l.whole, length-append body rest)

pub no_body : (bytes : List ℕ) (size : ℕ) → 3 ≤ length bytes → size ≡ get_or bytes 1 0 * 256 + get_or bytes 2 0 → length bytes < size + 3 → CutShort bytes
no_body bytes size some e few = record {
  some = omega arith;
  none = λ tag body rest l. omega (arith, size_said bytes tag body rest l);
}

-- the same of the bytes from a place on, as slices have them
abbrev pub from : List ℕ → ℕ → List ℕ
from xs at = take (length xs - at) (drop at xs)

moved : {tag : ℕ} {a b body other rest more : List ℕ} → a ≡ b → body ≡ other → rest ≡ more → Leads a tag body rest → Leads b tag other more
moved {tag} {a} {b} {body} {other} {rest} {more} p q r l =
    record { high = l.high; low = l.low; whole = sym p ∙ l.whole ∙ ap (λ (v : List ℕ). tag ∷ (l.high ∷ (l.low ∷ (v ++ rest)))) q ∙ ap (λ (v : List ℕ). tag ∷ (l.high ∷ (l.low ∷ (other ++ v)))) r; size = sym (ap length q) ∙ l.size }

module _ (xs : List ℕ) (at : ℕ) where
  pub none_left : length (from xs at) ≡ 0 → drop at xs ≡ []
  none_left e = sym (take_rest xs at) ∙ nil_from_length (from xs at) e

  pub taken : (size : ℕ) (body : List ℕ) → 3 ≤ length (from xs at) → size ≡ get_or (from xs at) 1 0 * 256 + get_or (from xs at) 2 0 → size ≤ length (from (from xs at) 3) → body ≡ take size (from (from xs at) 3) → Leads (drop at xs) (get_or (from xs at) 0 0) body (drop (at + (3 + size)) xs)
  taken size body some e within is =
      let tail : from (from xs at) 3 ≡ drop 3 (from xs at) = take_rest (from xs at) 3 in
      moved
      (take_rest xs at)
      (sym (is ∙ ap (take size) tail))
      (ap (λ (v : List ℕ). drop size (drop 3 v)) (take_rest xs at) ∙ ap (drop size) (drop-drop 3 at xs) ∙ drop-drop size (at + 3) xs ∙ ap (λ (n : ℕ). drop n xs) (omega arith))
      (leads (from xs at) size some e (omega (arith, ap length tail)))
