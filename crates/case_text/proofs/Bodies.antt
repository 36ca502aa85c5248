-- The bytes of fields: an entry's body, and a field behind others.
use Rattle.std.proofs.Common.{◌≡◌, ℕ, ◌/◌, ◌%◌, ◌<◌, List, [], ◌∷◌, get_or, ℤ, pos, negsuc, sym, refl, ap, ◌∙◌, subst, arith, w32, SFits, of_z}
use Rattle.std.proofs.lemmas.Int.{ints}
use Rattle.cases.specs.declared.field.Entry.{Entry}
use Rattle.cases.specs.Contents.{Says, entry}
use Rattle.cases.specs.Laws.{four_bytes, bits_of, Fits32}
use Rattle.cases.proofs.Packing.{entries}

abbrev pub big : ℕ → List ℕ
big n = n / 16777216 % 256 ∷ (n / 65536 % 256 ∷ (n / 256 % 256 ∷ (n % 256 ∷ [])))

big_is : (n : ℕ) → n < 4294967296 → four_bytes n ≡ big n
big_is n h = ap (λ (b : ℕ). b ∷ (n / 65536 % 256 ∷ (n / 256 % 256 ∷ (n % 256 ∷ [])))) (omega arith)

bits_is : (z : ℤ) → bits_of z ≡ of_z w32 z
bits_is (pos n) = refl
bits_is (negsuc n) = omega arith

bits_small : (z : ℤ) → Fits32 z → bits_of z < 4294967296
bits_small (pos n) h = omega (arith, ints)
bits_small (negsuc n) h = omega arith

pub fits_32 : (z : ℤ) → SFits w32 z → Fits32 z
fits_32 (pos n) f = let s : n < 2147483648 = f.sfits in (omega (arith, ints), omega (arith, ints))
fits_32 (negsuc n) f = let s : n < 2147483648 = f.sfits in (omega (arith, ints), omega (arith, ints))

signed_is : (z : ℤ) → Fits32 z → four_bytes (bits_of z) ≡ big (of_z w32 z)
signed_is z h = big_is (bits_of z) (bits_small z h) ∙ ap big (bits_is z)

abbrev pub laid : ℕ → List ℕ → List ℕ → List ℕ → List ℕ → List ℕ
laid line f t l u =
    line
    ∷ (get_or f 0 0
    ∷ (get_or f 1 0
    ∷ (get_or f 2 0
    ∷ (get_or f 3 0
    ∷ (get_or t 0 0
    ∷ (get_or t 1 0
    ∷ (get_or t 2 0
    ∷ (get_or t 3 0
    ∷ (get_or l 0 0
    ∷ (get_or l 1 0
    ∷ (get_or l 2 0
    ∷ (get_or l 3 0
    ∷ (get_or u 0 0
    ∷ (get_or u 1 0
    ∷ (get_or u 2 0
    ∷ (get_or u 3 0
    ∷ []))))))))))))))))

pub entry_said : (e : Entry) (f t l u : List ℕ) → e.from < 4294967296 → e.to < 4294967296 → Fits32 e.lower → Fits32 e.upper → f ≡ big e.from → t ≡ big e.to → l ≡ big (of_z w32 e.lower) → u ≡ big (of_z w32 e.upper) → Says 0x45 (laid e.line f t l u) (entry e)
entry_said e f t l u from to low high pf pt pl pu =
    let qf = big_is e.from from ∙ sym pf in
    let qt = big_is e.to to ∙ sym pt in
    let ql = signed_is e.lower low ∙ sym pl in
    let qu = signed_is e.upper high ∙ sym pu in
    subst (λ (v : List ℕ). Says 0x45 v (entry e)) (λ i. laid e.line (qf i) (qt i) (ql i) (qu i)) (entries e low high)
