-- A buffer that fills read by read.
use Rattle.std.proofs.Common.{◌≡◌, ℕ, ◌+◌, ◌<◌, ◌≤◌, List, [], ◌++◌, length, take, Option, None, Some, IfSome, Result, Ok, Err, IfOk, sym, ap, ◌∙◌, subst, ⊎_elim, length-take-le, append-nil, arith}
use Rattle.std.proofs.lemmas.Bool.{cases_eq}
use Rattle.std.proofs.lemmas.List.{take_all, take_at, take-append-le}
use Rattle.std.proofs.Math.Seq.{take-append-add}
use Rattle.std.specs.Io.KnownBytes.{Consumes, Keeps, IsAtEnd}
use Rattle.std.proofs.KnownBytes.{Consumes-trans, Consumes-nil, Consumes-kept}
use borrow.Rule.Slice.PartMut.{put_mid, post_of}

-- the bytes of one more read stand behind those before
pub read_on : (a b c : Option (List ℕ)) (xs ys : List ℕ) (s k n : ℕ) → s ≤ length xs → n ≤ length ys → Consumes a b (take s xs) → Consumes b c (take n ys) → Consumes a c (take (s + n) (put_mid s k xs ys))
read_on a b c xs ys s k n within few p q =
    let both : take (s + n) (put_mid s k xs ys) ≡ take s xs ++ take n ys =
    ap (λ i. take (i + n) (put_mid s k xs ys)) (sym (length-take-le s xs within)) ∙ take-append-add (take s xs) (ys ++ post_of s k xs) n ∙ ap (λ v. take s xs ++ v) (take-append-le n ys (post_of s k xs) few) in
    subst (Consumes a c) (sym both) (Consumes-trans a b c (take s xs) (take n ys) p q)

-- and a read that gives none leaves those before
pub read_none : (a b c : Option (List ℕ)) (xs ys : List ℕ) (s k : ℕ) → s ≤ length xs → Consumes a b (take s xs) → Keeps b c → Consumes a c (take s (put_mid s k xs ys))
read_none a b c xs ys s k within p q = subst (λ (n : ℕ). Consumes a c (take n (put_mid s k xs ys))) (omega arith) (read_on a b c xs ys s k 0 within (omega arith) p (Consumes-kept b b c [] (Consumes-nil b) q))

-- bytes that fill the room, or behind which nothing is left, are the first of all
pub first_bytes : (a b : Option (List ℕ)) (xs : List ℕ) (n room : ℕ) → n ≤ room → n ≤ length xs → Consumes a b (take n xs) → (n < room → IsAtEnd b) → IfSome a (λ ys. take n xs ≡ take room ys)
first_bytes None b xs n room few within p e = tt
first_bytes (Some ys) None xs n room few within p e = absurd p
first_bytes (Some ys) (Some zs) xs n room few within p e =
    let long = length-take-le n xs within in
    sym (ap (take room) p ∙ ⊎_elim
    (λ (q : n ≡ room). take_at (take n xs) zs room (long ∙ q))
    (λ (q : n ≡ room → ⊥). ap (λ v. take room (take n xs ++ v)) (e (omega arith)) ∙ ap (take room) (append-nil (take n xs)) ∙ take_all room (take n xs) (omega (arith, long, few)))
    (cases_eq n room))

-- the same of a read that may fail
pub first_read : {E : Type 0} (r : Result ℕ E) (a b : Option (List ℕ)) (xs : List ℕ) (room most : ℕ) → length xs ≡ room → room ≡ most → IfOk r (λ n. n ≤ room) → IfOk r (λ n. Consumes a b (take n xs)) → IfOk r (λ n. n < room → IsAtEnd b) → IfOk r (λ n. IfSome a (λ ys. take n xs ≡ take most ys))
first_read (Ok n) a b xs room most long same few p e = subst (λ m. IfSome a (λ ys. take n xs ≡ take m ys)) same (first_bytes a b xs n room few (omega (arith, long, few)) p e)
first_read (Err x) a b xs room most long same few p e = tt
