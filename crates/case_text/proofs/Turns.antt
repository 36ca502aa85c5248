-- A turn of a `for` and its end, by what the calls of `next` gave.
use Rattle.std.proofs.Common.{◌≡◌, ◌<◌, List, length, get_or, Some, None, Option}
use Rattle.std.specs.Iterator.{Yields}
use Rattle.std.proofs.lemmas.Iterator.{YieldsList}
use Rattle.std.proofs.lemmas.Iterator.Consumers.{YieldsList-turn, YieldsList-end}

module _ {S A B : Type 0} {steps : S → Option A → S → Type 0} {v : A → B} {s : S} {all : List B} (xs : List A) (t : S) (y : Yields steps s xs t) (r : Option A) (u : S) (last : steps t r u) where
  pub turn : (x : A) → r ≡ Some x → YieldsList steps v s all → (length xs < length all) × (v x ≡ get_or all (length xs) (v x))
  turn x is e = YieldsList-turn e xs t y r u x is last

  pub end_of : r ≡ None → YieldsList steps v s all → length xs ≡ length all
  end_of is e = (YieldsList-end e xs t y r u is last).1
