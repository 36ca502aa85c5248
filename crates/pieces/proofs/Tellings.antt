-- What follows from a yes, and what from a no.
use Rattle.std.proofs.Common.{◌≡◌, Bool, true, false, sym}
use borrow.Author.Tests.{clash}
use Rattle.grades.specs.Kinds.{Tells}
use Rattle.pieces.specs.Views.{Agree}

pub told_yes : (b : Bool) (P : Type 0) → Tells b P → b ≡ true → P
told_yes true P h e = h
told_yes false P h e = absurd (clash e)

pub told_no : (b : Bool) (P : Type 0) → Tells b P → b ≡ false → P → ⊥
told_no true P h e = absurd (clash (sym e))
told_no false P h e = h

-- what a test of two values says to another view that agrees
pub same_seen : {V C D : Type 0} (p : V → C) (q : V → D) (a b : V) (r : Bool) → Agree p q → Tells r (p a ≡ p b) → r ≡ true → q a ≡ q b
same_seen p q a b r ag h e = (ag a b).0 (told_yes r (p a ≡ p b) h e)

pub other_seen : {V C D : Type 0} (p : V → C) (q : V → D) (a b : V) (r : Bool) → Agree p q → Tells r (p a ≡ p b) → r ≡ false → q a ≡ q b → ⊥
other_seen p q a b r ag h e k = told_no r (p a ≡ p b) h e ((ag a b).1 k)
