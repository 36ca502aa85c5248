-- Two views of values that tell the same values apart.
use Rattle.std.specs.Prelude.{◌≡◌}

-- what is one to p is one to q, and the other way round
abbrev pub Agree : {V C D : Type 0} → (V → C) → (V → D) → Type 0
Agree {V} p q = (a b : V) → (p a ≡ p b → q a ≡ q b) × (q a ≡ q b → p a ≡ p b)
