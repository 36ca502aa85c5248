-- What is said of runs of bytes, whatever they spell.
use Rattle.std.specs.Prelude.{ℕ, List, ◌≢◌}
use Rattle.std.specs.List.{AllByRecursion}

-- the byte c stands nowhere in it
abbrev pub Without : ℕ → List ℕ → Type 0
Without c bs = AllByRecursion (λ b. b ≢ c) bs
