-- What fields say.
use Rattle.std.proofs.Common.{◌≡◌, ℕ, List, ◌++◌, ℤ, sym}
use Rattle.meaning.specs.declared.outcome.Outcome.{Outcome}
use Rattle.case_lines.specs.Lines.{verdict_line}

-- a verdict's line, with each part told another way
pub told_line : (t n : ℕ) {o p : Outcome} {a b c d : ℤ} (more : List ℕ) → p ≡ o → b ≡ a → d ≡ c → verdict_line t o a c n ++ more ≡ verdict_line t p b d n ++ more
told_line t n more e f g = sym (λ i. verdict_line t (e i) (f i) (g i) n ++ more)
