-- What the exit of a `?` answers, where a reader called another that stopped.
use Rattle.std.proofs.Common.{◌≡◌, Result, Ok, Err, MatchResult, sym, subst}
use Rattle.std.specs.Result.{IsErrAnd}
use Rattle.rules.specs.declared.readers.Stop.{Stop}

pub stopped : {T : Type 0} (P : T → Type 0) (Q : Stop → Type 0) (r : Result T Stop) (e : Stop) → IsErrAnd r (λ f. f ≡ e) → Q e → MatchResult r P Q
stopped P Q (Ok t) e h q = absurd h
stopped P Q (Err f) e h q = subst Q (sym h) q
