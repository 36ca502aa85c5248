-- A forecast of which nothing is known.
use Rattle.std.proofs.Common.{◌≡◌, ℕ, zero, suc, min, replicate, refl, arith}
use Rattle.std.specs.List.{slice_get}
use Rattle.std.proofs.lemmas.List.{get_or-replicate}
use Rattle.reference.specs.Known.{widest_ends, kept}

pub unknown : (line t : ℕ) → kept (slice_get (replicate 3 (replicate 49 widest_ends)) line) (min t 48) ≡ widest_ends
unknown zero t = get_or-replicate 49 (min t 48) widest_ends _ (omega arith)
unknown (suc zero) t = get_or-replicate 49 (min t 48) widest_ends _ (omega arith)
unknown (suc (suc zero)) t = get_or-replicate 49 (min t 48) widest_ends _ (omega arith)
unknown (suc (suc (suc line))) t = refl
