-- Facts of all ticks, by the first ten one by one and those behind them.
use Rattle.std.proofs.Common.{ℕ, zero, suc, ◌≤◌, arith}

pub each_tick : (P : ℕ → Type 0) → P 0 → P 1 → P 2 → P 3 → P 4 → P 5 → P 6 → P 7 → P 8 → P 9 → ((t : ℕ) → 10 ≤ t → P t) → (t : ℕ) → P t
each_tick P a b c d e f g h i j more zero = a
each_tick P a b c d e f g h i j more (suc zero) = b
each_tick P a b c d e f g h i j more (suc (suc zero)) = c
each_tick P a b c d e f g h i j more (suc (suc (suc zero))) = d
each_tick P a b c d e f g h i j more (suc (suc (suc (suc zero)))) = e
each_tick P a b c d e f g h i j more (suc (suc (suc (suc (suc zero))))) = f
each_tick P a b c d e f g h i j more (suc (suc (suc (suc (suc (suc zero)))))) = g
each_tick P a b c d e f g h i j more (suc (suc (suc (suc (suc (suc (suc zero))))))) = h
each_tick P a b c d e f g h i j more (suc (suc (suc (suc (suc (suc (suc (suc zero)))))))) = i
each_tick P a b c d e f g h i j more (suc (suc (suc (suc (suc (suc (suc (suc (suc zero))))))))) = j
each_tick P a b c d e f g h i j more (suc (suc (suc (suc (suc (suc (suc (suc (suc (suc n)))))))))) = more (suc (suc (suc (suc (suc (suc (suc (suc (suc (suc n)))))))))) (omega arith)
