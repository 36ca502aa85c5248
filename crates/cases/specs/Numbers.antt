-- How numbers are written in bytes: the high byte first, and below zero in two's complement.
use Rattle.std.specs.Prelude.{ℕ, ◌+◌, ◌-◌, ◌*◌, ◌^◌, cond, List, [], ◌∷◌, length, take, drop, ℤ, pos, negsuc, nat_lt}

-- the number that bytes write
abbrev pub big_endian : List ℕ → ℕ
big_endian [] = 0
big_endian (b ∷ bs) = b * 256 ^ length bs + big_endian bs

-- what 32 bits mean in two's complement: from 2^31 on, the number less 2^32
abbrev pub complement : ℕ → ℤ
complement n = cond (nat_lt n 2147483648) (pos n) (negsuc (4294967295 - n))

-- the four bytes from a place on
abbrev pub four_byte_number : ℕ → List ℕ → ℕ
four_byte_number at bytes = big_endian (take 4 (drop at bytes))

abbrev pub signed_at : ℕ → List ℕ → ℤ
signed_at at bytes = complement (four_byte_number at bytes)
