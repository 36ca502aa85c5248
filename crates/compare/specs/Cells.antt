-- What cells hold, as it is compared.
use Rattle.std.specs.Prelude.{◌≡◌, ℕ, ◌<◌, Bool, ◌&&◌, nat_eq, nat_le, List, length, take, drop, slice_index_or}
use Rattle.std.specs.List.{list_all, zip}

-- so many cells, of which each holds what stands where nothing was written
pub record Blanks {C H : Type 0} (held : C → H) (blank : H) (n : ℕ) (cells : List C) : Type 0 where
  pub many : length cells ≡ n
  pub each : (k : ℕ) (c : C) → k < n → held (slice_index_or cells k c) ≡ blank

-- what a cell holds, and how two that are held are compared
module _ {C H : Type 0} (held : C → H) (same : H → H → Bool) where
  -- no cell behind the first n was written
  abbrev pub unwritten_behind : H → ℕ → List C → Bool
  unwritten_behind blank n cells = list_all (λ c. same (held c) blank) (drop n cells)

  -- both have n cells, and these hold the same
  abbrev pub alike : ℕ → List C → List C → Bool
  alike n one other = nat_le n (length one) && (nat_le n (length other) && list_all (λ p. same (held p.0) (held p.1)) (zip (take n one) (take n other)))

  -- the cells hold the list and no more
  abbrev pub hold_list : List C → List H → Bool
  hold_list cells list = nat_eq (length cells) (length list) && list_all (λ p. same (held p.0) p.1) (zip cells list)
