-- The tables of the worked cases are tables of rules.
use Rattle.std.proofs.Common.{◌≡◌, ℕ, zero, suc, ◌<◌, ℤ, sym, refl, ap, ◌∙◌, inl, inr, arith}
use lib.Signed.{le_z_yes}
use Rattle.rules.specs.Rows.{row_at, Child, NumberFits, RowFits, TwinsApart, Sound}
use Rattle.meaning.specs.Cases.{guard, until, at_least}

pub guard_sound : Sound guard
guard_sound = record { some_row = omega arith; few = omega arith; fits = fits; earlier = earlier; used = used; once = λ j k c h i e f. child j c h e ∙ sym (child k c i f); apart = apart; near = omega arith }
  where
    fits : (k : ℕ) → k < 4 → RowFits (row_at guard k)
    fits zero h = (le_z_yes tt, le_z_yes tt)
    fits (suc zero) h = (le_z_yes tt, le_z_yes tt)
    fits (suc (suc zero)) h = tt
    fits (suc (suc (suc zero))) h = omega arith
    fits (suc (suc (suc (suc k)))) h = absurd (omega arith)

    earlier : (k c : ℕ) → k < 4 → Child (row_at guard k) c → c < k
    earlier zero c h e = absurd e
    earlier (suc zero) c h e = absurd e
    earlier (suc (suc zero)) c h e = elim e [ inl a ↦ omega arith | inr b ↦ omega arith ]
    earlier (suc (suc (suc zero))) c h e = omega arith
    earlier (suc (suc (suc (suc k)))) c h e = absurd (omega arith)

    used : (c : ℕ) → suc c < 4 → (k : ℕ) × (k < 4) × Child (row_at guard k) c
    used zero h = (2, omega arith, inl refl)
    used (suc zero) h = (2, omega arith, inr refl)
    used (suc (suc zero)) h = (3, omega arith, refl)
    used (suc (suc (suc c))) h = absurd (omega arith)

    parent : ℕ → ℕ
    parent zero = 2
    parent (suc zero) = 2
    parent (suc (suc c)) = 3

    child : (k c : ℕ) → k < 4 → Child (row_at guard k) c → k ≡ parent c
    child zero c h e = absurd e
    child (suc zero) c h e = absurd e
    child (suc (suc zero)) c h (inl a) = ap parent (sym a)
    child (suc (suc zero)) c h (inr b) = ap parent (sym b)
    child (suc (suc (suc zero))) c h e = ap parent (sym e)
    child (suc (suc (suc (suc k)))) c h e = absurd (omega arith)

    apart : (k : ℕ) → k < 4 → TwinsApart (row_at guard k)
    apart zero h = tt
    apart (suc zero) h = tt
    apart (suc (suc zero)) h = λ e. omega arith
    apart (suc (suc (suc zero))) h = tt
    apart (suc (suc (suc (suc k)))) h = absurd (omega arith)

pub until_sound : Sound until
until_sound = record { some_row = omega arith; few = omega arith; fits = fits; earlier = earlier; used = used; once = λ j k c h i e f. child j c h e ∙ sym (child k c i f); apart = apart; near = omega arith }
  where
    fits : (k : ℕ) → k < 3 → RowFits (row_at until k)
    fits zero h = (le_z_yes tt, le_z_yes tt)
    fits (suc zero) h = (le_z_yes tt, le_z_yes tt)
    fits (suc (suc zero)) h = omega arith
    fits (suc (suc (suc k))) h = absurd (omega arith)

    earlier : (k c : ℕ) → k < 3 → Child (row_at until k) c → c < k
    earlier zero c h e = absurd e
    earlier (suc zero) c h e = absurd e
    earlier (suc (suc zero)) c h e = elim e [ inl a ↦ omega arith | inr b ↦ omega arith ]
    earlier (suc (suc (suc k))) c h e = absurd (omega arith)

    used : (c : ℕ) → suc c < 3 → (k : ℕ) × (k < 3) × Child (row_at until k) c
    used zero h = (2, omega arith, inl refl)
    used (suc zero) h = (2, omega arith, inr refl)
    used (suc (suc c)) h = absurd (omega arith)

    child : (k c : ℕ) → k < 3 → Child (row_at until k) c → k ≡ 2
    child zero c h e = absurd e
    child (suc zero) c h e = absurd e
    child (suc (suc zero)) c h e = refl
    child (suc (suc (suc k))) c h e = absurd (omega arith)

    apart : (k : ℕ) → k < 3 → TwinsApart (row_at until k)
    apart zero h = tt
    apart (suc zero) h = tt
    apart (suc (suc zero)) h = λ e. omega arith
    apart (suc (suc (suc k))) h = absurd (omega arith)

pub at_least_sound : (limit : ℤ) → NumberFits limit → Sound (at_least limit)
at_least_sound limit bound = record { some_row = omega arith; few = omega arith; fits = fits; earlier = earlier; used = λ c h. absurd (omega arith); once = λ j k c h i e f. omega arith; apart = apart; near = omega arith }
  where
    fits : (k : ℕ) → k < 1 → RowFits (row_at (at_least limit) k)
    fits zero h = bound
    fits (suc k) h = absurd (omega arith)

    earlier : (k c : ℕ) → k < 1 → Child (row_at (at_least limit) k) c → c < k
    earlier zero c h e = absurd e
    earlier (suc k) c h e = absurd (omega arith)

    apart : (k : ℕ) → k < 1 → TwinsApart (row_at (at_least limit) k)
    apart zero h = tt
    apart (suc k) h = absurd (omega arith)
