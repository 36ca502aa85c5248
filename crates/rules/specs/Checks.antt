-- What a derivation must keep besides the grammar, and the first place at which it does not.
use Rattle.std.specs.Prelude.{ℕ, ◌+◌, Bool, cond, ◌||◌, length, Some, None, Option, nat_lt}
use Rattle.std.specs.Option.{option_or}
use Rattle.rules.specs.Grammar.{PhraseSort, window, limit, expr, Phrase, span, plain, minus, test, opposite, modal, brackets, until, one_part, both, one_meet, either, phrase_tokens}

-- the first place, from the left, that a window or a test reports, where the phrase begins at place k
abbrev pub first_in : (ℕ → Phrase window → Option ℕ) → (ℕ → Option ℕ → Phrase limit → Option ℕ) → {l : PhraseSort} → ℕ → Phrase l → Option ℕ
first_in w t k (span a b) = w k (span a b)
first_in w t k (plain n) = None
first_in w t k (minus n) = None
first_in w t k (test o s v) = t k o v
first_in w t k (opposite p) = first_in w t (k + 1) p
first_in w t k (modal m u p) = option_or (w (k + 1) u) (first_in w t ((k + 1) + length (phrase_tokens u)) p)
first_in w t k (brackets e) = first_in w t (k + 1) e
first_in w t k (until e u f) = option_or (first_in w t (k + 1) e) (option_or (w (((k + 1) + length (phrase_tokens e)) + 1) u) (first_in w t ((((k + 1) + length (phrase_tokens e)) + 1) + length (phrase_tokens u)) f))
first_in w t k (one_part p) = first_in w t k p
first_in w t k (both m p) = option_or (first_in w t k m) (first_in w t ((k + length (phrase_tokens m)) + 1) p)
first_in w t k (one_meet m) = first_in w t k m
first_in w t k (either e m) = option_or (first_in w t k e) (first_in w t ((k + length (phrase_tokens e)) + 1) m)

-- names: a test whose name is not a line's, at the name
abbrev pub any_window : ℕ → Phrase window → Option ℕ
any_window k u = None

abbrev pub unknown_test : ℕ → Option ℕ → Phrase limit → Option ℕ
unknown_test k None v = Some k
unknown_test k (Some line) v = None

abbrev pub unknown_place : Phrase expr → Option ℕ
unknown_place p = first_in any_window unknown_test 0 p

-- numbers: a window that runs backward or too far, and a limit too far from 0, at its first number
abbrev pub bad_window : ℕ → ℕ → Bool
bad_window a b = nat_lt b a || nat_lt 500000000 b

abbrev pub bad_limit : ℕ → Bool
bad_limit n = nat_lt 500000 n

abbrev pub wrong_window : ℕ → Phrase window → Option ℕ
wrong_window k (span a b) = cond (bad_window a b) (Some (k + 1)) None

abbrev pub wrong_limit : ℕ → Phrase limit → Option ℕ
wrong_limit k (plain n) = cond (bad_limit n) (Some k) None
wrong_limit k (minus n) = cond (bad_limit n) (Some (k + 1)) None

abbrev pub wrong_test : ℕ → Option ℕ → Phrase limit → Option ℕ
wrong_test k o v = wrong_limit (k + 2) v

abbrev pub wrong : Phrase expr → Option ℕ
wrong p = first_in wrong_window wrong_test 0 p
