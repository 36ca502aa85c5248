-- The pieces of a text: its lines, what a line says without its end, and the words of that.
use Rattle.std.specs.Prelude.{ℕ, ◌+◌, ◌-◌, Bool, true, false, cond, not, ◌&&◌, ◌||◌, List, [], ◌∷◌, length, get_or, take, drop, ◌==◌, filter, take_while}
use Rattle.std.specs.List.{slice_split, prefix_len, suffix_len}

-- each byte 10 ends a line and begins another
abbrev pub lines_of : List ℕ → List (List ℕ)
lines_of text = slice_split (λ b. b == 10) text

-- spaces and tabs part words, and words are of other bytes
abbrev pub gap_byte : ℕ → Bool
gap_byte b = (b == 32) || (b == 9)

abbrev pub word_byte : ℕ → Bool
word_byte b = not (gap_byte b)

-- a byte 13 that ends a line is no part of it
abbrev pub without_return : List ℕ → List ℕ
without_return line = cond (get_or line (length line - 1) 0 == 13) (take (length line - 1) line) line

-- how many bytes stand before the first `#` that begins the line or stands behind a gap byte; `bare` tells whether the bytes do so
abbrev pub comment_at : Bool → List ℕ → ℕ
comment_at bare [] = 0
comment_at bare (b ∷ bs) = cond (bare && (b == 35)) 0 (comment_at (gap_byte b) bs + 1)

abbrev pub without_comment : List ℕ → List ℕ
without_comment line = take (comment_at true line) line

abbrev pub without_tail : List ℕ → List ℕ
without_tail line = take (length line - suffix_len gap_byte line) line

-- a line without its return, its comment, and the gap at its end
abbrev pub spoken : List ℕ → List ℕ
spoken line = without_tail (without_comment (without_return line))

-- words are what stands between gap bytes, where something does
abbrev pub some_bytes : List ℕ → Bool
some_bytes [] = false
some_bytes (b ∷ bs) = true

abbrev pub words_of : List ℕ → List (List ℕ)
words_of bytes = filter some_bytes (slice_split gap_byte bytes)

-- the bytes from their first word on, that word, and what stands behind it
abbrev pub from_word : List ℕ → List ℕ
from_word bytes = drop (prefix_len gap_byte bytes) bytes

abbrev pub first_word : List ℕ → List ℕ
first_word bytes = take_while word_byte (from_word bytes)

abbrev pub behind_word : List ℕ → List ℕ
behind_word bytes = drop (prefix_len word_byte (from_word bytes)) (from_word bytes)
