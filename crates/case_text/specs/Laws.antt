-- What holds of every case and of every text: the one is read back in one way only, and the other has one answer.
use Rattle.std.specs.Prelude.{◌≡◌, ℕ, List}
use Rattle.cases.specs.Contents.{Item}
use Rattle.case_text.specs.Pieces.{lines_of}
use Rattle.case_text.specs.Sayings.{LinesSay, at_first}
use Rattle.case_text.specs.Packs.{ReadsBack, StopsAtLine}

abbrev pub OneReadingBack : Type 0
OneReadingBack = (bytes : List ℕ) (a b : List Item) → ReadsBack bytes a → ReadsBack bytes b → a ≡ b

-- the lines of a text say one list of items, or the text stops at one bad line, and never both
abbrev pub OneSaying : Type 0
OneSaying = (text : List ℕ) (a b : List Item) → LinesSay at_first (lines_of text) a → LinesSay at_first (lines_of text) b → a ≡ b

abbrev pub OneStop : Type 0
OneStop = (text : List ℕ) (m n : ℕ) → StopsAtLine text m → StopsAtLine text n → m ≡ n

abbrev pub NeverSaidAndStopped : Type 0
NeverSaidAndStopped = (text : List ℕ) (items : List Item) (n : ℕ) → LinesSay at_first (lines_of text) items → StopsAtLine text n → ⊥
