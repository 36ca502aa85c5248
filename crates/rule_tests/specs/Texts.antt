-- The text of a case, written out.
use Rattle.std.specs.Prelude.{ℕ, List, [], ◌++◌}
use Rattle.std.specs.List.{repeat}
use Rattle.rule_tests.specs.declared.texts.Text.{Text}
use Rattle.rule_tests.specs.declared.texts.Text.TheVariants.{Plain, Led, Trailed, Nested}

-- the front n times, the middle, and the back m times
abbrev pub text_repeated : ℕ → List ℕ → List ℕ → ℕ → List ℕ → List ℕ
text_repeated n front middle m back = (repeat n front ++ middle) ++ repeat m back

abbrev pub text_of : Text → List ℕ
text_of (Plain text) = text_repeated 0 [] text.now 0 []
text_of (Led n piece last) = text_repeated n piece.now last.now 0 []
text_of (Trailed first n piece) = text_repeated 0 [] first.now n piece.now
text_of (Nested n front inner back) = text_repeated n front.now inner.now n back.now
