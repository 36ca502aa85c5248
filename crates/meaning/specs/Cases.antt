-- Rules, readings and what the worked cases say of them.
use Rattle.std.specs.Prelude.{◌≡◌, ℕ, suc, cond, T, List, [], ◌∷◌, ℤ, pos, negsuc, ◌==◌, int_le}
use Rattle.std.specs.Int.Signed.{le_z_yes}
use Rattle.grades.specs.Truths.{truths}
use Rattle.grades.specs.Margins.{margins}
use Rattle.rules.specs.declared.row.Side.TheVariants.{AtLeast, AtMost}
use Rattle.rules.specs.declared.row.Row.{Row}
use Rattle.rules.specs.declared.row.Row.TheVariants.{Test, Or, Always, Until}
use Rattle.meaning.specs.declared.reading.Reading.{Reading}
use Rattle.meaning.specs.declared.outcome.Outcome.{Outcome}
use Rattle.meaning.specs.declared.mark.Mark.{Mark}
use Rattle.meaning.specs.Readings.{Readings, widest, entered}
use Rattle.meaning.specs.Verdicts.{verdict}
use Rattle.meaning.specs.Outcomes.{outcome_at}

-- the verdict in truth comes to this
abbrev pub ComesTo : List Row → Readings → ℕ → Outcome → Type 0
ComesTo rows x t o = outcome_at (verdict truths rows x t) ≡ o

-- the verdict in margin has these ends
abbrev pub MarginFrom : List Row → Readings → ℕ → ℤ → ℤ → Type 0
MarginFrom rows x t low high = ((verdict margins rows x t).low.number ≡ low) × ((verdict margins rows x t).high.number ≡ high)

abbrev pub stretch : ℕ → ℕ → ℕ → Mark
stretch row first after = record { row = row; first = first; after = after }

-- a reading by its ends; each test comes out true
abbrev pub reading_with : (lower upper : ℤ) → T (int_le (negsuc 499999) lower) → T (int_le lower (pos 500000)) → T (int_le (negsuc 499999) upper) → T (int_le upper (pos 500000)) → T (int_le lower upper) → Reading
reading_with lower upper a b c d e = record { lower = lower; upper = upper; bottom = (le_z_yes a, le_z_yes b); top = (le_z_yes c, le_z_yes d); ordered = le_z_yes e }

-- nothing is entered
abbrev pub nothing_entered : Readings
nothing_entered line t = widest

-- G[0,3](flow<=0|hot>=1800), where hot is line 0 and flow is line 1
abbrev pub guard : List Row
guard = Test 1 AtMost (pos 0) ∷ Test 0 AtLeast (pos 1800) ∷ Or 0 1 ∷ Always 0 3 2 ∷ []

-- hot reads 1750..1900 on the ticks 0 to 9, flow 0..0 on 0 and 1, and 0..40 on 2 to 9
abbrev pub forecast : Readings
forecast =
    let hot = entered nothing_entered 0 0 10 (reading_with (pos 1750) (pos 1900) tt tt tt tt tt) in
    let dry = entered hot 1 0 2 (reading_with (pos 0) (pos 0) tt tt tt tt tt) in
    entered dry 1 2 10 (reading_with (pos 0) (pos 40) tt tt tt tt tt)

-- and then hot reads 1800..1850 on 2 and 3
abbrev pub refined : Readings
refined = entered forecast 0 2 4 (reading_with (pos 1800) (pos 1850) tt tt tt tt tt)

-- (p U[0,3] q), where p tells that line 0 reads 1 or more, and q that line 1 does
abbrev pub until : List Row
until = Test 0 AtLeast (pos 1) ∷ Test 1 AtLeast (pos 1) ∷ Until 0 3 0 1 ∷ []

abbrev pub true_reading : Reading
true_reading = reading_with (pos 1) (pos 1) tt tt tt tt tt

abbrev pub false_reading : Reading
false_reading = reading_with (pos 0) (pos 0) tt tt tt tt tt

-- p is true at 0 and 1, false at 2, and left open by r from 3 on; q is true at the tick k alone
abbrev pub p_then_q : Reading → ℕ → Readings
p_then_q r k =
    let base : Readings = λ line t. cond (line == 1) false_reading r in
    let p = entered (entered base 0 0 2 true_reading) 0 2 3 false_reading in
    entered p 1 k (suc k) true_reading

-- a>=limit, where a is line 0
abbrev pub at_least : ℤ → List Row
at_least limit = Test 0 AtLeast limit ∷ []
