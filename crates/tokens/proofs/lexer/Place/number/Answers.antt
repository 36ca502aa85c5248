use Rattle.std.proofs.Common.{rules, refl, arith}
use Rattle.std.specs.Char.{is_ascii_digit}
use Rattle.std.proofs.lemmas.Bool.{both_ways}
use Rattle.tokens.proofs.Decimals.{decimal_below}
use Rattle.tokens.proofs.Places.{run_few, number_fault, number_word}
use Rattle.tokens.proofs.Runs.{digit_decides, run_of}
use Rattle.tokens.proofs.lexer.Place.number.Goals as goal

pub returns-in-Some : goal.returns-in-Some
returns-in-Some c names =
    let run = run_of is_ascii_digit _ digit_decides (c.run_end-end.ensures.run is_ascii_digit (λ b r k. search rules)) in
    let well = c.if-well_formed.ensures.0 refl in
    number_word names _ _ _ run c.requires well.0 well.1 _ c.in-Some.ensures.1

pub overflow_cast-result : goal.overflow_cast-result
overflow_cast-result c =
    let written = c.in-Some.ensures in
    let well = c.if-well_formed.ensures.0 refl in
    omega (arith, written.1, decimal_below _ 9 written.0.0 (run_few _ _ _ _ well.0))

pub returns-in_default : goal.returns-in_default
returns-in_default c names =
    let run = run_of is_ascii_digit _ digit_decides (c.run_end-end.ensures.run is_ascii_digit (λ b r k. search rules)) in
    number_fault names _ _ _ run c.requires c.args.self.now.within (λ well. both_ways _ refl (c.if-well_formed.ensures.1 well))

pub returns-in_default-2 : goal.returns-in_default-2
returns-in_default-2 c names =
    let run = run_of is_ascii_digit _ digit_decides (c.run_end-end.ensures.run is_ascii_digit (λ b r k. search rules)) in
    number_fault names _ _ _ run c.requires c.args.self.now.within (λ well. c.in_default.ensures (run.all, omega (arith, run_few c.args.self.now.text.now _ _ _ well.0)))
