use Rattle.std.proofs.Common.{ℤ, sym, subst, to_z-of_z, w32, SFits, rules}
use Rattle.case_text.specs.Words.{WritesReading}
use Rattle.case_text.proofs.Fives.{its_lower, its_upper}
use Rattle.case_text.proofs.line.entry_of.Goals as goal

pub returns-in_err-lower : goal.returns-in_err-lower
returns-in_err-lower c = rw c.from_residual-in_err-lower.ensures (λ e x. c.in_err-lower.ensures e.lower (its_lower _ _ _ _ _ _ _ c.in_ok-five.ensures e x))

pub returns-in_err-upper : goal.returns-in_err-upper
returns-in_err-upper c = rw c.from_residual-in_err-upper.ensures (λ e x. c.in_err-upper.ensures e.upper (its_upper _ _ _ _ _ _ _ c.in_ok-five.ensures e x))

pub returns : goal.returns
returns c =
    let five = c.in_ok-five.five in
    let low : SFits w32 c.in_ok-lower.lower = search rules in
    let high : SFits w32 c.in_ok-upper.upper = search rules in
    record {
      which = five.which.now;
      begin = five.begin.now;
      end = five.end.now;
      low = five.low.now;
      high = five.high.now;
      five = c.in_ok-five.ensures;
      line_is = c.in_ok-line.ensures;
      from_is = c.in_ok-from.ensures;
      to_is = c.in_ok-to.ensures;
      lower_is = subst (λ (z : ℤ). WritesReading five.low.now z) (sym (to_z-of_z low)) c.in_ok-lower.ensures;
      upper_is = subst (λ (z : ℤ). WritesReading five.high.now z) (sym (to_z-of_z high)) c.in_ok-upper.ensures;
    }
