use Rattle.std.proofs.Common.{◌≡◌, ◌-◌, List, length, sym, subst, arith, rules}
use borrow.Rule.Slice.PartMut.{mid_of}
use Rattle.rules.specs.declared.row.Row.{Row}
use Rattle.rules.specs.Rows.{Sound}
use Rattle.rules.specs.Texts.{table_of}
use Rattle.rules.proofs.Sounding.{rule_sound}
use Rattle.rules.proofs.rule.Rule.rows.Goals as goal

pub returns : goal.returns
returns c =
    let r = c.args.self.now in
    let full : length r.rows ≡ 64 = omega arith in
    let e : mid_of 0 (r.count - 0) r.rows ≡ table_of r = search rules in
    record { is = e; sound = subst (λ (v : List Row). Sound v) (sym e) (rule_sound r full) }
