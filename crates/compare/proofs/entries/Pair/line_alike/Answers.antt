use Rattle.std.proofs.Common.{rules, ◌<◌, ℕ, length, refl}
use Rattle.std.proofs.lemmas.Iterator.{cases_from_all, YieldsList-from_range}
use borrow.Author.Tests.{tests}
use Rattle.jobs.specs.Jobs.{state_of}
use Rattle.compare.specs.Agreement.{ReadsAlike}
use Rattle.compare.proofs.Ticks.{each_below}
use Rattle.compare.proofs.entries.Pair.line_alike.Goals as goal

pub returns : goal.returns
returns c = λ yes there t less.
    let s = state_of c.args.self.now.job in
    let P : ℕ → Type 0 = λ t. c.args.line < length s.lines → ReadsAlike s c.args.self.now.forecast c.args.line t in
    each_below P _ 49 c.all.result (cases_from_all c.all.new.self _ c.all.result P (λ t. Unit {0}) c.all.ensures.ran (YieldsList-from_range 0 49 _ refl refl) (λ x q k. search (rules, tests)) (λ x q k. tt)) yes t less there
