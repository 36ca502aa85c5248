use Rattle.std.proofs.Common.{rules, ◌<◌, ◌≡◌, ℕ, true, length, refl, ◌∙◌, sym, arith}
use Rattle.std.proofs.lemmas.Grind.{common_steps}
use Rattle.std.proofs.lemmas.Iterator.{cases_from_all, YieldsList-from_range}
use borrow.Author.Tests.{tests}
use Rattle.runs.specs.Jobs.{JobAnswer, count}
use Rattle.jobs.specs.Jobs.{state_of}
use Rattle.compare.specs.Agreement.{ReadsAlike, KnownAlike}
use Rattle.compare.proofs.Ticks.{each_below}
use Rattle.compare.proofs.entries.Pair.alike.Goals.{then-all, else-all}
use Rattle.compare.proofs.entries.Pair.alike.Goals as goal

same_count : (m n : ℕ) → ◌≡◌ {A = JobAnswer} (count m) (count n) → m ≡ n
same_count m n e = cc

pub returns-then-tally-self : goal.returns-then-tally-self
returns-then-tally-self c = λ yes.
    let s = state_of c.args.self.now.job in
    let f = c.args.self.now.forecast in
    let P : ℕ → Type 0 = λ line. line < length s.lines → KnownAlike s f line × ((t : ℕ) → t < 49 → ReadsAlike s f line t) in
    let counted : (c.all.result ≡ true) × (s.tally ≡ f.tally) =
    elim c.if-all.branch [
      | then-all w ↦ (w.if-all.true, sym (same_count w.tally.result s.tally w.tally.ensures.1.0) ∙ grind (arith, common_steps, w.value-is, c.if-tally-self.true))
      | else-all w ↦ absurd (grind (arith, common_steps, w.value-is, c.if-tally-self.true))
    ] in
    let each : (line : ℕ) → line < 3 → P line = each_below P _ 3 c.all.result (cases_from_all c.all.new.self _ c.all.result P (λ t. Unit {0}) c.all.ensures.ran (YieldsList-from_range 0 3 _ refl refl) (λ x q k. search (rules, tests)) (λ x q k. tt)) counted.0 in
    record {
      tally = counted.1;
      lines = sym c.lines.ensures ∙ grind (arith, common_steps, yes);
      reads = λ line t low there less. (each line low there).1 t less;
      known = λ line low there. (each line low there).0;
    }
