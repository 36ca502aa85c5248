use Rattle.std.proofs.Common.{◌≡◌, subst, sym, ◌∙◌, arith}
use Rattle.std.proofs.lemmas.Grind.{common_steps}
use Rattle.reference.specs.Known.{NextDifferent}
use Rattle.compare.proofs.Found.{same_ends}
use Rattle.compare.proofs.entries.Pair.reads_alike.Goals as goal

pub returns-then-eq : goal.returns-then-eq
returns-then-eq c = λ yes there.
    let next : c.change.result ≡ c.in-Some.next = grind (arith, common_steps) in
    record {
      read = c.in-Some.reading;
      next = c.in-Some.next;
      job = c.in-Some.ensures;
      reference = subst (NextDifferent c.args.self.now.forecast c.args.line c.args.t) next c.change.ensures;
      same = sym c.reading-2.ensures ∙ same_ends c.reading-2.result c.ends_read.result c.eq.result c.eq.ensures c.if-eq.true ∙ c.ends_read.ensures;
    }
