use Rattle.runs.specs.States.{opened}
use Rattle.runs.proofs.Turns.{opened_reads}
use Rattle.runs.proofs.Keeping.{keeps_lists, counts_entries, seals_once}
use Rattle.runs.proofs.Holding.{own_verdict, own_alone, nest, hold, suffice, settle_own, settle}
use Rattle.runs.proofs.Unique.{run_one, each}
use Rattle.runs.proofs.Exists.{run_exists}
use Rattle.runs.proofs.law.runs_keep_the_law.Goals as goal

pub returns : goal.returns
returns g c =
    let kinds = g.F.Family.kinds in
    let lawful = g.met.F.Kinds.lawful in
    record {
      some = run_exists kinds lawful;
      one = run_one kinds;
      each = each kinds;
      reads = λ lines es z h. opened_reads kinds lines z es h;
      lists = keeps_lists kinds;
      counts = counts_entries kinds;
      seals = seals_once kinds;
      nest = λ lines z. nest kinds lawful (opened lines) z;
      hold = hold kinds lawful;
      own = own_verdict kinds;
      own_alone = λ lines z. own_alone kinds (opened lines) z;
      suffice = λ lines z. suffice kinds lawful (opened lines) z;
      settle_own = settle_own kinds lawful;
      settle = settle kinds lawful;
    }
