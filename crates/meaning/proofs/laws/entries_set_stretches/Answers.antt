use Rattle.meaning.proofs.Readings.{entered_here, entered_elsewhere}
use Rattle.meaning.proofs.laws.entries_set_stretches.Goals as goal

pub returns : goal.returns
returns c = record {
  here = λ x line from to t p a b. entered_here x line from to p t a b;
  elsewhere = λ x line from to k t p h. entered_elsewhere x line from to p k t h;
}
