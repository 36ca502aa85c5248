use Rattle.meaning.specs.Limits.{grade_of, range_of}
use Rattle.meaning.proofs.Spans.{spans_lawful}
use Rattle.meaning.proofs.Bounds.{values_mean, means_once}
use Rattle.meaning.proofs.laws.rows_mean.Goals as goal

pub returns : goal.returns
returns g c =
    let K = g.G.Grade.kind in
    let L = g.met.G.Grade.lawful in
    record {
      grades = λ rows y k t sound h. values_mean L (grade_of K) sound y k t h;
      ranges = λ rows x sound k t h. values_mean (spans_lawful L) (range_of K) sound x k t h;
      once = λ rows x v w sound h j k t b. means_once (spans_lawful L) (range_of K) x v w sound h j k b t;
    }
