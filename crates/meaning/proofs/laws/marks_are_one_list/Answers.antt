use Rattle.meaning.specs.Marks.{Marked}
use Rattle.meaning.proofs.Lists.{listed_holds}
use Rattle.meaning.proofs.Pinned.{lists_same, lists_order}
use Rattle.meaning.proofs.Decided.{has_marks}
use Rattle.meaning.proofs.laws.marks_are_one_list.Goals as goal

pub returns : goal.returns
returns g c =
    let K = g.G.Grade.kind in
    record {
      some = λ rows x t sound. has_marks g.met.G.Grade.lawful sound x t;
      one = λ rows x t ms ns h k. lists_same {P = Marked K rows x t} ms ns h k;
      ticks = λ rows x t ms k u h. (
        (λ i. let m = listed_holds (Marked K rows x t) ms h.longest k u i in ((m.line, m.tests), m.wanted, m.unsettled)),
        λ m. h.complete k u (record { line = m.0.0; tests = m.0.1; wanted = m.1; unsettled = m.2 }),
      );
      order = λ rows x t before between behind m n h. lists_order {P = Marked K rows x t} before between behind m n h;
    }
