use Rattle.std.proofs.Common.{refl}
use Rattle.meaning.proofs.Wanting.{root_wanted, child_wanted}
use Rattle.meaning.proofs.Untils.{has_first, has_last, right_wants, left_wants, left_none}
use Rattle.meaning.proofs.laws.wanting_by_parent.Goals as goal

pub returns : goal.returns
returns g c =
    let K = g.G.Grade.kind in
    let L = g.met.G.Grade.lawful in
    record {
      root = λ rows v asked u sound. root_wanted K sound v asked u;
      child = λ rows v asked k c u sound below child. child_wanted K sound v asked k c u below child;
      turned = λ v c t u. ((λ h. h.1), λ e. (refl, e));
      pair = λ v l r c t u child. (((λ h. h.1), λ e. (child, e)), ((λ h. h.1), λ e. (child, e)));
      window = λ v a b c t u. (((λ h. (h.1, h.2)), λ h. (refl, h.0, h.1)), ((λ h. (h.1, h.2)), λ h. (refl, h.0, h.1)));
      first = has_first L;
      right = λ v a b l r t s u apart f. right_wants K v a b l r t s apart f u;
      last = has_last L;
      left = λ v a b l r t s w u apart f g. left_wants K v a b l r t s apart f w g u;
      nowhere = λ v a b l r t s u apart f g. left_none K v a b l r t s apart f g u;
    }
