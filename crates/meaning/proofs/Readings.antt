-- Readings are the same where their ends are; what an entry sets.
use Rattle.std.proofs.Common.{◌≡◌, ℕ, ◌<◌, ◌≤◌, Bool, true, false, ◌&&◌, ◌⊎◌, ℤ, ◌≤ℤ◌, int_eq, Decides, refl, ap, inl, inr, arith}
use borrow.Author.Tests.{clash}
use mathlib.Core.Path.{PathP}
use mathlib.Core.HLevel.{is_prop→PathP}
use Rattle.std.proofs.lemmas.Bool.Decides.{nat_tests, Decides-and, Decides-int_eq}
use denote.Struct.Props.{props}
use Rattle.grades.specs.Kinds.{Tells}
use Rattle.rules.specs.Rows.{NumberFits}
use Rattle.meaning.specs.declared.reading.Reading.{Reading}
use Rattle.meaning.specs.Readings.{Readings, entered}

fits_path : {m n : ℤ} (e : m ≡ n) (h : NumberFits m) (k : NumberFits n) → PathP (λ i. NumberFits (e i)) h k
fits_path e h k = is_prop→PathP (λ i. NumberFits (e i)) (λ i. hlevel props) h k

pub reading_same : (p q : Reading) → p.lower ≡ q.lower → p.upper ≡ q.upper → p ≡ q
reading_same p q e f = λ i. record {
  lower = e i;
  upper = f i;
  bottom = fits_path e p.bottom q.bottom i;
  top = fits_path f p.top q.top i;
  ordered = is_prop→PathP (λ j. e j ≤ℤ f j) (λ j. hlevel props) p.ordered q.ordered i;
}

pub tells_as : {P Q : Type 0} (b : Bool) → (P → Q) → (Q → P) → Tells b P → Tells b Q
tells_as true f g h = f h
tells_as false f g h = λ q. h (g q)

tells_decided : {P : Type 0} (b : Bool) → Decides b P → Tells b P
tells_decided true h = h.0 refl
tells_decided false h = λ p. clash (h.1 p)

-- readings are the same exactly where their ends are
pub ends_tell : (p q : Reading) → Tells (int_eq p.lower q.lower && int_eq p.upper q.upper) (p ≡ q)
ends_tell p q =
    let b : Bool = int_eq p.lower q.lower && int_eq p.upper q.upper in
    tells_as b (λ h. reading_same p q h.0 h.1) (λ e. (ap (λ (r : Reading). r.lower) e, ap (λ (r : Reading). r.upper) e))
    (tells_decided b (Decides-and (int_eq p.lower q.lower) (int_eq p.upper q.upper) (Decides-int_eq p.lower q.lower) (Decides-int_eq p.upper q.upper)))

module _ (x : Readings) (line from to : ℕ) (p : Reading) where
  pub entered_here : (t : ℕ) → from ≤ t → t < to → entered x line from to p line t ≡ p
  entered_here t a b = grind (arith, nat_tests)

  pub entered_elsewhere : (k t : ℕ) → ¬ (k ≡ line) ⊎ ((t < from) ⊎ (to ≤ t)) → entered x line from to p k t ≡ x k t
  entered_elsewhere k t (inl n) = grind (arith, nat_tests)
  entered_elsewhere k t (inr (inl n)) = grind (arith, nat_tests)
  entered_elsewhere k t (inr (inr n)) = grind (arith, nat_tests)
