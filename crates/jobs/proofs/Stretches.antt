-- The list of what a line reads, with a reading set on a stretch, from the list of what it read before.
use Rattle.std.proofs.Common.{◌≡◌, ℕ, zero, suc, ◌+◌, ◌-◌, ◌<◌, ◌≤◌, List, [], ◌∷◌, ◌++◌, length, get_or, take, drop, Some, None, Option, sym, refl, ap, ◌∙◌, subst, inl, inr, ⊎_elim, arith}
use Rattle.std.proofs.lemmas.Bool.{cases_lt}
use Rattle.pieces.specs.declared.piece.Piece.{Piece}
use Rattle.pieces.specs.Ticks.{Before, Steady}
use Rattle.pieces.specs.Pieces.{last_from, count_before, Canonical, Lists}
use Rattle.pieces.proofs.Steadies.{later_trans}
use Rattle.pieces.proofs.Holders.{count_yes, count_no, count_within, last_value}
use Rattle.pieces.proofs.Chains.{Chain, chain_rising, chain_behind, chain_at, to_chain, listed_chain, chain_listed}
use Rattle.meaning.specs.declared.reading.Reading.{Reading}
use Rattle.meaning.proofs.Readings.{entered_here, entered_elsewhere}
use Rattle.runs.specs.States.{reading_at}
use Rattle.jobs.specs.Edits.{Joins, FollowsPieces, optional, set_on}
use Rattle.jobs.proofs.Looks.{own_list}

abbrev piece : ℕ → Reading → Piece Reading
piece t v = record { start = t; value = v }

module _ (f : ℕ → Reading) where
  -- two chains, one behind the other
  join_apart : (p : Piece Reading) (ps : List (Piece Reading)) (q : Piece Reading) (qs : List (Piece Reading)) (o : Option ℕ) → Chain f p ps (Some q.start) → (last_from p.value ps ≡ q.value → ⊥) → Chain f q qs o → Chain f p (ps ++ q ∷ qs) o
  join_apart p [] q qs o c n d = (c, n, d)
  join_apart p (r ∷ rs) q qs o c n d = (c.0, c.1, join_apart r rs q qs o c.2 n d)

  steady_same : (s t : ℕ) (v w : Reading) (o : Option ℕ) → Steady f s v (Some t) → v ≡ w → Steady f t w o → Steady f s v o
  steady_same s t v w o c e d =
      (later_trans s t o (omega (arith, c.0)) d.0, λ u a b. ⊎_elim (λ h. c.1 u a h) (λ h. e ∙ d.1 u h b) (cases_lt u t))

  extend : (p q : Piece Reading) (qs : List (Piece Reading)) (o : Option ℕ) → Steady f p.start p.value (Some q.start) → p.value ≡ q.value → Chain f q qs o → Chain f p qs o
  extend p q [] o c e d = steady_same p.start q.start p.value q.value o c e d
  extend p q (r ∷ rs) o c e d = (steady_same p.start q.start p.value q.value (Some r.start) c e d.0, λ k. d.1 (sym e ∙ k), d.2)

  join_same : (p : Piece Reading) (ps : List (Piece Reading)) (q : Piece Reading) (qs : List (Piece Reading)) (o : Option ℕ) → Chain f p ps (Some q.start) → last_from p.value ps ≡ q.value → Chain f q qs o → Chain f p (ps ++ qs) o
  join_same p [] q qs o c e d = extend p q qs o c e d
  join_same p (r ∷ rs) q qs o c e d = (c.0, c.1, join_same r rs q qs o c.2 e d)

  join : (p : Piece Reading) (ps : List (Piece Reading)) (t : ℕ) (v : Reading) (x : Option (Piece Reading)) (qs : List (Piece Reading)) (o : Option ℕ) → Joins t v (last_from p.value ps) x → Chain f p ps (Some t) → Chain f (piece t v) qs o → Chain f p (ps ++ (optional x ++ qs)) o
  join p ps t v None qs o j c d = join_same p ps (piece t v) qs o c j d
  join p ps t v (Some x) qs o j c d =
      subst (λ (z : Piece Reading). Chain f p (ps ++ (z ∷ qs)) o) (sym j.0) (join_apart p ps (piece t v) qs o c j.1 d)

  -- the pieces up to t, and those from t on
  front : (t : ℕ) (p : Piece Reading) (ps : List (Piece Reading)) → Chain f p ps None → p.start < t → Chain f p (take (count_before t ps) ps) (Some t)
  front t p [] c h = (h, λ u a b. c.1 u a tt)
  front t p (q ∷ qs) c h = ⊎_elim
      (λ k. subst (λ n. Chain f p (take n (q ∷ qs)) (Some t)) (sym (count_yes t q qs k)) (c.0, c.1, front t q qs c.2 k))
      (λ k. subst (λ n. Chain f p (take n (q ∷ qs)) (Some t)) (sym (count_no t q qs k)) (h, λ u a b. c.0.1 u a (omega arith)))
      (cases_lt q.start t)

  abbrev Back : ℕ → Piece Reading → List (Piece Reading) → ℕ → Type 0
  Back t p ps n = Chain f (piece t (last_from p.value (take n ps))) (drop n ps) None

  back : (t : ℕ) (p : Piece Reading) (ps : List (Piece Reading)) → Chain f p ps None → p.start ≤ t → Back t p ps (count_before (t + 1) ps)
  back t p [] c h = (tt, λ u a b. c.1 u (omega arith) tt)
  back t p (q ∷ qs) c h = ⊎_elim
      (λ k. subst (Back t p (q ∷ qs)) (sym (count_yes (t + 1) q qs k)) (back t q qs c.2 (omega arith)))
      (λ k. subst (Back t p (q ∷ qs)) (sym (count_no (t + 1) q qs k)) ((omega arith, λ u a b. c.0.1 u (omega arith) b), c.1, c.2))
      (cases_lt q.start (t + 1))

chain_as : (f g : ℕ → Reading) (p : Piece Reading) (ps : List (Piece Reading)) (o : Option ℕ) → ((u : ℕ) → p.start ≤ u → Before o u → f u ≡ g u) → Chain f p ps o → Chain g p ps o
chain_as f g p ps o e c = to_chain g p ps o (chain_rising f p ps o c) (chain_behind f p ps o c) (λ t a b. chain_at f p ps o c t a b ∙ e t a b)

-- g is f with v set from one tick to the tick before another
record Sets (f g : ℕ → Reading) (from to : ℕ) (v : Reading) : Type 0 where
  pub before : (u : ℕ) → u < from → g u ≡ f u
  pub inside : (u : ℕ) → from ≤ u → u < to → g u ≡ v
  pub after : (u : ℕ) → to ≤ u → g u ≡ f u

module _ (f g : ℕ → Reading) (from to : ℕ) (v : Reading) (order : from < to) (sets : Sets f g from to v) where
  -- from the stretch on
  tail_chain : (p : Piece Reading) (ps : List (Piece Reading)) (x : Option (Piece Reading)) → Chain f p ps None → p.start ≤ to →
      Joins to (last_from p.value (take (count_before (to + 1) ps) ps)) v x → Chain g (piece from v) (optional x ++ drop (count_before (to + 1) ps) ps) None
  tail_chain p ps x c h j =
      let w = last_from p.value (take (count_before (to + 1) ps) ps) in
      join g (piece from v) [] to w x (drop (count_before (to + 1) ps) ps) None j
      (order, λ u a b. sym (sets.inside u a b))
      (chain_as f g (piece to w) (drop (count_before (to + 1) ps) ps) None (λ u a b. sym (sets.after u a)) (back f to p ps c h))

  set_lists : (ps : List (Piece Reading)) (x y : Option (Piece Reading)) (d : Piece Reading) → Lists f ps → FollowsPieces (take (count_before from ps) ps) from v x → Joins to (get_or ps (count_before (to + 1) ps - 1) d).value v y →
      Lists g (take (count_before from ps) ps ++ (optional x ++ (optional y ++ drop (count_before (to + 1) ps) ps)))
  set_lists [] x y d l fo j = absurd l.0
  set_lists (p ∷ ps) x y d l fo j =
      let c = listed_chain f p ps l in
      let zero_start : p.start ≡ 0 = l.0.0 in
      let n : ℕ = count_before (to + 1) ps in
      let more : count_before (to + 1) (p ∷ ps) ≡ suc n = count_yes (to + 1) p ps (omega arith) in
      let at : count_before (to + 1) (p ∷ ps) - 1 ≡ n = omega arith in
      let last = ap (λ m. (get_or (p ∷ ps) m d).value) at ∙ last_value p ps n d (count_within (to + 1) ps) in
      let tl = tail_chain p ps y c (omega arith) (subst (λ w. Joins to w v y) last j) in
      subst (λ m. Lists g (take (count_before from (p ∷ ps)) (p ∷ ps) ++ (optional x ++ (optional y ++ drop m (p ∷ ps))))) (sym more)
      (⊎_elim
      (λ (h : p.start < from).
      let one : count_before from (p ∷ ps) ≡ suc (count_before from ps) = count_yes from p ps h in
      let fo' : Joins from v (last_from p.value (take (count_before from ps) ps)) x = subst (λ m. FollowsPieces (take m (p ∷ ps)) from v x) one fo in
      subst (λ m. Lists g (take m (p ∷ ps) ++ (optional x ++ (optional y ++ drop n ps)))) (sym one)
      (chain_listed g p (take (count_before from ps) ps ++ (optional x ++ (optional y ++ drop n ps))) zero_start
      (join g p (take (count_before from ps) ps) from v x (optional y ++ drop n ps) None fo'
      (chain_as f g p (take (count_before from ps) ps) (Some from) (λ u a b. sym (sets.before u b)) (front f from p ps c h)) tl)))
      (λ (h : from ≤ p.start).
      let none : count_before from (p ∷ ps) ≡ 0 = count_no from p ps h in
      let fo' : x ≡ Some (piece from v) = subst (λ m. FollowsPieces (take m (p ∷ ps)) from v x) none fo in
      subst (λ m. Lists g (take m (p ∷ ps) ++ (optional x ++ (optional y ++ drop n ps)))) (sym none)
      (subst (λ o. Lists g (optional o ++ (optional y ++ drop n ps))) (sym fo')
      (chain_listed g (piece from v) (optional y ++ drop n ps) (omega arith) tl)))
      (cases_lt p.start from))

-- the piece behind the first ones, by the last of these
pub follows_is : (ps : List (Piece Reading)) (keep : ℕ) (d : Piece Reading) (t : ℕ) (v : Reading) (x : Option (Piece Reading)) → (keep ≡ 0 → ⊥) → keep ≤ length ps → Joins t v (get_or ps (keep - 1) d).value x → FollowsPieces (take keep ps) t v x
follows_is ps zero d t v x n h j = absurd (n refl)
follows_is [] (suc i) d t v x n h j = absurd (omega arith)
follows_is (p ∷ ps) (suc i) d t v x n h j =
    let e : suc i - 1 ≡ i = omega arith in
    subst (λ w. Joins t v w x) (ap (λ m. (get_or (p ∷ ps) m d).value) e ∙ last_value p ps i d (omega arith)) j

set_on_sets : (ps : List (Piece Reading)) (from to : ℕ) (v : Reading) → Sets (reading_at ps) (set_on ps from to v) from to v
set_on_sets ps from to v = record {
  before = λ u h. entered_elsewhere (λ line. reading_at ps) 0 from to v 0 u (inr (inl h));
  inside = λ u h k. entered_here (λ line. reading_at ps) 0 from to v u h k;
  after = λ u h. entered_elsewhere (λ line. reading_at ps) 0 from to v 0 u (inr (inr h));
}

pub plan_lists : (ps : List (Piece Reading)) (from to keep skip : ℕ) (v : Reading) (x y : Option (Piece Reading)) (d : Piece Reading) → Canonical ps → from < to → keep ≡ count_before from ps → skip ≡ count_before (to + 1) ps →
    FollowsPieces (take keep ps) from v x → Joins to (get_or ps (skip - 1) d).value v y → Lists (set_on ps from to v) (take keep ps ++ (optional x ++ (optional y ++ drop skip ps)))
plan_lists ps from to keep skip v x y d c order ke se fo j =
    let fo' = subst (λ k. FollowsPieces (take k ps) from v x) ke fo in
    let j' = subst (λ k. Joins to (get_or ps (k - 1) d).value v y) se j in
    let l = set_lists (reading_at ps) (set_on ps from to v) from to v order (set_on_sets ps from to v) ps x y d (own_list ps c) fo' j' in
    subst (λ k. Lists (set_on ps from to v) (take k ps ++ (optional x ++ (optional y ++ drop skip ps)))) (sym ke)
    (subst (λ k. Lists (set_on ps from to v) (take (count_before from ps) ps ++ (optional x ++ (optional y ++ drop k ps)))) (sym se) l)
