-- Bytes are read in one way only.
use Rattle.std.proofs.Common.{◌≡◌, ℕ, ◌+◌, ◌*◌, ◌≤◌, List, [], ◌∷◌, ◌++◌, length, get_or, take, drop, Some, Ok, Err, sym, ap, ◌∙◌, subst, arith}
use Rattle.std.proofs.lemmas.List.{take_at, drop_at}
use Rattle.rules.specs.declared.fault.RuleFault.{RuleFault}
use Rattle.rules.specs.declared.row.Row.{Row}
use Rattle.rules.specs.Texts.{Answer, Answered}
use Rattle.rules.proofs.OneAnswer.{one_answer}
use Rattle.rules.proofs.AnswerSound.{ok_err, rows_of_answer}
use Rattle.cases.specs.declared.fault.CaseFault.TheVariants.{Rule}
use Rattle.cases.specs.Fields.{Leads, CutShort}
use Rattle.cases.specs.Contents.{Item, name, rule, Says, a_name, a_rule, an_entry, a_tick, Wrong}
use Rattle.cases.specs.Readers.{Goes, passes, stays, GoesTo, last, over}
use Rattle.cases.specs.Orders.{MayStand, MayFollow}
use Rattle.cases.specs.Headings.{refusal, Opens, missing, cut, wrong, misplaced, named, no_rule, ruled}
use Rattle.cases.specs.Steps as step
use Rattle.cases.specs.Laws.{OneField, OneItem, OneOpening, OneStep, OneReadingPlace}

-- what the bytes say of their field, by place
module _ (bytes : List ℕ) (tag : ℕ) (body rest : List ℕ) (l : Leads bytes tag body rest) where
  sized : length body ≡ get_or bytes 1 0 * 256 + get_or bytes 2 0
  sized = l.size ∙ sym (ap (λ (v : List ℕ). get_or v 1 0 * 256 + get_or v 2 0) l.whole)

  tag_is : get_or bytes 0 0 ≡ tag
  tag_is = ap (λ (v : List ℕ). get_or v 0 0) l.whole

  body_is : take (get_or bytes 1 0 * 256 + get_or bytes 2 0) (drop 3 bytes) ≡ body
  body_is = ap (λ (v : List ℕ). take (get_or bytes 1 0 * 256 + get_or bytes 2 0) (drop 3 v)) l.whole ∙ take_at body rest _ sized

  rest_is : drop (get_or bytes 1 0 * 256 + get_or bytes 2 0) (drop 3 bytes) ≡ rest
  rest_is = ap (λ (v : List ℕ). drop (get_or bytes 1 0 * 256 + get_or bytes 2 0) (drop 3 v)) l.whole ∙ drop_at body rest _ sized

pub one_field : OneField
one_field bytes tag other body rest more behind l m = (
  sym (tag_is bytes tag body rest l) ∙ tag_is bytes other more behind m,
  sym (body_is bytes tag body rest l) ∙ body_is bytes other more behind m,
  sym (rest_is bytes tag body rest l) ∙ rest_is bytes other more behind m,
)

pub one_item : OneItem
one_item tag body i j (a_name t s l e) (a_name u v w f) = e ∙ sym f
one_item tag body i j (a_name t s l e) (a_rule u f) = absurd (omega (arith, t, u))
one_item tag body i j (a_name t s l e) (an_entry u v f) = absurd (omega (arith, t, u))
one_item tag body i j (a_name t s l e) (a_tick u v f) = absurd (omega (arith, t, u))
one_item tag body i j (a_rule t e) (a_name u v w f) = absurd (omega (arith, t, u))
one_item tag body i j (a_rule t e) (a_rule u f) = e ∙ sym f
one_item tag body i j (a_rule t e) (an_entry u v f) = absurd (omega (arith, t, u))
one_item tag body i j (a_rule t e) (a_tick u v f) = absurd (omega (arith, t, u))
one_item tag body i j (an_entry t l e) (a_name u v w f) = absurd (omega (arith, t, u))
one_item tag body i j (an_entry t l e) (a_rule u f) = absurd (omega (arith, t, u))
one_item tag body i j (an_entry t l e) (an_entry u v f) = e ∙ sym f
one_item tag body i j (an_entry t l e) (a_tick u v f) = absurd (omega (arith, t, u))
one_item tag body i j (a_tick t l e) (a_name u v w f) = absurd (omega (arith, t, u))
one_item tag body i j (a_tick t l e) (a_rule u f) = absurd (omega (arith, t, u))
one_item tag body i j (a_tick t l e) (an_entry u v f) = absurd (omega (arith, t, u))
one_item tag body i j (a_tick t l e) (a_tick u v f) = e ∙ sym f

-- two fields at the front are one
module _ (bytes : List ℕ) {tag other : ℕ} {body rest more behind : List ℕ} (l : Leads bytes tag body rest) (m : Leads bytes other more behind) where
  rests : rest ≡ behind
  rests = (one_field bytes tag other body rest more behind l m).2

  says_same : (i j : Item) → Says tag body i → Says other more j → i ≡ j
  says_same i j s t =
      let p = one_field bytes tag other body rest more behind l m in
      one_item tag body i j s (subst (λ (v : List ℕ). Says tag v j) (sym p.1) (subst (λ (k : ℕ). Says k more j) (sym p.0) t))

  says_wrong : (j : Item) → Wrong tag body → Says other more j → ⊥
  says_wrong j w t =
      let p = one_field bytes tag other body rest more behind l m in
      w j (subst (λ (v : List ℕ). Says tag v j) (sym p.1) (subst (λ (k : ℕ). Says k more j) (sym p.0) t))

  wrong_says : (i : Item) → Says tag body i → Wrong other more → ⊥
  wrong_says i s w =
      let p = one_field bytes tag other body rest more behind l m in
      w i (subst (λ (k : ℕ). Says k more i) p.0 (subst (λ (v : List ℕ). Says tag v i) p.1 s))

pub nothing_leads : (bytes : List ℕ) {tag : ℕ} {body rest : List ℕ} → bytes ≡ [] → Leads bytes tag body rest → ⊥
nothing_leads bytes e l = omega (arith, ap length (sym e ∙ l.whole))

nothing_cut : (bytes : List ℕ) → bytes ≡ [] → CutShort bytes → ⊥
nothing_cut bytes e c = omega (arith, ap length e, c.some)

cut_leads : (bytes : List ℕ) {tag : ℕ} {body rest : List ℕ} → CutShort bytes → Leads bytes tag body rest → ⊥
cut_leads bytes {tag} {body} {rest} c l = c.none tag body rest l

name_rule : (w text : List ℕ) → name w ≡ rule text → ⊥
name_rule w text e = let z : ◌≡◌ {A = ℕ} 0 1 = cc in omega arith

word_of : (w v : List ℕ) → name w ≡ name v → w ≡ v
word_of w v e = cc

text_of : (w v : List ℕ) → rule w ≡ rule v → w ≡ v
text_of w v e = cc

fault_of : (f g : RuleFault) → ◌≡◌ {A = Answer} (Err f) (Err g) → f ≡ g
fault_of f g e = cc

pub one_opening : OneOpening
one_opening n names bytes r s (missing xz xe) (missing yz ye) = xe ∙ sym ye
one_opening n names bytes r s (missing xz xe) (cut yc ye) = absurd (nothing_cut bytes xz yc)
one_opening n names bytes r s (missing xz xe) (wrong yl yw ye) = absurd (nothing_leads bytes xz yl)
one_opening n names bytes r s (missing xz xe) (misplaced {i = yi} yl ys yoff ye) = absurd (nothing_leads bytes xz yl)
one_opening n names bytes r s (missing xz xe) (named {rest = yrest} {w = yv} yl ys yst yo) = absurd (nothing_leads bytes xz yl)
one_opening n names bytes r s (missing xz xe) (no_rule {text = yt} yf yl ys yst ya ye) = absurd (nothing_leads bytes xz yl)
one_opening n names bytes r s (missing xz xe) (ruled {rest = yrest} {text = yt} yrows yl ys yst ya ye) = absurd (nothing_leads bytes xz yl)
one_opening n names bytes r s (cut xc xe) (missing yz ye) = absurd (nothing_cut bytes yz xc)
one_opening n names bytes r s (cut xc xe) (cut yc ye) = xe ∙ sym ye
one_opening n names bytes r s (cut xc xe) (wrong yl yw ye) = absurd (cut_leads bytes xc yl)
one_opening n names bytes r s (cut xc xe) (misplaced {i = yi} yl ys yoff ye) = absurd (cut_leads bytes xc yl)
one_opening n names bytes r s (cut xc xe) (named {rest = yrest} {w = yv} yl ys yst yo) = absurd (cut_leads bytes xc yl)
one_opening n names bytes r s (cut xc xe) (no_rule {text = yt} yf yl ys yst ya ye) = absurd (cut_leads bytes xc yl)
one_opening n names bytes r s (cut xc xe) (ruled {rest = yrest} {text = yt} yrows yl ys yst ya ye) = absurd (cut_leads bytes xc yl)
one_opening n names bytes r s (wrong xl xw xe) (missing yz ye) = absurd (nothing_leads bytes yz xl)
one_opening n names bytes r s (wrong xl xw xe) (cut yc ye) = absurd (cut_leads bytes yc xl)
one_opening n names bytes r s (wrong xl xw xe) (wrong yl yw ye) = xe ∙ sym ye
one_opening n names bytes r s (wrong xl xw xe) (misplaced {i = yi} yl ys yoff ye) = absurd (says_wrong bytes xl yl yi xw ys)
one_opening n names bytes r s (wrong xl xw xe) (named {rest = yrest} {w = yv} yl ys yst yo) = absurd (says_wrong bytes xl yl (name yv) xw ys)
one_opening n names bytes r s (wrong xl xw xe) (no_rule {text = yt} yf yl ys yst ya ye) = absurd (says_wrong bytes xl yl (rule yt) xw ys)
one_opening n names bytes r s (wrong xl xw xe) (ruled {rest = yrest} {text = yt} yrows yl ys yst ya ye) = absurd (says_wrong bytes xl yl (rule yt) xw ys)
one_opening n names bytes r s (misplaced {i = xi} xl xs xoff xe) (missing yz ye) = absurd (nothing_leads bytes yz xl)
one_opening n names bytes r s (misplaced {i = xi} xl xs xoff xe) (cut yc ye) = absurd (cut_leads bytes yc xl)
one_opening n names bytes r s (misplaced {i = xi} xl xs xoff xe) (wrong yl yw ye) = absurd (wrong_says bytes xl yl xi xs yw)
one_opening n names bytes r s (misplaced {i = xi} xl xs xoff xe) (misplaced {i = yi} yl ys yoff ye) = xe ∙ sym ye
one_opening n names bytes r s (misplaced {i = xi} xl xs xoff xe) (named {rest = yrest} {w = yv} yl ys yst yo) = absurd (xoff (subst (MayStand names) (sym (says_same bytes xl yl xi (name yv) xs ys)) yst))
one_opening n names bytes r s (misplaced {i = xi} xl xs xoff xe) (no_rule {text = yt} yf yl ys yst ya ye) = absurd (xoff (subst (MayStand names) (sym (says_same bytes xl yl xi (rule yt) xs ys)) yst))
one_opening n names bytes r s (misplaced {i = xi} xl xs xoff xe) (ruled {rest = yrest} {text = yt} yrows yl ys yst ya ye) = absurd (xoff (subst (MayStand names) (sym (says_same bytes xl yl xi (rule yt) xs ys)) yst))
one_opening n names bytes r s (named {rest = xrest} {w = xv} xl xs xst xo) (missing yz ye) = absurd (nothing_leads bytes yz xl)
one_opening n names bytes r s (named {rest = xrest} {w = xv} xl xs xst xo) (cut yc ye) = absurd (cut_leads bytes yc xl)
one_opening n names bytes r s (named {rest = xrest} {w = xv} xl xs xst xo) (wrong yl yw ye) = absurd (wrong_says bytes xl yl (name xv) xs yw)
one_opening n names bytes r s (named {rest = xrest} {w = xv} xl xs xst xo) (misplaced {i = yi} yl ys yoff ye) = absurd (yoff (subst (MayStand names) (says_same bytes xl yl (name xv) yi xs ys) xst))
one_opening n names bytes r s (named {rest = xrest} {w = xv} xl xs xst xo) (named {rest = yrest} {w = yv} yl ys yst yo) = one_opening (n + 1) (names ++ (xv ∷ [])) xrest r s xo (subst (λ (v : List ℕ). Opens (n + 1) (names ++ (v ∷ [])) xrest s) (sym (word_of xv yv (says_same bytes xl yl (name xv) (name yv) xs ys))) (subst (λ (v : List ℕ). Opens (n + 1) (names ++ (yv ∷ [])) v s) (sym (rests bytes xl yl)) yo))
one_opening n names bytes r s (named {rest = xrest} {w = xv} xl xs xst xo) (no_rule {text = yt} yf yl ys yst ya ye) = absurd (name_rule xv yt (says_same bytes xl yl (name xv) (rule yt) xs ys))
one_opening n names bytes r s (named {rest = xrest} {w = xv} xl xs xst xo) (ruled {rest = yrest} {text = yt} yrows yl ys yst ya ye) = absurd (name_rule xv yt (says_same bytes xl yl (name xv) (rule yt) xs ys))
one_opening n names bytes r s (no_rule {text = xt} xf xl xs xst xa xe) (missing yz ye) = absurd (nothing_leads bytes yz xl)
one_opening n names bytes r s (no_rule {text = xt} xf xl xs xst xa xe) (cut yc ye) = absurd (cut_leads bytes yc xl)
one_opening n names bytes r s (no_rule {text = xt} xf xl xs xst xa xe) (wrong yl yw ye) = absurd (wrong_says bytes xl yl (rule xt) xs yw)
one_opening n names bytes r s (no_rule {text = xt} xf xl xs xst xa xe) (misplaced {i = yi} yl ys yoff ye) = absurd (yoff (subst (MayStand names) (says_same bytes xl yl (rule xt) yi xs ys) xst))
one_opening n names bytes r s (no_rule {text = xt} xf xl xs xst xa xe) (named {rest = yrest} {w = yv} yl ys yst yo) = absurd (name_rule yv xt (sym (says_same bytes xl yl (rule xt) (name yv) xs ys)))
one_opening n names bytes r s (no_rule {text = xt} xf xl xs xst xa xe) (no_rule {text = yt} yf yl ys yst ya ye) = xe ∙ ap (λ (f : RuleFault). Err (refusal n (Rule f))) (fault_of xf yf (one_answer names xt (Err xf) (Err yf) xa (subst (λ (v : List ℕ). Answered names v (Err yf)) (sym (text_of xt yt (says_same bytes xl yl (rule xt) (rule yt) xs ys))) ya))) ∙ sym ye
one_opening n names bytes r s (no_rule {text = xt} xf xl xs xst xa xe) (ruled {rest = yrest} {text = yt} yrows yl ys yst ya ye) = absurd (ok_err yrows xf (sym (one_answer names xt (Err xf) (Ok yrows) xa (subst (λ (v : List ℕ). Answered names v (Ok yrows)) (sym (text_of xt yt (says_same bytes xl yl (rule xt) (rule yt) xs ys))) ya))))
one_opening n names bytes r s (ruled {rest = xrest} {text = xt} xrows xl xs xst xa xe) (missing yz ye) = absurd (nothing_leads bytes yz xl)
one_opening n names bytes r s (ruled {rest = xrest} {text = xt} xrows xl xs xst xa xe) (cut yc ye) = absurd (cut_leads bytes yc xl)
one_opening n names bytes r s (ruled {rest = xrest} {text = xt} xrows xl xs xst xa xe) (wrong yl yw ye) = absurd (wrong_says bytes xl yl (rule xt) xs yw)
one_opening n names bytes r s (ruled {rest = xrest} {text = xt} xrows xl xs xst xa xe) (misplaced {i = yi} yl ys yoff ye) = absurd (yoff (subst (MayStand names) (says_same bytes xl yl (rule xt) yi xs ys) xst))
one_opening n names bytes r s (ruled {rest = xrest} {text = xt} xrows xl xs xst xa xe) (named {rest = yrest} {w = yv} yl ys yst yo) = absurd (name_rule yv xt (sym (says_same bytes xl yl (rule xt) (name yv) xs ys)))
one_opening n names bytes r s (ruled {rest = xrest} {text = xt} xrows xl xs xst xa xe) (no_rule {text = yt} yf yl ys yst ya ye) = absurd (ok_err xrows yf (one_answer names xt (Ok xrows) (Err yf) xa (subst (λ (v : List ℕ). Answered names v (Err yf)) (sym (text_of xt yt (says_same bytes xl yl (rule xt) (rule yt) xs ys))) ya)))
one_opening n names bytes r s (ruled {rest = xrest} {text = xt} xrows xl xs xst xa xe) (ruled {rest = yrest} {text = yt} yrows yl ys yst ya ye) = xe ∙ ap (λ (v : List Row). Ok (record { lines = length names; rows = v; next = n + 1; rest = xrest })) (rows_of_answer xrows yrows (one_answer names xt (Ok xrows) (Ok yrows) xa (subst (λ (v : List ℕ). Answered names v (Ok yrows)) (sym (text_of xt yt (says_same bytes xl yl (rule xt) (rule yt) xs ys))) ya))) ∙ ap (λ (v : List ℕ). Ok (record { lines = length names; rows = yrows; next = n + 1; rest = v })) (rests bytes xl yl) ∙ sym ye

pub one_step : OneStep
one_step n bytes r s (step.ended xz xe) (step.ended yz ye) = xe ∙ sym ye
one_step n bytes r s (step.ended xz xe) (step.cut yc ye) = absurd (nothing_cut bytes xz yc)
one_step n bytes r s (step.ended xz xe) (step.wrong yl yw ye) = absurd (nothing_leads bytes xz yl)
one_step n bytes r s (step.ended xz xe) (step.misplaced {i = yi} yl ys yoff ye) = absurd (nothing_leads bytes xz yl)
one_step n bytes r s (step.ended xz xe) (step.step {rest = yrest} {i = yi} yl ys yst ye) = absurd (nothing_leads bytes xz yl)
one_step n bytes r s (step.cut xc xe) (step.ended yz ye) = absurd (nothing_cut bytes yz xc)
one_step n bytes r s (step.cut xc xe) (step.cut yc ye) = xe ∙ sym ye
one_step n bytes r s (step.cut xc xe) (step.wrong yl yw ye) = absurd (cut_leads bytes xc yl)
one_step n bytes r s (step.cut xc xe) (step.misplaced {i = yi} yl ys yoff ye) = absurd (cut_leads bytes xc yl)
one_step n bytes r s (step.cut xc xe) (step.step {rest = yrest} {i = yi} yl ys yst ye) = absurd (cut_leads bytes xc yl)
one_step n bytes r s (step.wrong xl xw xe) (step.ended yz ye) = absurd (nothing_leads bytes yz xl)
one_step n bytes r s (step.wrong xl xw xe) (step.cut yc ye) = absurd (cut_leads bytes yc xl)
one_step n bytes r s (step.wrong xl xw xe) (step.wrong yl yw ye) = xe ∙ sym ye
one_step n bytes r s (step.wrong xl xw xe) (step.misplaced {i = yi} yl ys yoff ye) = absurd (says_wrong bytes xl yl yi xw ys)
one_step n bytes r s (step.wrong xl xw xe) (step.step {rest = yrest} {i = yi} yl ys yst ye) = absurd (says_wrong bytes xl yl yi xw ys)
one_step n bytes r s (step.misplaced {i = xi} xl xs xoff xe) (step.ended yz ye) = absurd (nothing_leads bytes yz xl)
one_step n bytes r s (step.misplaced {i = xi} xl xs xoff xe) (step.cut yc ye) = absurd (cut_leads bytes yc xl)
one_step n bytes r s (step.misplaced {i = xi} xl xs xoff xe) (step.wrong yl yw ye) = absurd (wrong_says bytes xl yl xi xs yw)
one_step n bytes r s (step.misplaced {i = xi} xl xs xoff xe) (step.misplaced {i = yi} yl ys yoff ye) = xe ∙ sym ye
one_step n bytes r s (step.misplaced {i = xi} xl xs xoff xe) (step.step {rest = yrest} {i = yi} yl ys yst ye) = absurd (xoff (subst MayFollow (sym (says_same bytes xl yl xi yi xs ys)) yst))
one_step n bytes r s (step.step {rest = xrest} {i = xi} xl xs xst xe) (step.ended yz ye) = absurd (nothing_leads bytes yz xl)
one_step n bytes r s (step.step {rest = xrest} {i = xi} xl xs xst xe) (step.cut yc ye) = absurd (cut_leads bytes yc xl)
one_step n bytes r s (step.step {rest = xrest} {i = xi} xl xs xst xe) (step.wrong yl yw ye) = absurd (wrong_says bytes xl yl xi xs yw)
one_step n bytes r s (step.step {rest = xrest} {i = xi} xl xs xst xe) (step.misplaced {i = yi} yl ys yoff ye) = absurd (yoff (subst MayFollow (says_same bytes xl yl xi yi xs ys) xst))
one_step n bytes r s (step.step {rest = xrest} {i = xi} xl xs xst xe) (step.step {rest = yrest} {i = yi} yl ys yst ye) = xe ∙ ap (λ (i : Item). Ok (Some (record { field = n; item = i; next = n + 1; rest = xrest }))) (says_same bytes xl yl xi yi xs ys) ∙ ap (λ (v : List ℕ). Ok (Some (record { field = n; item = yi; next = n + 1; rest = v }))) (rests bytes xl yl) ∙ sym ye

-- fields are asked for from the first on
from_first : {k n m : ℕ} {bytes rest : List ℕ} → GoesTo k n bytes m rest → n ≤ k
from_first (last e g) = omega (arith, e)
from_first (over l g) = omega (arith, from_first g)

one_going : (n m o : ℕ) (bytes rest more : List ℕ) → Goes n bytes m rest → Goes n bytes o more → (m ≡ o) × (rest ≡ more)
one_going n m o bytes rest more (passes l e) (passes k f) = (e ∙ sym f, rests bytes l k)
one_going n m o bytes rest more (passes l e) (stays z f g) = absurd (z _ _ _ l)
one_going n m o bytes rest more (stays z e d) (passes l f) = absurd (z _ _ _ l)
one_going n m o bytes rest more (stays z e d) (stays y f g) = (e ∙ sym f, d ∙ sym g)

pub one_place : OneReadingPlace
one_place k n m o bytes rest more (last e g) (last f h) = one_going n m o bytes rest more g h
one_place k n m o bytes rest more (last e g) (over l h) = absurd (omega (arith, e, from_first h))
one_place k n m o bytes rest more (over l g) (last e h) = absurd (omega (arith, e, from_first g))
one_place k n m o bytes rest more (over {between = x} l g) (over {between = y} j h) = one_place k (n + 1) m o x rest more g (subst (λ (v : List ℕ). GoesTo k (n + 1) v o more) (sym (rests bytes l j)) h)
