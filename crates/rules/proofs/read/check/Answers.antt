use Rattle.std.proofs.Common.{◌≡◌, ℕ, ◌-◌, ◌<◌, ◌≤◌, length, take, subst, arith}
use Rattle.std.proofs.lemmas.List.{length-take-le}
use Rattle.rules.specs.Rows.{reach}
use Rattle.rules.specs.Texts.{place_in}
use Rattle.rules.proofs.Checking.{names, numbers, depths, many, too_far, accepted, some_rows, kept_fits, kept_earlier, kept_parent}
use Rattle.rules.proofs.read.check.Goals as goal

pub returns-in-Some : goal.returns-in-Some
returns-in-Some c = names c.requires (place_in c.args.places.now.places.now c.args.places.now.end) _ _ c.in-Some.ensures c.byte_of.ensures

pub returns-in-Some-out_of_bounds : goal.returns-in-Some-out_of_bounds
returns-in-Some-out_of_bounds c =
    numbers c.requires (place_in c.args.places.now.places.now c.args.places.now.end) _ _ c.in_default.ensures c.in-Some-out_of_bounds.ensures c.byte_of-in-Some-out_of_bounds.ensures

pub returns-in-Some-deep : goal.returns-in-Some-deep
returns-in-Some-deep c =
    depths c.requires (place_in c.args.places.now.places.now c.args.places.now.end) _ _ c.in_default.ensures c.in_default-out_of_bounds.ensures c.in-Some-deep.is c.byte_of-in-Some-deep.ensures

pub returns-then-table-gt-ROWS : goal.returns-then-table-gt-ROWS
returns-then-table-gt-ROWS c =
    many c.requires (place_in c.args.places.now.places.now c.args.places.now.end) c.in_default.ensures c.in_default-out_of_bounds.ensures c.in_default-deep.is c.if-table-gt-ROWS.true

pub reach_of-requires : goal.reach_of-requires
reach_of-requires c =
    let t = c.args.table in
    let within : t.count - 0 ≤ length t.rows = omega arith in
    let long = length-take-le (t.count - 0) t.rows within in
    record { few = omega (arith, long); some = omega (arith, long, some_rows c.requires) }

pub returns-then-reach_of-gt-REACH : goal.returns-then-reach_of-gt-REACH
returns-then-reach_of-gt-REACH c =
    let t = c.args.table in
    let same : t.count - 0 ≡ t.count = omega arith in
    let far : 500000000 < reach (take t.count t.rows) = subst (λ (n : ℕ). 500000000 < reach (take n t.rows)) same (subst (λ (n : ℕ). 500000000 < n) c.reach_of.ensures c.if-reach_of-gt-REACH.true) in
    too_far c.requires (place_in c.args.places.now.places.now c.args.places.now.end) c.in_default.ensures c.in_default-out_of_bounds.ensures c.in_default-deep.is c.if-table-gt-ROWS.false far

pub invariant_of-result : goal.invariant_of-result
invariant_of-result c =
    let le = c.if-table-gt-ROWS.false in
    let t = c.args.table in
    let same : t.count - 0 ≡ t.count = omega arith in
    let near : reach (take t.count t.rows) ≤ 500000000 = subst (λ (n : ℕ). reach (take n t.rows) ≤ 500000000) same (subst (λ (n : ℕ). n ≤ 500000000) c.reach_of.ensures c.if-reach_of-gt-REACH.false) in
    record { some = some_rows c.requires; few = le; fits = kept_fits c.requires c.in_default-out_of_bounds.ensures le; earlier = kept_earlier c.requires le; parent = kept_parent c.requires le; near = near }

pub returns : goal.returns
returns c =
    let t = c.args.table in
    let same : t.count - 0 ≡ t.count = omega arith in
    let near : reach (take t.count t.rows) ≤ 500000000 = subst (λ (n : ℕ). reach (take n t.rows) ≤ 500000000) same (subst (λ (n : ℕ). n ≤ 500000000) c.reach_of.ensures c.if-reach_of-gt-REACH.false) in
    accepted c.requires (place_in c.args.places.now.places.now c.args.places.now.end) c.in_default.ensures c.in_default-out_of_bounds.ensures c.in_default-deep.is c.if-table-gt-ROWS.false near
