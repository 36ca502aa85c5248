use Rattle.std.proofs.Common.{◌≡◌, ◌*◌, ◌≤◌, length, refl, arith, rules}
use Rattle.runs.specs.States.{line_count}
use Rattle.jobs.proofs.Blanks.{opened_none, opened_more, one_each, blank_kept, opened_state, opened_behind}
use Rattle.jobs.proofs.job.Job.open.Goals as goal

pub loop-k-init : goal.loop-k-init
loop-k-init c = opened_none c.args.cells.now

pub loop-k-preserved : goal.loop-k-preserved
loop-k-preserved c = opened_more c.args.cells.now c.loop-k.cells c.loop-k.k c.widest.result c.widest.ensures (omega arith) c.loop-k.invariant

pub invariant_of-result : goal.invariant_of-result
invariant_of-result c =
    let n = c.min-count.result in
    let few : n ≤ 16 = search rules in
    let room : 64 * n ≤ length c.loop-k.cells = search rules in
    record {
      sound = record {
        few = few;
        room = room;
        short = λ k h. omega (arith, one_each n few k h);
        kept = ∣ blank_kept c.args.cells.now c.loop-k.cells n c.loop-k.k (omega arith) c.loop-k.invariant few room ∣₁;
      };
    }

pub returns : goal.returns
returns c =
    let n = c.min-count.result in
    let few : n ≤ 16 = search rules in
    let room : 64 * n ≤ length c.loop-k.cells = search rules in
    let many : n ≡ line_count c.args.lines (length c.args.cells.now) = search rules in
    record {
      state = opened_state c.args.cells.now c.loop-k.cells n c.loop-k.k (omega arith) c.loop-k.invariant few room (line_count c.args.lines (length c.args.cells.now)) many;
      behind = opened_behind c.args.cells.now c.loop-k.cells n c.loop-k.k (omega arith) c.loop-k.invariant few room (line_count c.args.lines (length c.args.cells.now)) many;
      loan = refl;
    }
