use Rattle.std.proofs.Common.{refl, to_z-of_z, w32, SFits, rules}
use Rattle.runs.specs.Calls.{RuleRows}
use Rattle.rules.specs.Texts.{table_of}
use Rattle.jobs.specs.Faults.{enter_reply}
use Rattle.jobs.specs.Jobs.{state_of}
use Rattle.scripts.specs.Events.{is_enter, is_known, is_tally, is_seal, is_judge_truth, is_judge_margin, is_mark_truth, is_mark_margin}
use Rattle.scripts.specs.Leavings.{enter_leaves, known_leaves, tally_leaves, seal_leaves, judge_truth_leaves, judge_margin_leaves, mark_truth_leaves, mark_margin_leaves}
use Rattle.scripts.proofs.Recounting.{entry_recounted, truth_marks, margin_marks}
use Rattle.scripts.proofs.playing.play_on.Goals as goal

pub returns-in-Enter-clause-plays : goal.returns-in-Enter-clause-plays
returns-in-Enter-clause-plays c =
    let low : SFits w32 c.in-Enter.lower = search rules in
    let high : SFits w32 c.in-Enter.upper = search rules in (
      _,
      record {
        is = is_enter c.in-Enter.line c.in-Enter.from c.in-Enter.to c.in-Enter.lower c.in-Enter.upper c.enter.result c.in-Enter.is refl refl;
        turn = entry_recounted (state_of c.args.job.now) (state_of c.enter.new.self) c.in-Enter.line c.in-Enter.from c.in-Enter.to (enter_reply c.enter.result) (to_z-of_z low) (to_z-of_z high) c.enter.ensures.turn;
        leaves = enter_leaves c.in-Enter.line c.in-Enter.from c.in-Enter.to c.in-Enter.lower c.in-Enter.upper c.enter.result c.in-Enter.is refl c.enter.ensures.cells refl;
      },
    )

pub returns-in-Known-clause-plays : goal.returns-in-Known-clause-plays
returns-in-Known-clause-plays c = (_, record { is = is_known _ _ c.in-Known.is refl refl; turn = c.known.ensures; leaves = known_leaves _ _ c.in-Known.is refl refl refl })

pub returns-in-Tally-clause-plays : goal.returns-in-Tally-clause-plays
returns-in-Tally-clause-plays c = (_, record { is = is_tally _ c.in-Tally.is refl refl; turn = c.tally.ensures; leaves = tally_leaves _ c.in-Tally.is refl refl refl })

pub returns-in-Seal-clause-plays : goal.returns-in-Seal-clause-plays
returns-in-Seal-clause-plays c = (_, record { is = is_seal c.in-Seal.is refl refl; turn = search rules; leaves = seal_leaves c.in-Seal.is refl (search rules) refl })

pub returns-in-JudgeTruth-clause-plays : goal.returns-in-JudgeTruth-clause-plays
returns-in-JudgeTruth-clause-plays c =
    let a : RuleRows = record { rows = table_of c.in-JudgeTruth.rule.now; sound = c.judge_within.ensures.sound } in
    (_, record { is = is_judge_truth _ _ _ _ a c.in-JudgeTruth.is refl refl refl; turn = (c.judge_within.ensures.turn, refl); leaves = judge_truth_leaves _ _ _ _ c.in-JudgeTruth.is refl refl c.judge_within.ensures.leaves refl })

pub returns-in-JudgeMargin-clause-plays : goal.returns-in-JudgeMargin-clause-plays
returns-in-JudgeMargin-clause-plays c =
    let a : RuleRows = record { rows = table_of c.in-JudgeMargin.rule.now; sound = c.judge_within-in-JudgeMargin.ensures.sound } in
    (_, record { is = is_judge_margin _ _ _ _ a c.in-JudgeMargin.is refl refl refl; turn = (c.judge_within-in-JudgeMargin.ensures.turn, refl); leaves = judge_margin_leaves _ _ _ _ c.in-JudgeMargin.is refl refl c.judge_within-in-JudgeMargin.ensures.leaves refl })

pub returns-in-MarkTruth-clause-plays : goal.returns-in-MarkTruth-clause-plays
returns-in-MarkTruth-clause-plays c =
    let a : RuleRows = record { rows = table_of c.in-MarkTruth.rule.now; sound = c.mark_within.ensures.sound } in
    (_, record { is = is_mark_truth _ _ _ _ a c.in-MarkTruth.is refl refl refl; turn = (c.mark_within.ensures.turn, refl); leaves = mark_truth_leaves _ _ _ _ c.in-MarkTruth.is refl refl c.mark_within.ensures.leaves refl })

pub returns-in-MarkMargin-clause-plays : goal.returns-in-MarkMargin-clause-plays
returns-in-MarkMargin-clause-plays c =
    let a : RuleRows = record { rows = table_of c.in-MarkMargin.rule.now; sound = c.mark_within-in-MarkMargin.ensures.sound } in
    (_, record { is = is_mark_margin _ _ _ _ a c.in-MarkMargin.is refl refl refl; turn = (c.mark_within-in-MarkMargin.ensures.turn, refl); leaves = mark_margin_leaves _ _ _ _ c.in-MarkMargin.is refl refl c.mark_within-in-MarkMargin.ensures.leaves refl })

pub returns-in-MarkTruth-clause-fits : goal.returns-in-MarkTruth-clause-fits
returns-in-MarkTruth-clause-fits c = truth_marks c.mark_within.result c.mark_within.ensures.fits

pub returns-in-MarkMargin-clause-fits : goal.returns-in-MarkMargin-clause-fits
returns-in-MarkMargin-clause-fits c = margin_marks c.mark_within-in-MarkMargin.result c.mark_within-in-MarkMargin.ensures.fits
