use Rattle.std.proofs.Common.{ℕ, Ok, length, subst}
use Rattle.rules.specs.Texts.{table_of}
use Rattle.runs.specs.Calls.{MarkTurn}
use Rattle.jobs.specs.Jobs.{state_of}
use Rattle.judge.specs.Answers.{mark_reply}
use Rattle.compare.proofs.question.Question.check_mark.Goals as goal

pub loop-room-init : goal.loop-room-init
loop-room-init g c =
    let q = c.args.self.now in
    let lent = c.in_ok-lent.lent in
    let room = c.in_ok-lent.ensures in
    let turn : ℕ → ℕ → ℕ → Type 0 = λ r w m. MarkTurn g.G.Grade.kind (state_of q.job.now) (table_of q.rule.now) q.tick r w m (mark_reply g.G.Grade.kind g.G.Grade.value c.mark.new.self.marks.items (Ok c.in-Ok.marking)) in
    record {
      marking = c.in-Ok.marking;
      marked =
          subst (λ r. turn r 4096 1024) room.rows.many
          (subst (λ w. turn (length lent.rows.items) w 1024) room.wants.many
          (subst (λ m. turn (length lent.rows.items) (length lent.wants.items) m) room.marks.many c.in-Ok.ensures.turn));
      is = c.ends_of.ensures;
      agrees = c.in_ok-compare_marking.ensures.verdict;
      all = c.in_ok-compare_marking.ensures.marks;
    }
