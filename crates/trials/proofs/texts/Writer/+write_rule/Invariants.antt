use Rattle.trials.proofs.texts.Writer.+write_rule.Given as goal

abbrev pub decreases-write_rule : goal.decreases-write_rule
decreases-write_rule l = l.depth
