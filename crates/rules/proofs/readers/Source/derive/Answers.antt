use Rattle.std.proofs.Common.{[]}
use Rattle.rules.proofs.Stopping.{stopped}
use Rattle.rules.proofs.Theory.{stops_fails, more_fails, all_derived}
use Rattle.rules.proofs.readers.Source.derive.Goals as goal

pub returns-in_err-all : goal.returns-in_err-all
returns-in_err-all c = stopped _ _ _ _ c.from_residual.ensures.1 (stops_fails c.in_err-all.ensures)

pub returns-then-all-self : goal.returns-then-all-self
returns-then-all-self c = let b = c.in_ok-all.ensures in more_fails b.phrase b.read c.if-all-self.true

pub returns : goal.returns
returns c =
    let b = c.in_ok-all.ensures in
    record { phrase = b.phrase; derives = all_derived b.phrase b.read c.if-all-self.false; holds = (b.grows [] [] c.new-table.ensures) }
