use Rattle.std.proofs.Common.{arith}
use Rattle.rule_lines.proofs.Keeping.{kept_full, kept_space, kept_push}
use Rattle.rule_lines.proofs.names.Names.hear.Goals as goal

pub returns-then-self-ge-NAMES : goal.returns-then-self-ge-NAMES
returns-then-self-ge-NAMES c line h = kept_full c.args.byte line c.args.self.now c.if-self-ge-NAMES.true h

pub returns-then-byte-eq-SPACE : goal.returns-then-byte-eq-SPACE
returns-then-byte-eq-SPACE c line h = kept_space c.args.byte line c.args.self.now c.if-byte-eq-SPACE.true c.if-self-ge-NAMES.false h

pub returns-else-byte-eq-SPACE : goal.returns-else-byte-eq-SPACE
returns-else-byte-eq-SPACE c line h = kept_push c.args.byte line c.args.self.now c.push.new.self _ c.if-byte-eq-SPACE.false c.if-self-ge-NAMES.false (omega arith) c.push.ensures h
