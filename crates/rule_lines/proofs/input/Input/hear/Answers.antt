use Rattle.rule_lines.proofs.Hearing.{heard_text, heard_end, heard_name}
use Rattle.rule_lines.proofs.input.Input.hear.Goals as goal

pub returns-then-self : goal.returns-then-self
returns-then-self c bytes h = heard_text c.args.byte bytes c.args.self.now c.push.new.self c.if-self.true c.push.ensures h

pub returns-then-byte-eq-LINE_END : goal.returns-then-byte-eq-LINE_END
returns-then-byte-eq-LINE_END c bytes h = heard_end c.args.byte bytes c.args.self.now c.if-self.false c.if-byte-eq-LINE_END.true h

pub returns-else-byte-eq-LINE_END : goal.returns-else-byte-eq-LINE_END
returns-else-byte-eq-LINE_END c bytes h = heard_name c.args.byte bytes c.args.self.now c.if-self.false c.hear.new.self c.if-byte-eq-LINE_END.false c.hear.ensures h
