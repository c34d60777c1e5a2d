-- By the line's own number, 0 where it has a value.
use Rattle.std.proofs.Common.{sym, ◌∙◌}
use Rattle.text_line.proofs.Fields.{fault-value}
use Rattle.text_line.proofs.line.value_fault.Goals as goal

pub returns-then-own-eq0 : goal.returns-then-own-eq0
returns-then-own-eq0 c =
    let a = c.args in
    fault-value a.key.now a.text.now a.at a.number (sym c.line_fault-own.ensures ∙ c.if-own-eq0.true)
