-- The line by the laws of a line that holds a number.
use mir.Val.{SFits}
use mir.Syntax.{w64}
use mir.Facts.{to_z-of_z}
use Rattle.std.proofs.Common.{rules}
use Rattle.text_number.proofs.Fields.{number_got, number_refused}
use Rattle.program_curves.proofs.taken.line_number.Goals as goal

pub returns : goal.returns
returns c =
    let fits : SFits w64 c.in-Ok.number = search rules in
    let is = rw (to_z-of_z c.ranges.low, to_z-of_z c.ranges.high) at c.number_of-n.ensures in
    rw (to_z-of_z fits, ← number_got c.args.key.now c.args.text.now 0 c.args.low c.args.high c.line_value-value.ensures is c.in-Ok.is)

pub returns-in_default : goal.returns-in_default
returns-in_default c =
    let is = rw (to_z-of_z c.ranges.low, to_z-of_z c.ranges.high) at c.number_of-n.ensures in
    rw (← number_refused c.args.key.now c.args.text.now 0 c.args.low c.args.high c.line_value-value.ensures is c.in_default.not-Ok, c.value_fault.ensures, c.number_refusal.ensures)
