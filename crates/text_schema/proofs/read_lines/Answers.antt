use Prim.Native.Nat.{◌<◌, min}
use mathlib.Core.Path.{◌≡◌, ◌∙◌}
use native.Mathlib.Omega.{arith}
use lib.ListN.{length}
use mir.Syntax.{w64}
use mir.Val.{SFits}
use mir.Facts.{to_z-of_z}
use Rattle.std.proofs.Common.{rules}
use Rattle.text_number.specs.Number.{number_in}
use Rattle.text_schema.specs.Schema.{value}
use Rattle.text_schema.proofs.Schemas.{lines_full, lines_keys, lines_refused, lines_within, lines_more}
use Rattle.text_schema.proofs.read_lines.Goals as goal
use Rattle.text_schema.proofs.read_lines.Goals.{After-number_of-n}

-- a line is left, with bounds and a place
left : (c : After-number_of-n) → c.loop-i.i < min (length c.args.out.now) (min (length c.args.lows.now) (length c.args.highs.now))
left c = omega arith

-- its value is read within the bounds at its place
is_number : (c : After-number_of-n) → c.number_of-n.result ≡ number_in (value c.args.lows.now c.loop-i.i) (value c.args.highs.now c.loop-i.i) c.line_value-value.result.now
is_number c =
    let low : SFits w64 (value c.args.lows.now c.loop-i.i) = search rules in
    let high : SFits w64 (value c.args.highs.now c.loop-i.i) = search rules in
    c.number_of-n.ensures ∙ rw (to_z-of_z low, to_z-of_z high)

pub returns-then-end-from : goal.returns-then-end-from
returns-then-end-from c = lines_keys c.loop-i.invariant c.piece_end-end.ensures c.if-end-from.true

pub returns-in_default : goal.returns-in_default
returns-in_default c =
    let n = (goal.at.returns-in_default c).After-number_of-n in
    lines_refused c.loop-i.invariant c.piece_end-end.ensures c.if-end-from.false (left n) c.part-key.ensures c.line_value-value.ensures (is_number n) c.in_default.not-Ok c.number_refusal.ensures c.value_fault.ensures

pub overflow_add-next-in-loop-i-2 : goal.overflow_add-next-in-loop-i-2
overflow_add-next-in-loop-i-2 c =
    let n = (goal.at.overflow_add-next-in-loop-i-2 c).After-number_of-n in
    omega (arith, lines_within c.loop-i.invariant c.piece_end-end.ensures c.if-end-from.false (left n) c.part-key.ensures c.line_value-value.ensures (is_number n) c.in-Ok.is)

pub loop-i-preserved : goal.loop-i-preserved
loop-i-preserved c =
    let n = (goal.at.loop-i-preserved c).After-number_of-n in
    let fits : SFits w64 c.in-Ok.z = search rules in
    rw (to_z-of_z fits)
    (lines_more c.loop-i.invariant c.piece_end-end.ensures c.if-end-from.false (left n) c.part-key.ensures c.line_value-value.ensures (is_number n) c.in-Ok.is (omega arith))

pub returns : goal.returns
returns c = lines_full c.loop-i.invariant (omega arith)
