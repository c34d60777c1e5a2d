use Prim.Native.Nat.{◌<◌, ◌+◌}
use mathlib.Core.Bool.{cond}
use mathlib.Core.Path.{◌≡◌, ◌∙◌}
use native.Mathlib.Omega.{arith}
use lib.Dec.{eqb}
use lib.ListN.{length}
use mir.Syntax.{w64}
use mir.Val.{SFits}
use mir.Facts.{to_z-of_z}
use Rattle.std.proofs.Common.{rules}
use Rattle.text_schema.specs.Schema.{value}
use Rattle.pricing_resource_text.specs.internal.Marks.{marked_or_flag}
use Rattle.pricing_resource_text.proofs.Marking.{marks_small, marked_over, marked_stop, marked_fits, marked_more}
use Rattle.pricing_resource_text.proofs.marks.marked_lines.Goals as goal
use Rattle.pricing_resource_text.proofs.marks.marked_lines.Goals.{After-marked_or_flag-n, then-read, else-read}

-- a line is left
left : (c : After-marked_or_flag-n) → c.loop-i.i < length c.args.out.now
left c = omega (arith, c.loop-i.invariant.long)

-- its value is read within the bounds at its place
is_value : (c : After-marked_or_flag-n) → c.marked_or_flag-n.result ≡ marked_or_flag (eqb c.loop-i.i c.args.flag) (value c.args.lows.now c.loop-i.i) (value c.args.highs.now c.loop-i.i) c.line_value-value.result.now
is_value c =
    let low : SFits w64 (value c.args.lows.now c.loop-i.i) = search rules in
    let high : SFits w64 (value c.args.highs.now c.loop-i.i) = search rules in
    c.marked_or_flag-n.ensures ∙ rw (to_z-of_z low, to_z-of_z high)

pub returns-in_default : goal.returns-in_default
returns-in_default c =
    let n = (goal.at.returns-in_default c).After-marked_or_flag-n in
    marked_stop c.requires c.loop-i.invariant c.piece_end-end.ensures (left n) c.part-key.ensures c.line_value-value.ensures (is_value n) c.in_default.not-Ok c.number_refusal.ensures c.value_fault.ensures

pub overflow_add-marks : goal.overflow_add-marks
overflow_add-marks c = let s = marks_small c.requires c.loop-i.invariant in omega (arith, s.0, s.1)

pub overflow_add-next-in-loop-i-2 : goal.overflow_add-next-in-loop-i-2
overflow_add-next-in-loop-i-2 c =
    let n = (goal.at.overflow_add-next-in-loop-i-2 c).After-marked_or_flag-n in
    omega (arith, marked_fits c.requires c.loop-i.invariant c.piece_end-end.ensures (left n) c.part-key.ensures c.line_value-value.ensures (is_value n) c.in-Ok.is)

pub loop-i-preserved : goal.loop-i-preserved
loop-i-preserved c =
    let n = (goal.at.loop-i-preserved c).After-marked_or_flag-n in
    let fits : SFits w64 c.in-Ok.read.number = search rules in
    let marks : c.if-read.marks ≡ cond c.in-Ok.read.suspect (c.loop-i.marks + c.loop-i.mark) c.loop-i.marks = elim c.if-read.branch [ then-read w ↦ w.marks-is ∙ rw w.if-read.true | else-read w ↦ w.marks-is ∙ rw w.if-read.false ] in
    rw (to_z-of_z fits)
    (marked_more c.requires c.loop-i.invariant c.piece_end-end.ensures (left n) c.part-key.ensures c.line_value-value.ensures (is_value n) c.in-Ok.is (omega arith) marks)

pub returns : goal.returns
returns c = marked_over c.requires c.loop-i.invariant (omega (arith, c.loop-i.invariant.long))
