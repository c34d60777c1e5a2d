use Rattle.std.proofs.Common.{◌≡◌, ◌+◌, cond, get_or, arith}
use Rattle.integer.proofs.Bounds.{abs_fits}
use mir.Facts.{to_z-of_z}
use mir.Syntax.{w64}
use Rattle.text_schema.proofs.Marks.{no_marked}
use Rattle.pricing_held_reading.proofs.Numbers.{number_inside, numbers_laid_none, number_due, numbers_laid_more, marks_small, numbers_laid_all}
use Rattle.pricing_held_reading.proofs.values.lay_numbers.Goals as goal
use Rattle.pricing_held_reading.proofs.values.lay_numbers.Goals.{then-suspect, else-suspect}

pub loop-i-init : goal.loop-i-init
loop-i-init c = λ values last stand. numbers_laid_none c.args.text.now c.args.at c.args.sizes.now values c.args.row.now last stand

pub overflow_add-next : goal.overflow_add-next
overflow_add-next c =
    let so_far = c.loop-i.invariant c.requires.0.0 c.requires.0.1.0 c.requires.0.1.1 in
    omega (arith, number_inside (number_due so_far c.loop-i-test.true).1)

pub number_at-read-requires : goal.number_at-read-requires
number_at-read-requires c =
    let so_far = c.loop-i.invariant c.requires.0.0 c.requires.0.1.0 c.requires.0.1.1 in
    let due = number_due so_far c.loop-i-test.true in
    (_, (due.0, due.1))

pub overflow_add-marks : goal.overflow_add-marks
overflow_add-marks c =
    let so_far = c.loop-i.invariant c.requires.0.0 c.requires.0.1.0 c.requires.0.1.1 in
    omega (arith, marks_small so_far (omega arith) c.requires.2)

pub overflow_mul-mark : goal.overflow_mul-mark
overflow_mul-mark c =
    let so_far = c.loop-i.invariant c.requires.0.0 c.requires.0.1.0 c.requires.0.1.1 in
    omega (arith, marks_small so_far (omega arith) c.requires.2)

pub loop-i-preserved : goal.loop-i-preserved
loop-i-preserved c =
    let added : c.if-suspect.marks ≡ c.loop-i.marks + cond c.number_at-read.result.value.suspect c.loop-i.mark 0 =
    elim c.if-suspect.branch [ then-suspect w ↦ rw w.if-suspect.true w.marks-is | else-suspect w ↦ rw w.if-suspect.false (omega (arith, w.marks-is)) ] in
    λ values last stand.
    let so_far = c.loop-i.invariant values last stand in
    let due = number_due so_far c.loop-i-test.true in
    let number = get_or values c.loop-i.i no_marked in
    let is = c.number_at-read.ensures number due.0 due.1 in
    numbers_laid_more so_far c.loop-i-test.true (omega (arith, c.requires.1)) (rw is) (rw (is, to_z-of_z (abs_fits {w = w64} {z = number.number} (omega (arith, due.1.small))))) (rw is at added)

pub returns : goal.returns
returns c =
    λ values last stand.
    let all = numbers_laid_all (c.loop-i.invariant values last stand) c.loop-i-test.false (omega (arith, c.requires.1)) in
    (rw (all.0, all.1), all.2)
