use borrow.Author.Tests.{le-leb, lt-leb}
use Prim.Native.Nat.{ℕ, ◌+◌, ◌-◌, ◌/◌, ◌%◌}
use mathlib.Core.List.{List, ◌++◌}
use mathlib.Core.Path.{◌≡◌, sym, ap, ◌∙◌}
use native.Mathlib.Omega.{arith}
use lib.IntN.{ℤ, pos}
use lib.ListN.{length, get_or, length-append}
use mir.Facts.{to_z-of_z}
use mir.Syntax.{w64}
use mir.Val.{Fits, SFits}
use Rattle.std.proofs.Common.{rules}
use Rattle.text_number.specs.Number.{written_number}
use Rattle.text_writer.proofs.Counted.{machine_bytes}
use Rattle.text_writer.proofs.MarkedLines.{MarkedPassed, marked_start, marked_values, marked_within, marked_keys, marked_end, marked_next, marked_next_lem, marked_next_length}
use Rattle.text_writer.proofs.room.counted_lines_fit.Goals as goal
use Rattle.text_writer.proofs.room.counted_lines_fit.Goals.{After-number_length}

-- the number that a turn counts
abbrev z : After-number_length → ℤ
z c = get_or c.args.values.now c.loop-z.z-index (pos 0)

fits : (c : After-number_length) → SFits w64 (z c)
fits c = search rules

counted : (c : After-number_length) → c.number_length.result ≡ length (written_number (z c))
counted c = c.number_length.ensures ∙ ap (λ (z : ℤ). length (written_number z)) (to_z-of_z (fits c))

-- the line with it, and how long it is
abbrev line : After-number_length → List ℕ
line c = marked_next c.loop-z.invariant.0 c.piece_end-end.result c.piece_end-end.ensures c.if-end-from.false c.loop-z-test.true

abbrev long : After-number_length → ℕ
long c = c.piece_end-end.result - c.loop-z.from + c.number_length.result + c.loop-z.marks % 2 + 1

line_long : (c : After-number_length) → length (line c) ≡ long c
line_long c = omega (arith, counted c, marked_next_length c.loop-z.invariant.0 c.piece_end-end.result c.piece_end-end.ensures c.if-end-from.false c.loop-z-test.true)

passed : (c : After-number_length) →
    (next : MarkedPassed c.args.keys.now c.args.values.now c.args.marks c.piece_end-end.result (c.loop-z.z-index + 1) (c.loop-z.marks / 2)) × (next.done ≡ c.loop-z.invariant.0.done ++ line c)
passed c = marked_next_lem c.loop-z.invariant.0 c.piece_end-end.result c.piece_end-end.ensures c.if-end-from.false c.loop-z-test.true

longer : (c : After-number_length) → length (passed c).0.done ≡ length c.loop-z.invariant.0.done + long c
longer c = omega (arith, line_long c, ap length (passed c).1, length-append c.loop-z.invariant.0.done (line c))

fitting : (c : After-number_length) → Fits w64 (c.piece_end-end.result - c.loop-z.from + c.number_length.result + 2)
fitting c = omega (arith, counted c, machine_bytes (fits c), marked_end c.loop-z.invariant.0 c.piece_end-end.result c.piece_end-end.ensures, c.well_formed)

pub loop-z-init : goal.loop-z-init
loop-z-init c = (marked_start _ _ _, omega arith)

pub returns-then-end-from : goal.returns-then-end-from
returns-then-end-from c =
    sym (le-leb _ c.args.room (omega (arith, c.loop-z.invariant.1, ap length (marked_keys c.loop-z.invariant.0 c.piece_end-end.result c.piece_end-end.ensures c.if-end-from.true))))

pub overflow_add-line : goal.overflow_add-line
overflow_add-line c = omega (arith, fitting (goal.at.overflow_add-line c).After-number_length)

pub overflow_add-line-in-loop-z : goal.overflow_add-line-in-loop-z
overflow_add-line-in-loop-z c = omega (arith, fitting (goal.at.overflow_add-line-in-loop-z c).After-number_length)

pub overflow_add-line-in-loop-z-2 : goal.overflow_add-line-in-loop-z-2
overflow_add-line-in-loop-z-2 c = omega (arith, fitting (goal.at.overflow_add-line-in-loop-z-2 c).After-number_length)

pub returns-then-room-line : goal.returns-then-room-line
returns-then-room-line c =
    let n = (goal.at.returns-then-room-line c).After-number_length in
    sym (lt-leb _ c.args.room (omega (arith, c.loop-z.invariant.1, longer n, marked_within (passed n).0)))

pub loop-z-preserved : goal.loop-z-preserved
loop-z-preserved c =
    let n = (goal.at.loop-z-preserved c).After-number_length in
    ((passed n).0, omega (arith, c.loop-z.invariant.1, longer n))

pub returns : goal.returns
returns c = sym (le-leb _ c.args.room (omega (arith, c.loop-z.invariant.1, ap length (marked_values c.loop-z.invariant.0 c.loop-z-test.false))))
