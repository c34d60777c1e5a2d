use Rattle.std.proofs.Common.{rules, ◌≡◌, ◌≤◌, length, get_or, arith, ℤ, pos}
use mir.Syntax.{w64}
use mir.Val.{SFits}
use mir.Facts.{to_z-of_z}
use Rattle.text_number.specs.Number.{written_number}
use Rattle.text_writer.proofs.Counted.{bytes_over, bytes_next, machine_bytes}
use Rattle.curve_text.proofs.length.numbers_length.Goals as goal
use Rattle.curve_text.proofs.length.numbers_length.Goals.{After-number_length-length}

-- the number that a turn counts, and how many bytes it has
abbrev z : After-number_length-length → ℤ
z c = get_or c.args.values.now c.loop-value.value-index (pos 0)

fits : (c : After-number_length-length) → SFits w64 (z c)
fits c = search rules

counted : (c : After-number_length-length) → c.number_length-length.result ≡ length (written_number (z c))
counted c = rw (to_z-of_z (fits c)) at c.number_length-length.ensures

few : (c : After-number_length-length) → c.number_length-length.result ≤ 20
few c = omega (arith, counted c, machine_bytes (fits c))

pub overflow_add-length : goal.overflow_add-length
overflow_add-length c = omega (arith, few ((goal.at.overflow_add-length c).After-number_length-length), c.loop-value.invariant.few)

pub loop-value-preserved : goal.loop-value-preserved
loop-value-preserved c =
    let n = (goal.at.loop-value-preserved c).After-number_length-length in
    record {
      few = omega (arith, few n);
      counted = omega (arith, counted n, bytes_next c.args.values.now c.loop-value.value-index c.loop-value-test.true);
    }

pub returns-clause-counted : goal.returns-clause-counted
returns-clause-counted c = omega (arith, bytes_over c.args.values.now c.loop-value.value-index c.loop-value-test.false)
