use Rattle.std.proofs.Common.{◌≤◌, refl, arith}
use Rattle.pricing_resource.proofs.Suspects.{place_few}
use Rattle.pricing_held.proofs.Suspects.{suspects_over, suspects_stop, suspects_next}
use Rattle.pricing_held.proofs.suspect.suspect_line.Goals as goal

pub overflow_add-result : goal.overflow_add-result
overflow_add-result c =
    let few : c.row_place-place.result ≤ 9 = rw c.row_place-place.ensures (place_few _) in
    omega arith

pub returns-then-place-ne0 : goal.returns-then-place-ne0
returns-then-place-ne0 c = suspects_stop c.loop-values.invariant c.loop-values-test.true refl c.row_place-place.ensures c.if-place-ne0.true

pub loop-values-preserved : goal.loop-values-preserved
loop-values-preserved c = suspects_next c.loop-values.invariant c.loop-values-test.true refl c.row_place-place.ensures c.if-place-ne0.false c.row_lines-before.ensures

pub returns : goal.returns
returns c = suspects_over c.loop-values.invariant c.loop-values-test.false
