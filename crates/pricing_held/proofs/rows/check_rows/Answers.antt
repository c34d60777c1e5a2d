use Rattle.std.proofs.Common.{refl, rules, arith}
use Rattle.pricing_held.proofs.RowsChecks.{rows_over, rows_stop, rows_next}
use Rattle.pricing_held.proofs.rows.check_rows.Goals as goal

pub returns-in_err-check_row : goal.returns-in_err-check_row
returns-in_err-check_row c =
    let refused = rows_stop c.loop-i.invariant c.loop-i-test.true refl c.check_row.ensures c.in_err-check_row.was in
    search rules

pub loop-i-preserved : goal.loop-i-preserved
loop-i-preserved c = rows_next c.loop-i.invariant c.loop-i-test.true refl c.check_row.ensures c.in_ok-check_row.was c.row_lines-line.ensures (omega (arith, c.told-rows c.loop-i.i c.loop-i-test.true)) c.check_row.auto.starts

pub returns : goal.returns
returns c = rows_over c.loop-i.invariant c.loop-i-test.false
