-- The rows checked so far, their ids in the table, and what is left.
use Rattle.pricing_held.proofs.RowsChecks.{RowsUnderWay}
use Rattle.pricing_held.proofs.rows.check_rows.Given as goal

abbrev pub invariant-loop-i : goal.invariant-loop-i
invariant-loop-i l = RowsUnderWay l.ids l.rows l.initial.starts l.starts l.line l.i
