-- The bytes of the rows passed are counted.
use Rattle.std.proofs.Common.{◌≡◌, ◌≤◌, ◌*◌, length}
use Rattle.pricing_held_text.proofs.RowTexts.{RowsPassed}
use Rattle.pricing_held_text.proofs.rows.rows_length.Given as goal

abbrev pub invariant-loop-i : goal.invariant-loop-i
invariant-loop-i l = (passed : RowsPassed l.ids l.rows l.i) × (l.total ≡ length passed.done) × (l.total ≤ 256 * l.i)
