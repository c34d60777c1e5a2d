-- The rows passed are laid.
use Rattle.text_writer.specs.Write.{TextLaid}
use Rattle.pricing_held_text.proofs.RowTexts.{RowsPassed}
use Rattle.pricing_held_text.proofs.rows.put_rows.Given as goal

abbrev pub invariant-loop-i : goal.invariant-loop-i
invariant-loop-i l = (passed : RowsPassed l.ids l.rows l.i) × TextLaid passed.done l.initial.buffer l.at l.buffer l.next
