-- The cells passed are laid.
use Rattle.std.specs.Iterator.Adapters.{zip_first, zip_second}
use Rattle.std.specs.Slice.Iter.{iter_rest}
use Rattle.text_writer.specs.Write.{TextLaid}
use Rattle.text_writer.proofs.Rows.{CellsPassed}
use Rattle.text_writer.proofs.row.put_cells.Given as goal

abbrev pub invariant-loop-width : goal.invariant-loop-width
invariant-loop-width l = (passed : CellsPassed l.widths l.values (iter_rest (zip_first l.width-iterator)) (iter_rest (zip_second l.width-iterator))) × TextLaid passed.done l.fn.buffer l.fn.at l.buffer l.at
