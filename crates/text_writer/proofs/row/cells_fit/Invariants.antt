-- What is left of the room and the cells passed are the room.
use Rattle.std.proofs.Common.{◌≡◌, ◌+◌, length}
use Rattle.std.specs.Iterator.Adapters.{zip_first, zip_second}
use Rattle.std.specs.Slice.Iter.{iter_rest}
use Rattle.text_writer.proofs.Rows.{CellsPassed}
use Rattle.text_writer.proofs.row.cells_fit.Given as goal

abbrev pub invariant-loop-width : goal.invariant-loop-width
invariant-loop-width l = (passed : CellsPassed l.widths l.values (iter_rest (zip_first l.width-iterator)) (iter_rest (zip_second l.width-iterator))) × (l.room + length passed.done ≡ l.fn.room)
