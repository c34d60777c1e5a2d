-- What is left of the room and the lines passed are the room.
use Rattle.std.proofs.Common.{◌≡◌, ◌+◌, length}
use Rattle.text_writer.proofs.MarkedLines.{MarkedPassed}
use Rattle.text_writer.proofs.room.counted_lines_fit.Given as goal

abbrev pub invariant-loop-z : goal.invariant-loop-z
invariant-loop-z l = (passed : MarkedPassed l.keys l.values l.fn.marks l.from l.z-index l.marks) × (l.room + length passed.done ≡ l.fn.room)
