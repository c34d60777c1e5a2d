-- The lines passed are laid.
use Rattle.text_writer.specs.Write.{TextLaid}
use Rattle.text_writer.proofs.MarkedLines.{MarkedPassed}
use Rattle.text_writer.proofs.marked.put_lines.Given as goal

abbrev pub invariant-loop-z : goal.invariant-loop-z
invariant-loop-z l = (passed : MarkedPassed l.keys l.values l.fn.marks l.from l.z-index l.marks) × TextLaid passed.done l.fn.buffer l.fn.at l.buffer l.at
