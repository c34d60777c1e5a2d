-- The first bytes are laid.
use Rattle.std.proofs.Common.{◌≡◌, take}
use Rattle.text_writer.specs.Write.{laid_at}
use Rattle.text_writer.proofs.put_bytes.Given as goal

abbrev pub invariant-loop-i : goal.invariant-loop-i
invariant-loop-i l = l.buffer ≡ laid_at l.fn.buffer l.at (take l.i l.bytes)
