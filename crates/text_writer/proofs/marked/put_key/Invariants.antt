-- No mark stands among the first `i` bytes, which are laid. The measure is what is left of the keys.
use Rattle.std.proofs.Common.{◌≡◌, ◌-◌, length, take}
use Rattle.text_line.proofs.Pieces.{Unmarked}
use Rattle.text_writer.specs.Write.{laid_at}
use Rattle.text_writer.proofs.marked.put_key.Given as goal

abbrev pub invariant-loop-i : goal.invariant-loop-i
invariant-loop-i l = Unmarked 61 l.keys 0 l.i × (l.buffer ≡ laid_at l.fn.buffer l.at (take l.i l.keys))

abbrev pub decreases-loop-i : goal.decreases-loop-i
decreases-loop-i l = length l.keys - l.i
