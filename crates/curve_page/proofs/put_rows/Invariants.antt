-- The rows of the groups passed are laid.
use Rattle.std.proofs.Common.{◌≡◌, take, pos}
use Rattle.text_writer.specs.Write.{laid_at}
use Rattle.curve_page.specs.Page.{page_rows}
use Rattle.curve_page.proofs.put_rows.Given as goal

abbrev pub invariant-loop-group : goal.invariant-loop-group
invariant-loop-group l = l.buffer ≡ laid_at l.fn.buffer 0 (page_rows (pos 0) 0 (take l.group l.fn.curves.pairs))
