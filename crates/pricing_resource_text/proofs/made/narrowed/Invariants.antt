use Rattle.std.proofs.Common.{◌≡◌, length}
use lib.ListN.{take}
use Rattle.pricing_resource_text.proofs.made.narrowed.Given as goal

abbrev pub invariant-loop-i : goal.invariant-loop-i
invariant-loop-i g l = (length l.out ≡ g.row.N) × (take l.i l.out ≡ take l.i l.v)
