-- The first bytes of the id stand, and zeros behind them.
use Rattle.std.proofs.Common.{◌≡◌, ◌-◌, ◌++◌, take, replicate}
use Rattle.pricing_held_reading.proofs.rows.put_id.Given as goal

abbrev pub invariant-loop-i : goal.invariant-loop-i
invariant-loop-i l = l.row ≡ take l.i l.id ++ replicate (32 - l.i) 0
