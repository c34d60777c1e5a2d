-- the quotient lies from `low` on and below `high`
use Rattle.std.proofs.Common.{◌≡◌, ◌-◌, ◌*◌, ◌+◌, ◌≤◌, ◌<◌}
use Rattle.normal.proofs.lookup.bisected.Given as goal

abbrev pub invariant-loop-low : goal.invariant-loop-low
invariant-loop-low l = (l.product ≡ l.step * l.rest) × ((l.low * l.denominator ≤ l.product) × ((l.product < l.high * l.denominator) × (l.high ≤ l.step + 1)))

abbrev pub decreases-loop-low : goal.decreases-loop-low
decreases-loop-low l = l.high - l.low
