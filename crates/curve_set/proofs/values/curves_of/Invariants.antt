-- The pairs so far, and then those of the values that are left, are the pairs of the values.
use Rattle.std.proofs.Common.{◌-◌, ◌≡◌, ◌+◌, ◌*◌, ◌++◌, length, take, drop}
use Rattle.curve_set.specs.CurveValues.{pairs_of}
use Rattle.curve_set.proofs.values.curves_of.Given as goal

abbrev pub invariant-loop-group : goal.invariant-loop-group
invariant-loop-group l = record {
  long : length l.pairs ≡ 24;
  laid : pairs_of 24 (drop 2 l.fn.values) ≡ take l.group l.pairs ++ pairs_of (24 - l.group) (drop (2 + 2 * l.group) l.fn.values);
}
