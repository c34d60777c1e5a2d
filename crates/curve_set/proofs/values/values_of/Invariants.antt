-- The values so far, and then those of the pairs that are left, are the values of the set.
use Rattle.std.proofs.Common.{◌≡◌, ◌+◌, ◌*◌, ◌++◌, length, take, drop}
use Rattle.curve_set.specs.CurveValues.{curve_values, pair_values}
use Rattle.curve_set.proofs.values.values_of.Given as goal

abbrev pub invariant-loop-group : goal.invariant-loop-group
invariant-loop-group l = record {
  long : length l.values ≡ 50;
  laid : curve_values l.fn.curves ≡ take (2 + 2 * l.group) l.values ++ pair_values (drop l.group l.fn.curves.pairs);
}
