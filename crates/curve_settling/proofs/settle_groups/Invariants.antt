-- The groups left decide, and the pairs of the groups passed stand.
use Rattle.std.proofs.Common.{◌≡◌, ◌≤◌, length, take, drop, map}
use Rattle.curve_record.specs.Record.{all_groups}
use Rattle.curve_settling.specs.Settle.{pair_of, settled_groups}
use Rattle.curve_settling.proofs.settle_groups.Given as goal

abbrev pub invariant-loop-i : goal.invariant-loop-i
invariant-loop-i l = record {
  turns : l.i ≤ 24;
  long : length l.pairs ≡ 24;
  left : settled_groups 0 (all_groups l.fn.history) ≡ settled_groups l.i (drop l.i (all_groups l.fn.history));
  made : take l.i l.pairs ≡ take l.i (map pair_of (all_groups l.fn.history));
}
