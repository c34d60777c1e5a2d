-- The numbers so far, and then those of the groups that are left, are the numbers of the record.
use Rattle.std.proofs.Common.{◌≡◌, ◌++◌, ◌*◌, length, take, drop}
use Rattle.ordc.specs.Record.{group_values}
use Rattle.ordc.proofs.layout.record_values.Given as goal

abbrev pub invariant-loop-i : goal.invariant-loop-i
invariant-loop-i l = record {
  long : length l.values ≡ 72;
  values : group_values l.history.groups ≡ take (3 * l.i) l.values ++ group_values (drop l.i l.history.groups);
}
