-- The groups so far, and then those of the numbers that are left, are the groups of the numbers.
use Rattle.std.proofs.Common.{◌≡◌, ◌++◌, ◌-◌, ◌*◌, length, take, drop}
use Rattle.ordc.specs.Record.{groups_of}
use Rattle.ordc.proofs.layout.record_of.Given as goal

abbrev pub invariant-loop-i : goal.invariant-loop-i
invariant-loop-i l = record {
  long : length l.groups ≡ 24;
  groups : groups_of 24 l.values ≡ take l.i l.groups ++ groups_of (24 - l.i) (drop (3 * l.i) l.values);
}
