use Rattle.std.proofs.Common.{arith, rules, ◌≡◌, ◌+◌, ◌*◌, ◌<◌, ◌≤◌, length, length-set, get_or, append-nil, take_all, sym, ◌∙◌}
use Rattle.std.proofs.Math.ListN.{drop_of_length-le}
use Rattle.curve_record.specs.Record.{no_hours}
use Rattle.curve_record.proofs.RecordGroups.{group_held}
use Rattle.curve_record.proofs.PossibleGroups.{possible_at, possible_is}
use Rattle.ordc.specs.Record.{group_values}
use Rattle.ordc.proofs.Groups.{values_more}
use Rattle.ordc.proofs.layout.record_values.Goals as goal

pub lay_group-requires : goal.lay_group-requires
lay_group-requires c =
    let i = c.loop-i.i in
    let few = (possible_is (get_or c.args.history.groups i no_hours) (rw (group_held c.args.history i) at (possible_at c.args.history c.requires i (omega arith)))).small.count in
    (omega arith, few)

pub loop-i-preserved : goal.loop-i-preserved
loop-i-preserved c =
    let whole : length c.args.history.groups ≡ 24 = search rules in
    let inside : c.loop-i.i < length c.args.history.groups = omega arith in
    let room : 3 * c.loop-i.i + 2 < length c.loop-i.values = omega (arith, c.loop-i.invariant.long) in
    record {
      long = rw c.lay_group.ensures (simp length-set c.loop-i.invariant.long);
      values = rw c.lay_group.ensures (c.loop-i.invariant.values ∙ values_more c.args.history.groups c.loop-i.values c.loop-i.i inside room);
    }

pub returns : goal.returns
unfolding group_values
returns c =
    let groups = c.args.history.groups in
    let whole : length c.args.history.groups ≡ 24 = search rules in
    let over : length c.args.history.groups ≤ c.loop-i.i = omega arith in
    let full : length c.loop-i.values ≤ 3 * c.loop-i.i = omega (arith, c.loop-i.invariant.long) in
    sym (c.loop-i.invariant.values ∙ rw (drop_of_length-le groups over, append-nil, take_all (3 * c.loop-i.i) c.loop-i.values full))
