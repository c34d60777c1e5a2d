use Rattle.std.proofs.Common.{arith, ◌≡◌, ◌+◌, ◌-◌, ◌<◌, ◌≤◌, suc, length, length-set, append-nil, take_all, ◌∙◌}
use Rattle.ordc.specs.Record.{groups_of}
use Rattle.ordc.proofs.Groups.{groups_more}
use Rattle.ordc.proofs.layout.record_of.Goals as goal

pub loop-i-preserved : goal.loop-i-preserved
loop-i-preserved c =
    let inside : c.loop-i.i < length c.loop-i.groups = omega (arith, c.loop-i.invariant.long) in
    let left : 24 - c.loop-i.i ≡ suc (24 - (c.loop-i.i + 1)) = omega arith in
    record {
      long = simp length-set c.loop-i.invariant.long;
      groups = rw c.group_at.ensures (c.loop-i.invariant.groups ∙ rw left (groups_more c.loop-i.groups c.args.values.now c.loop-i.i (24 - (c.loop-i.i + 1)) inside));
    }

pub returns : goal.returns
unfolding groups_of
returns c =
    let over : 24 - c.loop-i.i ≡ 0 = omega arith in
    let full : length c.loop-i.groups ≤ c.loop-i.i = omega (arith, c.loop-i.invariant.long) in
    let groups : groups_of 24 c.args.values.now ≡ c.loop-i.groups = c.loop-i.invariant.groups ∙ rw (over, append-nil, take_all c.loop-i.i c.loop-i.groups full) in
    rw (← groups)
