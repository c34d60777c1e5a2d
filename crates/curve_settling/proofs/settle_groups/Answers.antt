use Rattle.std.specs.Prelude.{Ok}
use Rattle.std.proofs.Common.{◌≡◌, ◌≤◌, arith, sym, ap, ◌∙◌, length, map, to_z-of_z}
use lib.ListN.{length-map, length-set, drop_of_length-le}
use lib.Seq.{take_all}
use mir.Syntax.{w64}
use mir.Val.{of_z}
use Rattle.curve_record.specs.Record.{all_groups}
use Rattle.curve_record.proofs.RecordGroups.{group_held, all_groups-length}
use Rattle.curve_record.proofs.PossibleGroups.{possible_at}
use Rattle.curve_record.proofs.Turns.{passed, turn_within, turns_over}
use Rattle.curve_set.specs.declared.Pair.{Pair}
use Rattle.curve_settling.specs.Settle.{spread_of, pair_of, settled_groups}
use Rattle.curve_settling.proofs.Turn.{held, flat, fine, pair_more}
use Rattle.curve_settling.proofs.settle_groups.Goals as goal

pub pair_of-pair-requires-clause-g_value : goal.pair_of-pair-requires-clause-g_value
pair_of-pair-requires-clause-g_value c = rw group_held at (possible_at c.args.history c.requires c.loop-i.i c.loop-i-test.true)

pub returns-then-pair-eq0 : goal.returns-then-pair-eq0
unfolding pair_of
returns-then-pair-eq0 c =
    let history = c.args.history in
    let i = c.loop-i.i in
    let enough : 2 ≤ (held history i).count = omega arith in
    let none : spread_of (held history i) ≡ 0 = sym (ap (λ (pair : Pair). of_z w64 pair.spread) c.pair_of-pair.ensures) ∙ c.if-pair-eq0.true in
    c.refused_curves-then-pair-eq0.ensures ∙ flat history c.args.voll c.args.floor i c.loop-i-test.true c.loop-i.invariant.left enough none

pub loop-i-preserved : goal.loop-i-preserved
unfolding pair_of
loop-i-preserved c =
    let history = c.args.history in
    let loop = c.loop-i in
    let inside = turn_within c.loop-i-test.true loop.invariant.long in
    let enough : 2 ≤ (held history loop.i).count = omega arith in
    let some : spread_of (held history loop.i) ≡ 0 → ⊥ = λ none. c.if-pair-eq0.false (ap (λ (pair : Pair). of_z w64 pair.spread) c.pair_of-pair.ensures ∙ none) in
    record {
      turns = passed c.loop-i-test.true;
      long = length-set loop.pairs loop.i c.pair_of-pair.result ∙ loop.invariant.long;
      left = fine history loop.i c.loop-i-test.true loop.invariant.left enough some;
      made = rw c.pair_of-pair.ensures (pair_more history loop.pairs loop.i c.loop-i-test.true inside loop.invariant.made);
    }

pub returns : goal.returns
unfolding settled_groups
returns c =
    let loop = c.loop-i in
    let groups = all_groups c.args.history in
    let last = turns_over c.loop-i-test.false (all_groups-length c.args.history) in
    let short = turns_over c.loop-i-test.false loop.invariant.long in
    let mapped : length (map pair_of groups) ≤ loop.i = rw (length-map groups pair_of) last in
    let pairs : loop.pairs ≡ map pair_of groups = sym (take_all loop.i loop.pairs short) ∙ loop.invariant.made ∙ take_all loop.i (map pair_of groups) mapped in
    let accepted : settled_groups 0 groups ≡ Ok tt = loop.invariant.left ∙ rw (drop_of_length-le groups last) in
    rw (accepted, to_z-of_z c.ranges.voll, to_z-of_z c.ranges.floor, pairs)
