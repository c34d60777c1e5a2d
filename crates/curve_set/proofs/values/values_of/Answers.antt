use Rattle.std.proofs.Common.{rules, ◌≡◌, ◌+◌, ◌*◌, ◌<◌, ◌≤◌, length, sym, ◌∙◌, arith, append-nil}
use lib.ListN.{length-set, drop_of_length-le}
use lib.Seq.{take_all}
use Rattle.curve_set.specs.CurveValues.{curve_values, pair_values}
use Rattle.curve_set.proofs.CurveValues.{values_more}
use Rattle.curve_set.proofs.values.values_of.Goals as goal

pub loop-group-init : goal.loop-group-init
unfolding curve_values
loop-group-init c = search rules

pub loop-group-preserved : goal.loop-group-preserved
loop-group-preserved c =
    let loop = c.loop-group in
    let pairs = c.args.curves.pairs in
    let all : length pairs ≡ 24 = search rules in
    let inside : loop.group < length pairs = omega (arith, all, c.loop-group-test.true) in
    let room : 3 + 2 * loop.group < length loop.values = omega (arith, loop.invariant.long, c.loop-group-test.true) in
    record {
      long = rw c.lay_pair.ensures (simp length-set loop.invariant.long);
      laid = rw c.lay_pair.ensures (loop.invariant.laid ∙ values_more pairs loop.values loop.group inside room);
    }

pub returns : goal.returns
unfolding pair_values
returns c =
    let loop = c.loop-group in
    let pairs = c.args.curves.pairs in
    let all : length pairs ≡ 24 = search rules in
    let over : length pairs ≤ loop.group = omega (arith, all, c.loop-group-test.false) in
    let full : length loop.values ≤ 2 + 2 * loop.group = omega (arith, loop.invariant.long, c.loop-group-test.false) in
    sym (loop.invariant.laid ∙ rw (drop_of_length-le pairs over, append-nil, take_all (2 + 2 * loop.group) loop.values full))
