use Rattle.std.proofs.Common.{rules, ◌≡◌, ◌+◌, ◌-◌, ◌<◌, ◌≤◌, suc, length, drop, ◌∙◌, arith, append-nil}
use lib.ListN.{length-set}
use lib.Seq.{take_all}
use Rattle.curve_set.specs.CurveValues.{pairs_of, curves_of}
use Rattle.curve_set.proofs.CurveValues.{pairs_more}
use Rattle.curve_set.proofs.values.curves_of.Goals as goal

pub loop-group-preserved : goal.loop-group-preserved
loop-group-preserved c =
    let loop = c.loop-group in
    let values = c.args.values in
    let inside : loop.group < length loop.pairs = omega (arith, loop.invariant.long, c.loop-group-test.true) in
    let left : 24 - loop.group ≡ suc (24 - (loop.group + 1)) = omega (arith, c.loop-group-test.true) in
    record {
      long = simp length-set loop.invariant.long;
      laid = loop.invariant.laid ∙ rw (left, c.pair_at.ensures) (pairs_more loop.pairs values loop.group (24 - (loop.group + 1)) inside);
    }

pub returns : goal.returns
unfolding pairs_of curves_of
returns c =
    let loop = c.loop-group in
    let over : 24 - loop.group ≡ 0 = omega (arith, c.loop-group-test.false) in
    let full : length loop.pairs ≤ loop.group = omega (arith, loop.invariant.long, c.loop-group-test.false) in
    let pairs : pairs_of 24 (drop 2 c.args.values) ≡ loop.pairs = loop.invariant.laid ∙ rw (over, append-nil, take_all loop.group loop.pairs full) in
    rw (← pairs) (search rules)
