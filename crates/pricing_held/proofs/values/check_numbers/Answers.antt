use Rattle.std.proofs.Common.{◌≡◌, true, false, get_or, pos, rules}
use Rattle.integer.specs.Range.{within}
use Rattle.pricing_held.proofs.Numbers.{numbers_outside, numbers_more, numbers_over}
use Rattle.pricing_held.proofs.values.check_numbers.Goals as goal

pub returns-then-not-is_within : goal.returns-then-not-is_within
returns-then-not-is_within c =
    let i = c.loop-i.i in
    let outside : within (get_or c.args.lows.now i (pos 0)) (get_or c.args.highs.now i (pos 0)) (get_or c.args.values.now i (pos 0)) ≡ false = search rules in
    numbers_outside c.loop-i.invariant c.loop-i-test.true outside

pub loop-i-preserved : goal.loop-i-preserved
loop-i-preserved c =
    let i = c.loop-i.i in
    let inside : within (get_or c.args.lows.now i (pos 0)) (get_or c.args.highs.now i (pos 0)) (get_or c.args.values.now i (pos 0)) ≡ true = search rules in
    numbers_more c.loop-i.invariant c.loop-i-test.true inside

pub returns : goal.returns
returns c = numbers_over c.loop-i.invariant c.loop-i-test.false
