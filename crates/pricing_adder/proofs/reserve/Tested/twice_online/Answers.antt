use Rattle.std.proofs.Common.{arith}
use Rattle.std.proofs.lemmas.Int.{ints}
use Rattle.pricing_sums.proofs.SumsBounds.{sums_bound}
use Rattle.pricing_adder.proofs.Tested.{online_is}
use Rattle.pricing_adder.proofs.reserve.Tested.twice_online.Goals as goal

pub overflow_add-result : goal.overflow_add-result
overflow_add-result c = let b = sums_bound c.args.self.now.sums c.args.self.now.sums_tested in omega (arith, ints)

pub overflow_mul-result : goal.overflow_mul-result
overflow_mul-result c = let b = sums_bound c.args.self.now.sums c.args.self.now.sums_tested in omega (arith, ints)

pub overflow_add-result-2 : goal.overflow_add-result-2
overflow_add-result-2 c = let b = sums_bound c.args.self.now.sums c.args.self.now.sums_tested in omega (arith, ints)

pub returns-clause-value : goal.returns-clause-value
returns-clause-value c =
    let b = sums_bound c.args.self.now.sums c.args.self.now.sums_tested in
    online_is c.args.self.now.sums _ (omega (arith, ints)) c.twice_loads.ensures.value

pub returns-clause-bound : goal.returns-clause-bound
returns-clause-bound c = let b = sums_bound c.args.self.now.sums c.args.self.now.sums_tested in omega (arith, ints)
