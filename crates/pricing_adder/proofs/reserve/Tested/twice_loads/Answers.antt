use Rattle.std.proofs.Common.{arith, rules, FitsSigned, w64, pos, ◌*ℤ◌, ◌∙◌}
use Rattle.std.proofs.lemmas.Int.{ints, clamps}
use mir.Facts.{to_z-of_z}
use Rattle.pricing_sums.proofs.SumsBounds.{sums_bound}
use Rattle.pricing_adder.proofs.Bounds.{loads_bound}
use Rattle.pricing_adder.proofs.Tested.{loads_is}
use Rattle.pricing_adder.proofs.reserve.Tested.twice_loads.Goals as goal

pub overflow_mul-max : goal.overflow_mul-max
overflow_mul-max c = let b = sums_bound c.args.self.now.sums c.args.self.now.sums_tested in omega (arith, ints, clamps)

pub overflow_mul-self : goal.overflow_mul-self
overflow_mul-self c = let b = sums_bound c.args.self.now.sums c.args.self.now.sums_tested in omega (arith, ints)

pub returns : goal.returns
returns c =
    let b = sums_bound c.args.self.now.sums c.args.self.now.sums_tested in
    let validated : FitsSigned w64 c.args.self.now.sums.validated = search rules in
    let responsive : FitsSigned w64 c.args.self.now.sums.responsive = search rules in
    let net : FitsSigned w64 c.max.result = search rules in
    let loads : FitsSigned w64 c.min.result = search rules in
    let twice : FitsSigned w64 (pos 2 *ℤ c.max.result) = omega (arith, ints, clamps) in
    let cap : FitsSigned w64 (pos 3 *ℤ c.args.self.now.sums.responsive) = omega (arith, ints) in
    let is = to_z-of_z loads ∙ loads_is c.args.self.now.sums (rw (to_z-of_z validated) at c.max.ensures.value)
    (rw (to_z-of_z net, to_z-of_z twice, to_z-of_z responsive, to_z-of_z cap) at c.min.ensures.value) in
    record { value = is; bound = rw is (loads_bound b) }
