use Rattle.std.proofs.Common.{arith, rules, FitsSigned, w64}
use Rattle.std.proofs.lemmas.Int.{ints, clamps}
use mir.Facts.{to_z-of_z}
use Rattle.pricing_sums.proofs.Headers.{header_bound}
use Rattle.pricing_adder.proofs.Bounds.{curves_bound, value_bound}
use Rattle.pricing_adder.proofs.Tested.{value_is}
use Rattle.pricing_adder.proofs.reserve.Tested.value.Goals as goal

pub overflow_sub-self : goal.overflow_sub-self
overflow_sub-self c = let a = curves_bound c.args.self.now.curves c.args.self.now.curves_tested in let b = header_bound c.args.self.now.header c.args.self.now.header_tested in omega (arith, ints)

pub returns-clause-value : goal.returns-clause-value
returns-clause-value c =
    let fits : FitsSigned w64 c.max.result = search rules in
    let a = curves_bound c.args.self.now.curves c.args.self.now.curves_tested in let b = header_bound c.args.self.now.header c.args.self.now.header_tested in
    value_is c.args.self.now.curves c.args.self.now.header _ {top = c.max.result} (omega (arith, ints, clamps)) (rw (to_z-of_z fits) at c.magnitude.ensures)

pub returns-clause-bound : goal.returns-clause-bound
returns-clause-bound c =
    let fits : FitsSigned w64 c.max.result = search rules in
    let a = curves_bound c.args.self.now.curves c.args.self.now.curves_tested in let b = header_bound c.args.self.now.header c.args.self.now.header_tested in
    rw (value_is c.args.self.now.curves c.args.self.now.header _ {top = c.max.result} (omega (arith, ints, clamps)) (rw (to_z-of_z fits) at c.magnitude.ensures)) (value_bound a b)
