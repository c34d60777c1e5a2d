use Rattle.std.proofs.Common.{arith, rules, FitsSigned, w64, ap, ◌∙◌}
use Rattle.std.proofs.lemmas.Int.{ints}
use mir.Facts.{to_z-of_z}
use Rattle.pricing_sums.proofs.SumsBounds.{sums_bound}
use Rattle.pricing_adder.specs.Reserve.{discounted, total_reserve}
use Rattle.pricing_adder.proofs.Tested.{all_is}
use Rattle.pricing_adder.proofs.reserve.Tested.total_reserve.Goals as goal

pub returns-then-self : goal.returns-then-self
unfolding total_reserve
returns-then-self c =
    let prc : FitsSigned w64 c.args.self.now.header.prc = search rules in
    let eea1 : FitsSigned w64 c.args.self.now.header.eea1 = search rules in
    let fits : FitsSigned w64 c.online_reserve.result = search rules in
    rw (rw (to_z-of_z prc, to_z-of_z eea1) at c.if-self.true) (to_z-of_z fits ∙ c.online_reserve.ensures)

pub overflow_mul-self : goal.overflow_mul-self
overflow_mul-self c = let b = sums_bound c.args.self.now.sums c.args.self.now.sums_tested in omega (arith, ints)

pub overflow_add-twice_online : goal.overflow_add-twice_online
overflow_add-twice_online c = let b = sums_bound c.args.self.now.sums c.args.self.now.sums_tested in omega (arith, ints)

pub discounted-requires : goal.discounted-requires
discounted-requires c = let b = sums_bound c.args.self.now.sums c.args.self.now.sums_tested in omega (arith, ints)

pub returns : goal.returns
unfolding total_reserve
returns c =
    let prc : FitsSigned w64 c.args.self.now.header.prc = search rules in
    let eea1 : FitsSigned w64 c.args.self.now.header.eea1 = search rules in
    let fits : FitsSigned w64 c.discounted.result = search rules in
    let b = sums_bound c.args.self.now.sums c.args.self.now.sums_tested in
    rw (rw (to_z-of_z prc, to_z-of_z eea1) at c.if-self.false)
    (to_z-of_z fits ∙ c.discounted.ensures ∙ ap (discounted c.args.self.now.header) (all_is c.args.self.now.sums _ (omega (arith, ints)) c.twice_online.ensures.value))
