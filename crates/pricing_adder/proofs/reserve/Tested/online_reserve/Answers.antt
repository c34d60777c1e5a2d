use Rattle.std.proofs.Common.{arith, rules, FitsSigned, w64, ◌∙◌}
use Rattle.std.proofs.lemmas.Int.{ints}
use mir.Facts.{to_z-of_z}
use Rattle.pricing_adder.specs.Reserve.{online_reserve}
use Rattle.pricing_adder.proofs.reserve.Tested.online_reserve.Goals as goal

pub discounted-requires : goal.discounted-requires
discounted-requires c = omega (arith, ints)

pub returns : goal.returns
unfolding online_reserve
returns c =
    let twice : FitsSigned w64 c.twice_online.result = search rules in
    let fits : FitsSigned w64 c.discounted.result = search rules in
    to_z-of_z fits ∙ c.discounted.ensures ∙ rw (to_z-of_z twice, c.twice_online.ensures.value)
