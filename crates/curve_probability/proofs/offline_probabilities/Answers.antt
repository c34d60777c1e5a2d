use Rattle.std.proofs.Common.{◌<◌, ◌≤◌, length, ℕ, pos, get_or, arith, rules, ap, ◌∙◌, to_z, of_z, w32}
use Rattle.std.proofs.lemmas.List.{take_more_set, map_more, take_all}
use mir.Facts.{to_z-of_z}
use Rattle.curve_probability.specs.Probability.{offline_probability, offline_probabilities}
use Rattle.curve_probability.specs.internal.Distance.{left_of_one}
use Rattle.curve_probability.proofs.Distance.{at_place, left_is, each_at_most}
use Rattle.curve_probability.proofs.offline_probabilities.Goals as goal

pub left_of_one-requires : goal.left_of_one-requires
left_of_one-requires c = each_at_most _ c.args.spread c.distributions-values.ensures _

pub loop-i-preserved : goal.loop-i-preserved
loop-i-preserved c =
    let inside : c.loop-i.i < length c.loop-i.probabilities = omega arith in
    let given : c.loop-i.i < length c.args.above = omega arith in
    let value = c.left_of_one.ensures ∙ ap (left_of_one (get_or c.args.above c.loop-i.i 0)) (at_place c.args.above _ c.args.spread c.numerators_above.ensures c.distributions-values.ensures c.loop-i.i given) ∙ left_is _ _ _ in
    (search rules, rw (take_more_set, map_more (λ (distance : ℕ). offline_probability (pos distance) (pos 0) (to_z w32 (of_z w32 c.args.mean)) c.args.spread) c.args.above c.loop-i.i 0) cc)

pub returns : goal.returns
unfolding offline_probabilities
returns c =
    let all : length c.loop-i.probabilities ≤ c.loop-i.i = omega arith in
    let given : length c.args.above ≤ c.loop-i.i = omega arith in
    simp (to_z-of_z c.ranges.mean, take_all c.loop-i.i c.loop-i.probabilities all, take_all c.loop-i.i c.args.above given) at c.loop-i.invariant.1
