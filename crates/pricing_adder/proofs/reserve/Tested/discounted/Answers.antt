use Rattle.std.proofs.Common.{rules, FitsSigned, w64, ◌∙◌}
use mir.Facts.{to_z-of_z}
use Rattle.pricing_sums.proofs.Headers.{header_bound}
use Rattle.pricing_adder.specs.Reserve.{discounted}
use Rattle.pricing_adder.proofs.Tested.{share_fits, short_fits, rest_fits}
use Rattle.pricing_adder.proofs.reserve.Tested.discounted.Goals as goal

pub overflow_mul-self : goal.overflow_mul-self
overflow_mul-self c =
    let factor : FitsSigned w64 c.args.self.now.header.factor = search rules in
    let b = header_bound c.args.self.now.header c.args.self.now.header_tested in
    rw (to_z-of_z factor, to_z-of_z c.ranges.twice) (share_fits c.args.self.now.header c.args.twice b c.requires)

pub overflow_mul-self-2 : goal.overflow_mul-self-2
overflow_mul-self-2 c =
    let short : FitsSigned w64 c.args.self.now.header.short = search rules in
    let b = header_bound c.args.self.now.header c.args.self.now.header_tested in
    rw (to_z-of_z short) (short_fits c.args.self.now.header c.args.twice b c.requires)

pub overflow_sub-self : goal.overflow_sub-self
overflow_sub-self c =
    let factor : FitsSigned w64 c.args.self.now.header.factor = search rules in
    let short : FitsSigned w64 c.args.self.now.header.short = search rules in
    let b = header_bound c.args.self.now.header c.args.self.now.header_tested in
    rw (to_z-of_z factor, to_z-of_z c.ranges.twice, to_z-of_z (share_fits c.args.self.now.header c.args.twice b c.requires), to_z-of_z short, to_z-of_z (short_fits c.args.self.now.header c.args.twice b c.requires)) (rest_fits c.args.self.now.header c.args.twice b c.requires)

pub returns : goal.returns
unfolding discounted
returns c =
    let factor : FitsSigned w64 c.args.self.now.header.factor = search rules in
    let short : FitsSigned w64 c.args.self.now.header.short = search rules in
    let fits : FitsSigned w64 c.floor_div.result = search rules in
    let b = header_bound c.args.self.now.header c.args.self.now.header_tested in
    to_z-of_z fits ∙ c.floor_div.ensures
    ∙ rw (to_z-of_z factor, to_z-of_z c.ranges.twice, to_z-of_z (share_fits c.args.self.now.header c.args.twice b c.requires), to_z-of_z short, to_z-of_z (short_fits c.args.self.now.header c.args.twice b c.requires), to_z-of_z (rest_fits c.args.self.now.header c.args.twice b c.requires))
