use borrow.Author.Rules.{rules}
use lib.IntN.{◌+ℤ◌}
use mir.Syntax.{w64}
use mir.Val.{SFits}
use Rattle.pricing_sums.specs.Part.{part_of}
use Rattle.pricing_sums.proofs.part.controllable_part.Goals as goal

pub returns : goal.returns
unfolding part_of
returns c =
    let fits : SFits w64 (c.less_both.result +ℤ c.args.c.regup) = search rules in
    search rules
