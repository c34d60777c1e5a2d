-- One more numerator gives one more value.
use Rattle.std.proofs.Common.{ℤ, ◌<◌, length, get_or, pos, arith, rules, FitsSigned, w64}
use Rattle.std.proofs.lemmas.List.{take_more_set, map_more}
use mir.Facts.{to_z-of_z}
use Rattle.normal.specs.Normal.{normal}
use Rattle.normal.proofs.distributions.Goals as goal

pub loop-i-preserved : goal.loop-i-preserved
loop-i-preserved g c =
    let inside : c.loop-i.i < length c.loop-i.values = omega arith in
    let given : c.loop-i.i < length c.args.numerators = omega arith in
    let fits : FitsSigned w64 (get_or c.args.numerators c.loop-i.i (pos 0)) = search rules in
    let value = rw (to_z-of_z fits) at c.both_halves.ensures in
    (search rules, rw (take_more_set, map_more (λ (numerator : ℤ). normal numerator c.args.denominator) c.args.numerators c.loop-i.i (pos 0)) cc)
