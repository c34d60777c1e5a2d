use mathlib.Core.Path.{◌≡◌}
use borrow.Author.Rules.{rules}
use lib.IntN.{ℤ, ◌+ℤ◌}
use mir.Facts.{to_z-of_z}
use mir.Syntax.{w64}
use mir.Val.{SFits, to_z, of_z}
use Rattle.pricing_sums.proofs.Addition.{plus_is}
use Rattle.pricing_sums.proofs.Parts.{plus_fits}
use Rattle.pricing_snapshot.proofs.resources.plus.Goals as goal

-- a sum of two numbers as the code holds them
sum_is : (a b : ℤ) → SFits w64 a → SFits w64 b → SFits w64 (a +ℤ b) → to_z w64 (of_z w64 (to_z w64 (of_z w64 a) +ℤ to_z w64 (of_z w64 b))) ≡ a +ℤ b
sum_is a b a_fits b_fits fits = rw (to_z-of_z a_fits, to_z-of_z b_fits, to_z-of_z fits)

pub returns : goal.returns
returns c =
    let a = c.args.sums in
    let b = c.args.part in
    let fits = rw (plus_is a b) at (plus_fits c.requires.fact_1 c.requires.fact_2) in
    rw (
      plus_is a b,
      sum_is a.generation b.generation (search rules) (search rules) fits.generation,
      sum_is a.controllable b.controllable (search rules) (search rules) fits.controllable,
      sum_is a.offline b.offline (search rules) (search rules) fits.offline,
      sum_is a.validated b.validated (search rules) (search rules) fits.validated,
      sum_is a.responsive b.responsive (search rules) (search rules) fits.responsive,
    )
