-- Every step of the sum fits.
use Rattle.std.proofs.Common.{ℕ, arith, to_z-of_z}
use Rattle.integer.proofs.Quadratic.{quadratic_is}
use Rattle.curve_record.specs.Possible.{squares_around}
use Rattle.curve_record.proofs.SquaresFit.{steps}
use Rattle.curve_record.proofs.squares.squares_around.Goals as goal

-- how often the product of mean and sum is taken away
abbrev times : ℕ
times = 2

pub overflow_sub-result : goal.overflow_sub-result
overflow_sub-result c =
    let s = steps times (omega arith) c.args.g c.args.x (c.requires.small_group, c.requires.x_bound) in
    rw (to_z-of_z s.squares, to_z-of_z s.mean, to_z-of_z s.sum, to_z-of_z s.product, to_z-of_z s.twice) s.difference

pub overflow_mul-result-4 : goal.overflow_mul-result-4
overflow_mul-result-4 c =
    let s = steps times (omega arith) c.args.g c.args.x (c.requires.small_group, c.requires.x_bound) in
    rw (to_z-of_z s.count, to_z-of_z s.mean, to_z-of_z s.square) s.counted

pub overflow_add-result : goal.overflow_add-result
overflow_add-result c =
    let s = steps times (omega arith) c.args.g c.args.x (c.requires.small_group, c.requires.x_bound) in
    rw (
      to_z-of_z s.squares,
      to_z-of_z s.mean,
      to_z-of_z s.sum,
      to_z-of_z s.product,
      to_z-of_z s.twice,
      to_z-of_z s.difference,
      to_z-of_z s.count,
      to_z-of_z s.square,
      to_z-of_z s.counted,
    ) s.whole

pub returns : goal.returns
unfolding squares_around
returns c =
    let s = steps times (omega arith) c.args.g c.args.x (c.requires.small_group, c.requires.x_bound) in
    rw (
      quadratic_is,
      to_z-of_z s.squares,
      to_z-of_z s.mean,
      to_z-of_z s.sum,
      to_z-of_z s.product,
      to_z-of_z s.twice,
      to_z-of_z s.difference,
      to_z-of_z s.count,
      to_z-of_z s.square,
      to_z-of_z s.counted,
      to_z-of_z s.whole,
    )
