use Prim.Native.Nat.{◌+◌, ◌*◌, ◌≤◌}
use native.Mathlib.Nat.{mul-le-mul}
use native.Mathlib.Omega.{arith}
use lib.IntN.{ℤ, nat_abs, ◌+ℤ◌, ◌*ℤ◌}
use mir.Syntax.{w64}
use mir.Val.{SFits, to_z, of_z}
use mathlib.Core.Path.{◌≡◌, ap₂}
use mir.Facts.{to_z-of_z}
use Rattle.integer.proofs.Bounds.{abs_add, abs_mul, abs_fits}
use Rattle.curve_record.specs.declared.Group.{Group}
use Rattle.curve_record.specs.internal.Small.{SmallGroup}
use Rattle.curve_booking.specs.Booking.{with_error}
use Rattle.curve_booking.proofs.with_error.Goals as goal

-- a number as the machine holds it
abbrev on : ℤ → ℤ
on z = to_z w64 (of_z w64 z)

-- the new sums fit, so that the machine holds them
record Sums (g : Group) (e : ℤ) : Type 0 where
  pub sum : on (on g.sum +ℤ on e) ≡ g.sum +ℤ e
  pub squares : on (on g.squares +ℤ on (on e *ℤ on e)) ≡ g.squares +ℤ e *ℤ e
  pub squares_fit : SFits w64 (on g.squares +ℤ on (on e *ℤ on e))

sums : (g : Group) (e : ℤ) → SmallGroup g → nat_abs e ≤ 20000000 → Sums g e
sums g e small near =
    let more = abs_add g.sum e in
    let square : nat_abs (e *ℤ e) ≤ 20000000 * 20000000 = omega (arith, abs_mul e e, mul-le-mul near near) in
    let more_squares = abs_add g.squares (e *ℤ e) in
    let error-fits : SFits w64 e = omega (arith, abs_fits) in
    let sum-fits : SFits w64 g.sum = omega (arith, abs_fits) in
    let squares-fits : SFits w64 g.squares = omega (arith, abs_fits) in
    let new-sum-fits : SFits w64 (g.sum +ℤ e) = omega (arith, abs_fits) in
    let square-fits : SFits w64 (e *ℤ e) = omega (arith, abs_fits) in
    let new-squares-fits : SFits w64 (g.squares +ℤ e *ℤ e) = omega (arith, abs_fits) in
    record {
      sum = rw (to_z-of_z sum-fits, to_z-of_z error-fits) (to_z-of_z new-sum-fits);
      squares = rw (to_z-of_z squares-fits, to_z-of_z error-fits, to_z-of_z square-fits) (to_z-of_z new-squares-fits);
      squares_fit = rw (to_z-of_z squares-fits, to_z-of_z error-fits, to_z-of_z square-fits) new-squares-fits;
    }

pub overflow_add-result-3 : goal.overflow_add-result-3
overflow_add-result-3 c = (sums c.args.g c.args.e c.requires.small_group c.requires.e_bound).squares_fit

pub returns : goal.returns
unfolding with_error
returns c =
    let made : ℤ → ℤ → Group = λ sum squares. record { count = c.args.g.count + 1; sum = sum; squares = squares } in
    let new = sums c.args.g c.args.e c.requires.small_group c.requires.e_bound in
    ap₂ made new.sum new.squares
