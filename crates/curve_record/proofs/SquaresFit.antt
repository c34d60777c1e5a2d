-- V around a number near the mean of a small group: every step of the sum fits.
use Prim.Native.Nat.{ℕ, ◌+◌, ◌*◌, ◌≤◌}
use native.Mathlib.Nat.{mul-le-mul}
use native.Mathlib.Omega.{arith}
use lib.Dec.{lit<}
use lib.IntN.{ℤ, pos, nat_abs, ◌+ℤ◌, ◌-ℤ◌, ◌*ℤ◌}
use mir.Syntax.{w64}
use mir.Val.{SFits}
use Rattle.integer.proofs.Bounds.{abs_add, abs_sub, abs_mul, bound_fits}
use Rattle.curve_record.specs.declared.Group.{Group}
use Rattle.curve_record.specs.internal.Small.{SmallGroup}

-- the factor is 2; any smaller one fits as well
pub record Steps (factor : ℕ) (g : Group) (x : ℤ) : Type 0 where
  pub mean : SFits w64 x
  pub sum : SFits w64 g.sum
  pub squares : SFits w64 g.squares
  pub count : SFits w64 (pos g.count)
  pub product : SFits w64 (x *ℤ g.sum)
  pub twice : SFits w64 (pos factor *ℤ (x *ℤ g.sum))
  pub difference : SFits w64 (g.squares -ℤ pos factor *ℤ (x *ℤ g.sum))
  pub square : SFits w64 (x *ℤ x)
  pub counted : SFits w64 (pos g.count *ℤ (x *ℤ x))
  pub whole : SFits w64 (g.squares -ℤ pos factor *ℤ (x *ℤ g.sum) +ℤ pos g.count *ℤ (x *ℤ x))

pub steps : (factor : ℕ) → factor ≤ 2 → (g : Group) (x : ℤ) → SmallGroup g × (nat_abs x ≤ 20000001) → Steps factor g x
steps factor few g x h =
    let near = h.1 in
    let sum = h.0.sum in
    let squares = h.0.squares in
    let product = product_small x g.sum near sum in
    let twice = product_small (pos factor) (x *ℤ g.sum) few product in
    let square = product_small x x near near in
    let counted = product_small (pos g.count) (x *ℤ x) h.0.count square in
    let difference = difference_small g.squares (pos factor *ℤ (x *ℤ g.sum)) squares twice in
    let whole = whole_small (g.squares -ℤ pos factor *ℤ (x *ℤ g.sum)) (pos g.count *ℤ (x *ℤ x)) difference counted in
    record {
      mean = bound_fits _ _ near (lit< tt);
      sum = bound_fits _ _ sum (lit< tt);
      squares = bound_fits _ _ squares (lit< tt);
      count = bound_fits _ _ h.0.count (lit< tt);
      product = bound_fits _ _ product (lit< tt);
      twice = bound_fits _ _ twice (lit< tt);
      difference = bound_fits _ _ difference (lit< tt);
      square = bound_fits _ _ square (lit< tt);
      counted = bound_fits _ _ counted (lit< tt);
      whole = bound_fits _ _ whole (lit< tt);
    }
  where
    product_small : (x y : ℤ) {a b : ℕ} → nat_abs x ≤ a → nat_abs y ≤ b → nat_abs (x *ℤ y) ≤ a * b
    product_small x y h k = rw (abs_mul x y) (mul-le-mul h k)

    difference_small : (x y : ℤ) {a b : ℕ} → nat_abs x ≤ a → nat_abs y ≤ b → nat_abs (x -ℤ y) ≤ a + b
    difference_small x y h k = omega (arith, abs_sub x y)

    whole_small : (x y : ℤ) {a b : ℕ} → nat_abs x ≤ a → nat_abs y ≤ b → nat_abs (x +ℤ y) ≤ a + b
    whole_small x y h k = omega (arith, abs_add x y)
