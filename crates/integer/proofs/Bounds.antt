-- Bounds of an integer by its magnitude `nat_abs`, the cheapest way to show that a result fits its width:
-- `omega (arith, abs-fits, abs-sub a b, abs-mul a c)`.
use mathlib.Core.Path.{◌≡◌, refl}
use mathlib.Core.Logic.{◌↔◌}
use mathlib.Core.Bool.{Bool, true, false, cond}
use Prim.Native.Nat.{ℕ, suc, ◌+◌, ◌*◌, ◌^◌, ◌≤◌, ◌<◌}
use native.Mathlib.Omega.{arith}
use lib.IntN.{ℤ, pos, negsuc, neg_ℤ, nat_abs, ◌+ℤ◌, ◌-ℤ◌, ◌*ℤ◌}
use lib.Signed.{le_z, ◌≤ℤ◌}
use mir.Syntax.{Width, w64}
use mir.Val.{SFits, hbits}
use Rattle.integer.specs.Order.{min_ℤ, max_ℤ}
use Rattle.integer.proofs.Difference.{view, to_ℕ}

pub abs_neg : (x : ℤ) → nat_abs (neg_ℤ x) ≡ nat_abs x
abs_neg x = rw (view x) (simp to_ℕ (omega arith))

pub abs_add : (x y : ℤ) → nat_abs (x +ℤ y) ≤ nat_abs x + nat_abs y
abs_add x y = rw (view x, view y) (simp to_ℕ (omega arith))

pub abs_sub : (x y : ℤ) → nat_abs (x -ℤ y) ≤ nat_abs x + nat_abs y
abs_sub x y = rw (view x, view y) (simp to_ℕ (omega arith))

pub abs_mul : (x y : ℤ) → nat_abs (x *ℤ y) ≡ nat_abs x * nat_abs y
abs_mul (pos m) (pos n) = refl
abs_mul (pos m) (negsuc n) = abs_neg (pos (m * suc n))
abs_mul (negsuc m) (pos n) = abs_neg (pos (suc m * n))
abs_mul (negsuc m) (negsuc n) = refl

pub abs_bound : (z : ℤ) (b : ℕ) → (nat_abs z ≤ b) ↔ ((neg_ℤ (pos b) ≤ℤ z) × (z ≤ℤ pos b))
abs_bound z b = rw (view z) (simp to_ℕ (omega arith))

-- the lower and the higher of two
one_of : (b : Bool) (x y : ℤ) → nat_abs (cond b x y) ≤ nat_abs x + nat_abs y
one_of true x y = omega arith
one_of false x y = omega arith

pub abs_min : (x y : ℤ) → nat_abs (min_ℤ x y) ≤ nat_abs x + nat_abs y
unfolding min_ℤ
abs_min x y = one_of (le_z x y) x y

pub abs_max : (x y : ℤ) → nat_abs (max_ℤ x y) ≤ nat_abs x + nat_abs y
unfolding max_ℤ
abs_max x y = omega (arith, one_of (le_z x y) y x)

pub nonneg_is : {z : ℤ} → pos 0 ≤ℤ z → z ≡ pos (nat_abs z)
nonneg_is {z} = rw (view z) (simp to_ℕ (omega arith))

-- a rule for `omega` at a goal `SFits w z`, and one at a fact of that form
pub abs_fits : {w : Width} {z : ℤ} → nat_abs z < 2 ^ hbits w → SFits w z
abs_fits {w} {z} = rw (view z) (simp to_ℕ (omega arith))

pub fits_abs : {w : Width} {z : ℤ} → SFits w z → nat_abs z ≤ 2 ^ hbits w
fits_abs {w} {z} = rw (view z) (simp to_ℕ (omega arith))

pub bound_fits : (z : ℤ) (b : ℕ) → nat_abs z ≤ b → b < 2 ^ 63 → SFits w64 z
bound_fits z b h k = omega (arith, abs_fits)

-- a result that fits, from the bounds of its operands
example : (x y : ℤ) → nat_abs x ≤ 1000 → SFits w64 y → nat_abs y < 2 ^ 62 → SFits w64 (x -ℤ y)
example x y h f k = omega (arith, abs_fits, abs_sub x y)
