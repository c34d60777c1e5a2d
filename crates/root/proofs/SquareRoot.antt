-- The integer square root: `root_of x` is one, there is no other, and Newton's iteration comes to it from above.
use mathlib.Core.Path.{◌≡◌, refl}
use mathlib.Core.Bool.{Bool, true, false, cond}
use Prim.Native.Nat.{ℕ, zero, suc, ◌+◌, ◌*◌, ◌/◌, ◌^◌, ◌≤◌, ◌<◌}
use native.Mathlib.Nat.{mul-le-mul, le_trans, le_refl, le_antisymm, lt_of_lt_of_le, lt_of_not-le, div-lt_iff_lt-mul, div-mul-le_self, lt-div-mul-add, not-le_of_lt, mul-le-mul_right, le_of_eq}
use native.Mathlib.Omega.{arith}
use borrow.Author.Tests.{leb-true, leb-false}
use lib.Dec.{leb}
use lib.IntN.{pos, ◌-ℤ◌}
use lib.Pow.{pow_mono, pow-add}
use Rattle.integer.proofs.Difference.{to_ℕ}
use Rattle.integer.proofs.Order.{square_nonneg}
use Rattle.root.specs.Root.{IsRoot, raised, root_in, root_of}

raised_is : (x y r : ℕ) → y ≡ x / 4 → IsRoot y r → IsRoot x (raised x (2 * r))
unfolding raised
raised_is x y r e h = go (leb ((2 * r + 1) * (2 * r + 1)) x) refl
  where
    low : y * 4 ≤ x
    low = rw e (div-mul-le_self x 4)

    high : x < y * 4 + 4
    high = rw e (lt-div-mul-add (omega arith))

    go : (b : Bool) → leb ((2 * r + 1) * (2 * r + 1)) x ≡ b → IsRoot x (cond b (2 * r + 1) (2 * r))
    go true t = (leb-true _ x t, omega arith)
    go false t = (omega arith, leb-false _ x t)

root_in_is : (d x : ℕ) → x ≤ d → IsRoot x (root_in d x)
unfolding root_in
root_in_is zero x h = (omega arith, omega arith)
root_in_is (suc d) zero h = (omega arith, omega arith)
root_in_is (suc d) (suc x) h = raised_is (suc x) (suc x / 4) (root_in d (suc x / 4)) refl (root_in_is d (suc x / 4) (omega (arith, div-mul-le_self (suc x) 4)))

pub root_is : (x : ℕ) → IsRoot x (root_of x)
unfolding root_of
root_is x = root_in_is x x (le_refl x)

-- a root of a number that is not higher is not higher
pub root_le : (x y r s : ℕ) → x ≤ y → r * r ≤ x → y < (s + 1) * (s + 1) → r ≤ s
root_le x y r s h k l = omega (arith, lt_of_not-le (λ (m : s + 1 ≤ r). not-le_of_lt (lt_of_lt_of_le l (mul-le-mul m m)) (le_trans k h)))

pub root_unique : (x r : ℕ) → IsRoot x r → r ≡ root_of x
root_unique x r h = le_antisymm (root_le x x r (root_of x) (le_refl x) h.0 (root_is x).1) (root_le x x (root_of x) r (le_refl x) (root_is x).0 h.1)

pub root_mono : (x y : ℕ) → x ≤ y → root_of x ≤ root_of y
root_mono x y h = root_le x y (root_of x) (root_of y) h (root_is x).0 (root_is y).1

-- it computes for large numbers
example : root_of 18446744073709551615 ≡ 4294967295
unfolding root_of root_in raised
example = refl

-- ---- Newton's iteration

-- twice a product is at most the two squares
two_products : (m r : ℕ) → 2 * (m * r) ≤ m * m + r * r
two_products m r = omega (arith, simp to_ℕ at (square_nonneg (pos m -ℤ pos r)))

-- A step from any guess r above 0 is not below the root: with q for x / r and m for one more than the new guess, x < (q + 1) · r and
-- r + q < 2 · m, so that r² + (q + 1) · r ≤ 2 · m · r ≤ m² + r².
pub newton_above : (x r : ℕ) → 0 < r → x < ((r + x / r) / 2 + 1) * ((r + x / r) / 2 + 1)
newton_above x r p = go (x / r) ((r + x / r) / 2) (lt-div-mul-add p) (lt-div-mul-add (omega arith))
  where
    go : (q h : ℕ) → x < q * r + r → r + q < h * 2 + 2 → x < (h + 1) * (h + 1)
    go q h low half = omega (arith, two_products (h + 1) r, mul-le-mul_right r half)

-- a step from a guess above the root is smaller
pub newton_below : (x r : ℕ) → x / r < r → (r + x / r) / 2 < r
newton_below x r h = (div-lt_iff_lt-mul {k = 2} {x = r + x / r} {y = r} (omega arith)).1 (omega arith)

-- 2 to half the length of x in bits, rounded up, is not below the root
pub first_guess : (x m : ℕ) → x < 2 ^ m → x < (2 ^ (suc m / 2) + 1) * (2 ^ (suc m / 2) + 1)
first_guess x m h = go (2 ^ (suc m / 2)) (lt_of_lt_of_le h (le_trans (pow_mono twice) (le_of_eq (pow-add 2 (suc m / 2) (suc m / 2)))))
  where
    twice : m ≤ suc m / 2 + suc m / 2
    twice = omega (arith, lt-div-mul-add {a = suc m} {b = 2} (omega arith))

    go : (g : ℕ) → x < g * g → x < (g + 1) * (g + 1)
    go g k = omega arith
