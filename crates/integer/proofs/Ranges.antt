-- What the test of a range tells.
use Prim.Native.Nat.{ℕ, ◌≤◌}
use mathlib.Core.Path.{◌≡◌, refl}
use mathlib.Core.Bool.{Bool, true, false, ◌&&◌}
use native.Mathlib.Omega.{arith}
use lib.IntN.{ℤ, pos, neg_ℤ, nat_abs}
use lib.Signed.{le_z, ◌≤ℤ◌}
use Rattle.integer.proofs.Order.{le_z-true, le-le_z, ≤ℤ_trans}
use Rattle.integer.proofs.Bounds.{abs_bound}
use Rattle.integer.specs.Range.{within}

-- two tests that hold together hold each
pub both : (a b : Bool) → a && b ≡ true → (a ≡ true) × (b ≡ true)
both true b e = (refl, e)
both false b e = let z : ◌≡◌ {A = ℕ} 0 1 = cc in absurd (omega arith)

pub within_low : (low high z : ℤ) → within low high z ≡ true → low ≤ℤ z
within_low low high z e = le_z-true low z (both (le_z low z) (le_z z high) e).0

pub within_high : (low high z : ℤ) → within low high z ≡ true → z ≤ℤ high
within_high low high z e = le_z-true z high (both (le_z low z) (le_z z high) e).1

-- a number from -b or above to b or below
pub within_bound : (low high z : ℤ) (b : ℕ) → le_z (neg_ℤ (pos b)) low ≡ true → le_z high (pos b) ≡ true → within low high z ≡ true → nat_abs z ≤ b
within_bound low high z b l h e =
    (abs_bound z b).1 (≤ℤ_trans (le_z-true (neg_ℤ (pos b)) low l) (within_low low high z e), ≤ℤ_trans (within_high low high z e) (le_z-true high (pos b) h))

-- and what the ends tell
pub between_within : {low high z : ℤ} → (low ≤ℤ z) × (z ≤ℤ high) → within low high z ≡ true
between_within h = rw (le-le_z h.0, le-le_z h.1)
