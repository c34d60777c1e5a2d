-- Division rounded toward minus infinity: what it is, and that there is only one such quotient.
use mathlib.Core.Path.{◌≡◌, refl, sym, ◌∙◌}
use mathlib.Core.Logic.{◌↔◌, ◌⊎◌, inl, inr}
use Prim.Native.Nat.{ℕ, suc, ◌*◌, ◌/◌, ◌≤◌, ◌<◌}
use native.Mathlib.Nat.{div-lt_iff_lt-mul, div-mul-le_self, lt-div-mul-add, div-le_of_le-mul, eq-zero-or-pos, div-le_self, div-zero}
use native.Mathlib.Omega.{arith}
use lib.IntN.{ℤ, pos, negsuc, nat_abs, ◌+ℤ◌, ◌-ℤ◌, ◌*ℤ◌}
use lib.Signed.{◌≤ℤ◌, ◌<ℤ◌}
use mir.Syntax.{Width}
use mir.Val.{SFits}
use mir.ValLaws.{sfits_le}
use lib.Signed.{mag_shr}
use Rattle.integer.specs.Floor.{floor_div}
use Rattle.integer.proofs.Difference.{view, to_ℕ, negsuc_dif}
use Rattle.integer.proofs.Order.{≤ℤ_antisym, ≤ℤ_trans, ≤ℤ_<ℤ_trans, ≤ℤ-suc, *ℤ_cancel_<ℤ, *ℤ_mono_pos}

pub floor_low : (a : ℤ) (n : ℕ) → 0 < n → (pos n *ℤ floor_div a n) ≤ℤ a
unfolding floor_div
floor_low (pos a) n p = simp to_ℕ (omega (arith, div-mul-le_self a n))
floor_low (negsuc a) n p = simp to_ℕ (omega (arith, lt-div-mul-add {a = a} {b = n} p))

pub floor_high : (a : ℤ) (n : ℕ) → 0 < n → a <ℤ (pos n *ℤ (floor_div a n +ℤ pos 1))
unfolding floor_div
floor_high (pos a) n p = simp to_ℕ (omega (arith, lt-div-mul-add {a = a} {b = n} p))
floor_high (negsuc a) n p = go (negsuc (a / n)) refl
  where
    go : (q : ℤ) → q ≡ negsuc (a / n) → negsuc a <ℤ (pos n *ℤ (q +ℤ pos 1))
    go q e = rw (e ∙ negsuc_dif (a / n)) (simp to_ℕ (omega (arith, div-mul-le_self a n)))

-- q is at most the quotient exactly where n · q is at most a
pub floor_galois : (a q : ℤ) (n : ℕ) → 0 < n → ((pos n *ℤ q) ≤ℤ a) ↔ (q ≤ℤ floor_div a n)
floor_galois a q n p = (
  (λ h. (≤ℤ-suc q (floor_div a n)).1 (*ℤ_cancel_<ℤ n q (floor_div a n +ℤ pos 1) (≤ℤ_<ℤ_trans h (floor_high a n p)))),
  (λ h. ≤ℤ_trans (*ℤ_mono_pos n h) (floor_low a n p)),
)

pub floor_unique : (a q : ℤ) (n : ℕ) → (pos n *ℤ q) ≤ℤ a → a <ℤ (pos n *ℤ (q +ℤ pos 1)) → q ≡ floor_div a n
floor_unique a q n low high = go (eq-zero-or-pos n)
  where
    none : (a q : ℤ) → (pos 0 *ℤ q) ≤ℤ a → a <ℤ (pos 0 *ℤ (q +ℤ pos 1)) → ⊥
    none a q = rw (view a, view q) (simp to_ℕ (omega arith))

    go : (n ≡ 0) ⊎ (0 < n) → q ≡ floor_div a n
    go (inl e) = absurd (none a q (rw e at low) (rw e at high))
    go (inr p) = ≤ℤ_antisym ((floor_galois a q n p).0 low)
        ((≤ℤ-suc (floor_div a n) q).1 (*ℤ_cancel_<ℤ n (floor_div a n) (q +ℤ pos 1) (≤ℤ_<ℤ_trans (floor_low a n p) high)))

pub floor_shift : (a d : ℤ) (n : ℕ) → 0 < n → floor_div (a -ℤ pos n *ℤ d) n ≡ floor_div a n -ℤ d
floor_shift a d n p = sym (floor_unique (a -ℤ pos n *ℤ d) (floor_div a n -ℤ d) n
    (low a (floor_div a n) d n (floor_low a n p)) (high a (floor_div a n) d n (floor_high a n p)))
  where
    low : (a q d : ℤ) (n : ℕ) → (pos n *ℤ q) ≤ℤ a → (pos n *ℤ (q -ℤ d)) ≤ℤ (a -ℤ pos n *ℤ d)
    low a q d n = rw (view a, view q, view d) (simp to_ℕ (omega arith))

    high : (a q d : ℤ) (n : ℕ) → a <ℤ (pos n *ℤ (q +ℤ pos 1)) → (a -ℤ pos n *ℤ d) <ℤ (pos n *ℤ (q -ℤ d +ℤ pos 1))
    high a q d n = rw (view a, view q, view d) (simp to_ℕ (omega arith))

-- by any number, 0 too
pub floor_mono : (n : ℕ) {a b : ℤ} → a ≤ℤ b → floor_div a n ≤ℤ floor_div b n
unfolding floor_div
floor_mono n {a} {b} h = go (eq-zero-or-pos n)
  where
    by_zero : (a b : ℤ) → a ≤ℤ b → floor_div a 0 ≤ℤ floor_div b 0
    by_zero (pos a) (pos b) h = simp to_ℕ (omega (arith, div-zero a))
    by_zero (pos a) (negsuc b) h = absurd h.le
    by_zero (negsuc a) (pos b) h = simp to_ℕ (omega arith)
    by_zero (negsuc a) (negsuc b) h = simp to_ℕ (omega (arith, div-zero b))

    go : (n ≡ 0) ⊎ (0 < n) → floor_div a n ≤ℤ floor_div b n
    go (inl e) = rw e (by_zero a b h)
    go (inr p) = (floor_galois b (floor_div a n) n p).0 (≤ℤ_trans (floor_low a n p) h)

pub floor_bound : (a : ℤ) (n b : ℕ) → nat_abs a ≤ n * b → nat_abs (floor_div a n) ≤ b
unfolding floor_div
floor_bound (pos a) n b h = div-le_of_le-mul n h
floor_bound (negsuc a) n b h = go (eq-zero-or-pos n)
  where
    go : (n ≡ 0) ⊎ (0 < n) → a / n < b
    go (inl e) = absurd (none (rw e at h))
      where
        none : suc a ≤ 0 * b → ⊥
        none h = omega arith
    go (inr p) = (div-lt_iff_lt-mul p).1 (omega arith)

-- the quotient is no larger than the number
pub floor_abs : (a : ℤ) (n : ℕ) → nat_abs (floor_div a n) ≤ nat_abs a
unfolding floor_div
floor_abs (pos a) n = div-le_self a n
floor_abs (negsuc a) n = omega (arith, div-le_self a n)

pub floor_fits : {w : Width} (a : ℤ) (n : ℕ) → SFits w a → SFits w (floor_div a n)
unfolding floor_div
floor_fits (pos a) n f = sfits_le (mag_shr (pos a) n) f
floor_fits (negsuc a) n f = sfits_le (mag_shr (negsuc a) n) f

pub floor_nonneg : (a : ℤ) (n : ℕ) → pos 0 ≤ℤ a → pos 0 ≤ℤ floor_div a n
unfolding floor_div
floor_nonneg (pos a) n h = simp to_ℕ (omega arith)
floor_nonneg (negsuc a) n h = absurd h.le

-- of a number that is not negative it is the quotient of its magnitude
pub floor_magnitude : (a : ℤ) (n : ℕ) → pos 0 ≤ℤ a → nat_abs (floor_div a n) ≡ nat_abs a / n
unfolding floor_div
floor_magnitude (pos a) n h = refl
floor_magnitude (negsuc a) n h = absurd h.le

-- −7 by 2 is −4
example : floor_div (negsuc 6) 2 ≡ negsuc 3
unfolding floor_div
example = refl
