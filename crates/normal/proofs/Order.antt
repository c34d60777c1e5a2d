-- N never falls as its numerator grows, and never exceeds 10^9.
-- Assumes nothing.
use mathlib.Core.Path.{◌≡◌, refl, ap}
use mathlib.Core.Logic.{◌⊎◌, inl, inr}
use mathlib.Core.Bool.{Bool, true, false}
use Prim.Native.Nat.{ℕ, zero, suc, ◌-◌, ◌*◌, ◌/◌, ◌%◌, ◌≤◌, ◌<◌, suc-le-suc}
use native.Mathlib.Nat.{le_trans, mul-le-mul_left, div-le_of_le-mul, le-div_iff_mul-le, div-lt_iff_lt-mul, div-mul-le_self, div-add-mod', mod-lt, not-suc-le-zero, eq-or-lt_of_le, le_of_lt}
use native.Mathlib.Omega.{arith}
use borrow.Author.Tests.{le-leb, lt-leb, leb-true, leb-false, ltb-true}
use lib.Dec.{leb, leb→le}
use lib.IntN.{ℤ, pos, negsuc, nat_abs}
use lib.Signed.{◌≤ℤ◌, lt_z}
use Rattle.normal.specs.Knot.{knot}
use Rattle.normal.specs.Normal.{interpolated, upper, normal}
use Rattle.normal.specs.Promises.{NormalNeverFalls}
use Rattle.normal.proofs.Table.{knot_rises, knot_order, knot_range}

div_order : {a b : ℕ} (d : ℕ) → zero < d → a ≤ b → a / d ≤ b / d
div_order {a} {b} d h l = (le-div_iff_mul-le h).1 (le_trans (div-mul-le_self a d) l)

-- between two knots N lies between them
interpolated_range : (k rest d : ℕ) → k < 500 → rest < d → (knot k ≤ interpolated k rest d) × (interpolated k rest d ≤ knot (suc k))
unfolding interpolated
interpolated_range k rest d inside below =
    let step = knot (suc k) - knot k in
    let part : step * rest / d ≤ step = div-le_of_le-mul d (omega (arith, mul-le-mul_left step (le_of_lt below))) in
    omega (arith, knot_rises k inside)

interpolated_order : (k : ℕ) {r s d : ℕ} → zero < d → r ≤ s → interpolated k r d ≤ interpolated k s d
unfolding interpolated
interpolated_order k {r} {s} {d} h l =
    let step = knot (suc k) - knot k in
    omega (arith, div_order d h (mul-le-mul_left step l))

-- N below 500: at a fraction n / d, by floor and rest
inside_order : (n m d : ℕ) → zero < d → n ≤ m → m / d < 500 → interpolated (n / d) (n % d) d ≤ interpolated (m / d) (m % d) d
inside_order n m d h l b = go (eq-or-lt_of_le (div_order d h l))
  where
    go : (n / d ≡ m / d) ⊎ (n / d < m / d) → interpolated (n / d) (n % d) d ≤ interpolated (m / d) (m % d) d
    go (inl e) =
        rw e (interpolated_order (m / d) h (omega (arith, div-add-mod' n d, div-add-mod' m d, ap (λ (q : ℕ). q * d) e)))
    go (inr lower) =
        omega (
          arith,
          interpolated_range (n / d) (n % d) d (omega arith) (mod-lt n h),
          interpolated_range (m / d) (m % d) d b (mod-lt m h),
          knot_order {j = suc (n / d)} {k = m / d} lower (omega arith),
        )

module _ (n d : ℕ) where
  pub upper_above : 500 * d ≤ n → upper n d ≡ 1000000000
  unfolding upper
  upper_above h = simp (le-leb (500 * d) n h)

  module _ (h : n < 500 * d) where
    pub upper_inside : upper n d ≡ interpolated (n / d) (n % d) d
    unfolding upper
    upper_inside = simp (lt-leb (500 * d) n h)

    pub positive : zero < d
    positive = omega arith

    pub floor_inside : n / d < 500
    floor_inside = (div-lt_iff_lt-mul positive).1 h

  -- which of the two it is
  data Place : Type 0 where
    above : 500 * d ≤ n → Place
    inside : n < 500 * d → Place

  place : Place
  place = go (leb (500 * d) n) refl
    where
      go : (t : Bool) → leb (500 * d) n ≡ t → Place
      go true e = above (leb-true (500 * d) n e)
      go false e = inside (leb-false (500 * d) n e)

pub upper_range : (n d : ℕ) → (500000000 ≤ upper n d) × (upper n d ≤ 1000000000)
upper_range n d = go (place n d)
  where
    go : Place n d → (500000000 ≤ upper n d) × (upper n d ≤ 1000000000)
    go (above h) = omega (arith, upper_above n d h)
    go (inside h) =
        let k : n / d < 500 = floor_inside n d h in
        omega (
          arith,
          upper_inside n d h,
          interpolated_range (n / d) (n % d) d k (mod-lt n (positive n d h)),
          knot_range (n / d) (omega arith),
          knot_range (suc (n / d)) k,
        )

pub upper_order : {n m : ℕ} (d : ℕ) → n ≤ m → upper n d ≤ upper m d
upper_order {n} {m} d l = go (place m d)
  where
    go : Place m d → upper n d ≤ upper m d
    go (above h) = omega (arith, upper_above m d h, upper_range n d)
    go (inside h) =
        rw (upper_inside m d h, upper_inside n d (omega arith)) (inside_order n m d (positive m d h) l (floor_inside m d h))

-- by the sign of the numerator
pub normal_below : (n : ℤ) (d : ℕ) → lt_z n (pos 0) ≡ true → normal n d ≡ 1000000000 - upper (nat_abs n) d
unfolding normal
normal_below (pos n) d e = absurd (not-suc-le-zero (ltb-true n 0 e))
normal_below (negsuc n) d e = refl

pub normal_above : (n : ℤ) (d : ℕ) → lt_z n (pos 0) ≡ false → normal n d ≡ upper (nat_abs n) d
unfolding normal
normal_above (pos n) d e = refl
normal_above (negsuc n) d e = cc

-- from a fraction of 500 on
pub normal_full : (n : ℤ) (d : ℕ) → pos (500 * d) ≤ℤ n → normal n d ≡ 1000000000
unfolding normal
normal_full (pos n) d h = upper_above n d (leb→le (500 * d) n h.le)
normal_full (negsuc n) d h = absurd h.le

pub normal-le : (n : ℤ) (d : ℕ) → normal n d ≤ 1000000000
unfolding normal
normal-le (pos n) d = (upper_range n d).1
normal-le (negsuc n) d = omega arith

pub normal_order : {n m : ℤ} (d : ℕ) → n ≤ℤ m → normal n d ≤ normal m d
unfolding normal
normal_order {n = pos n} {m = pos m} d l = upper_order d (leb→le n m l.le)
normal_order {n = pos n} {m = negsuc m} d l = absurd l.le
normal_order {n = negsuc n} {m = pos m} d l = omega (arith, upper_range (suc n) d, upper_range m d)
normal_order {n = negsuc n} {m = negsuc m} d l =
    let further : upper (suc m) d ≤ upper (suc n) d = upper_order d (suc-le-suc (leb→le m n l.le)) in
    omega arith

pub normal_never_falls : NormalNeverFalls
normal_never_falls n m d l = (normal_order d l, normal-le m d)
