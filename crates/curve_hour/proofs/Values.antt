-- Values as the machine holds them.
use Prim.Native.Nat.{ℕ, ◌+◌, ◌≤◌, ◌<◌, ◌^◌}
use native.Mathlib.Omega.{arith}
use mathlib.Core.Path.{◌≡◌, ap, ◌∙◌}
use lib.IntN.{ℤ, pos, neg_ℤ, nat_abs, ◌+ℤ◌, ◌-ℤ◌}
use lib.Signed.{mag}
use mir.Facts.{to_z-of_z}
use mir.Syntax.{w64}
use mir.Val.{SFits, hbits, to_z, of_z}
use borrow.Author.Rules.{sfits_of}
use Rattle.std.proofs.lemmas.Int.{ints}
use Rattle.integer.proofs.Bounds.{abs_add, abs_sub, bound_fits}
use Rattle.curve_hour.specs.internal.Ranges.{Between, Power}

infixl 6 ◌⊕◌ ◌⊖◌
module _ (z : ℤ) (fits : mag z < 2 ^ hbits w64) where
  pub held : to_z w64 (of_z w64 z) ≡ z
  held = to_z-of_z {w = w64} (sfits_of fits)

  -- its magnitude
  pub held_size : nat_abs (to_z w64 (of_z w64 z)) ≡ nat_abs z
  held_size = ap nat_abs held

-- ---- a sum of several terms, one after the other

-- what the machine holds, and the number of at most a bound that it is, if that bound fits
pub record Holds (bound : ℕ) (machine z : ℤ) : Type 0 where
  pub small : nat_abs z ≤ bound
  pub is : bound < 2 ^ 63 → machine ≡ z

pub term : {bound : ℕ} {z : ℤ} → nat_abs z ≤ bound → Holds bound (to_z w64 (of_z w64 z)) z
term {bound} {z} small = record { small = small; is = λ room. to_z-of_z (bound_fits z bound small room) }

pub power : {z : ℤ} → Power z → Holds 100000000 (to_z w64 (of_z w64 z)) z
power within = term (omega (arith, ints))

pub tie : {z : ℤ} → Between (neg_ℤ (pos 20000000)) (pos 20000000) z → Holds 20000000 (to_z w64 (of_z w64 z)) z
tie within = term (omega (arith, ints))

module _ {m n : ℕ} {x y a b : ℤ} (first : Holds m x a) (second : Holds n y b) where
  pub sum_fits : m + n < 2 ^ 63 → SFits w64 (x +ℤ y)
  sum_fits room =
      rw (first.is (omega arith), second.is (omega arith)) (bound_fits (a +ℤ b) (m + n) (omega (arith, abs_add a b, first.small, second.small)) room)

  pub ◌⊕◌ : Holds (m + n) (to_z w64 (of_z w64 (x +ℤ y))) (a +ℤ b)
  ◌⊕◌ =
      record {
        small = omega (arith, abs_add a b, first.small, second.small);
        is = λ room. to_z-of_z (sum_fits room) ∙ rw (first.is (omega arith), second.is (omega arith));
      }

  pub difference_fits : m + n < 2 ^ 63 → SFits w64 (x -ℤ y)
  difference_fits room =
      rw (first.is (omega arith), second.is (omega arith)) (bound_fits (a -ℤ b) (m + n) (omega (arith, abs_sub a b, first.small, second.small)) room)

  pub ◌⊖◌ : Holds (m + n) (to_z w64 (of_z w64 (x -ℤ y))) (a -ℤ b)
  ◌⊖◌ =
      record {
        small = omega (arith, abs_sub a b, first.small, second.small);
        is = λ room. to_z-of_z (difference_fits room) ∙ rw (first.is (omega arith), second.is (omega arith));
      }
