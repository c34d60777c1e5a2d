-- Laws of counting digits: four at a time, those of a number below 10000, and a byte for a sign.
use Prim.Native.Nat.{ℕ, ◌+◌, ◌/◌, ◌≤◌, ◌<◌}
use mathlib.Core.Bool.{Bool, true, false}
use mathlib.Core.Path.{◌≡◌, refl, ap}
use borrow.Author.Tests.{leb-true, leb-false}
use lib.Dec.{leb}
use lib.IntN.{ℤ, pos, nat_abs}
use lib.ListN.{length, length-append}
use lib.Signed.{lt_z}
use mir.Val.{bool_byte}
use native.Mathlib.Omega.{arith}
use Rattle.text_number.specs.Number.{digits_of, written_number}
use Rattle.text_number.proofs.WrittenDigits.{count_one, count_more}
use Rattle.text_writer.specs.internal.Signed.{sign_of}
use Rattle.text_writer.proofs.Writing.{written_signed, sign_length}

-- a test adds one at most
pub one_at_most : (b : Bool) → bool_byte b ≤ 1
one_at_most true = omega arith
one_at_most false = omega arith

count_two : (n : ℕ) → 10 ≤ n → n < 100 → length (digits_of n) ≡ 2
count_two n l h = omega (arith, count_more n l, count_one (n / 10) (omega arith))

count_three : (n : ℕ) → 100 ≤ n → n < 1000 → length (digits_of n) ≡ 3
count_three n l h = omega (arith, count_more n (omega arith), count_two (n / 10) (omega arith) (omega arith))

count_four : (n : ℕ) → 1000 ≤ n → n < 10000 → length (digits_of n) ≡ 4
count_four n l h = omega (arith, count_more n (omega arith), count_three (n / 10) (omega arith) (omega arith))

pub four_more : (n : ℕ) → 10000 ≤ n → length (digits_of n) ≡ length (digits_of (n / 10000)) + 4
four_more n l =
    let same : n / 10 / 10 / 10 / 10 ≡ n / 10000 = omega arith in
    omega (arith, ap (λ m. length (digits_of m)) same, count_more n (omega arith), count_more (n / 10) (omega arith), count_more (n / 10 / 10) (omega arith), count_more (n / 10 / 10 / 10) (omega arith))

-- below 10000, one and one more for each of 10, 100 and 1000 that the number reaches
pub few_digits : (n : ℕ) → n < 10000 → 1 + bool_byte (leb 10 n) + bool_byte (leb 100 n) + bool_byte (leb 1000 n) ≡ length (digits_of n)
few_digits n h = go (leb 10 n) refl (leb 100 n) refl (leb 1000 n) refl
  where
    go : (a : Bool) → leb 10 n ≡ a → (b : Bool) → leb 100 n ≡ b → (c : Bool) → leb 1000 n ≡ c → 1 + bool_byte a + bool_byte b + bool_byte c ≡ length (digits_of n)
    go false x false y false z = omega (arith, count_one n (omega (arith, leb-false 10 n x)))
    go true x false y false z = omega (arith, count_two n (leb-true 10 n x) (omega (arith, leb-false 100 n y)))
    go true x true y false z = omega (arith, count_three n (leb-true 100 n y) (omega (arith, leb-false 1000 n z)))
    go true x true y true z = omega (arith, count_four n (leb-true 1000 n z) h)
    go false x true y c z = absurd (omega (arith, leb-false 10 n x, leb-true 100 n y))
    go false x false y true z = absurd (omega (arith, leb-false 10 n x, leb-true 1000 n z))
    go true x false y true z = absurd (omega (arith, leb-false 100 n y, leb-true 1000 n z))

-- a number below zero has a byte more than its digits
pub sign_and_digits : (z : ℤ) → length (digits_of (nat_abs z)) + bool_byte (lt_z z (pos 0)) ≡ length (written_number z)
sign_and_digits z =
    omega (arith, ap length (written_signed z (lt_z z (pos 0)) refl), length-append (sign_of (lt_z z (pos 0))) (digits_of (nat_abs z)), sign_length (lt_z z (pos 0)))
