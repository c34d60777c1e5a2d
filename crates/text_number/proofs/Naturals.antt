-- Laws of natural numbers: digits read one by one, how large a number of some digits is, and what the code holds of it.
use Prim.Native.Nat.{ℕ, suc, ◌+◌, ◌-◌, ◌*◌, ◌^◌, ◌≤◌, ◌<◌}
use native.Mathlib.Nat.{pow-suc, pow-le-pow_right, mul-le-mul_right, mul_assoc, mul_comm, one-mul}
use native.Mathlib.Numerals.{add-one}
use native.Mathlib.Omega.{arith}
use mathlib.Core.Bool.{Bool, true, false, not, cond}
use mathlib.Core.List.{List, [], ◌∷◌, ◌++◌}
use mathlib.Core.Option.{none, some}
use mathlib.Core.Path.{◌≡◌, refl, sym, ap, ◌∙◌}
use lib.Dec.{leb, eqb}
use lib.ListN.{length, take, drop, get_or, drop_of_length-le}
use lib.Seq.{take-suc, drop-cons, take_all}
use borrow.Author.Tests.{le-leb, lt-leb, leb-false, eqb-false, not-true}
use Rattle.std.specs.Prelude.{Result, Ok, Err}
use Rattle.text_refusal.proofs.Choices.{and_left}
use Rattle.text_number.specs.Number.{all_digits, value_of, plain, natural_of}
use Rattle.text_number.specs.internal.Natural.{held_natural}
use Rattle.text_number.specs.declared.NumberError.{NumberError}
use Rattle.text_number.specs.declared.NumberError.TheVariants as error
use Rattle.text_number.proofs.Digits.{digit_at, plain_led, plain_one, plain_other, plain_digits}

-- ---- digits one by one

value_join : (front : ℕ) (xs ys : List ℕ) → value_of front (xs ++ ys) ≡ value_of (value_of front xs) ys
unfolding value_of
value_join front [] ys = refl
value_join front (byte ∷ xs) ys = value_join (front * 10 + (byte - 48)) xs ys

module _ (s : List ℕ) (i : ℕ) where
  pub digits_over : length s ≤ i → all_digits (drop i s) ≡ true
  unfolding all_digits
  digits_over h = rw (drop_of_length-le s {i = i} h)

  module _ (h : i < length s) where
    pub digits_more : 48 ≤ get_or s i 0 → get_or s i 0 ≤ 57 → all_digits (drop i s) ≡ all_digits (drop (i + 1) s)
    unfolding all_digits
    digits_more l u = rw (add-one, drop-cons s i 0 h, le-leb 48 (get_or s i 0) l, le-leb (get_or s i 0) 57 u)

    pub digits_below : get_or s i 0 < 48 → all_digits (drop i s) ≡ false
    unfolding all_digits
    digits_below l = rw (drop-cons s i 0 h, lt-leb 48 (get_or s i 0) l)

    pub digits_above : 57 < get_or s i 0 → all_digits (drop i s) ≡ false
    unfolding all_digits
    digits_above u = rw (drop-cons s i 0 h, le-leb 48 (get_or s i 0) (omega arith), lt-leb (get_or s i 0) 57 u)

-- so many bytes are digits, of this value; those that are left decide whether all are
pub record DigitsRead (s : List ℕ) (i value : ℕ) : Type 0 where
  pub within : i ≤ length s
  pub rest : all_digits s ≡ all_digits (drop i s)
  pub worth : value ≡ value_of 0 (take i s)
  pub size : value < 10 ^ i

pub digits_start : (s : List ℕ) → DigitsRead s 0 0
unfolding value_of
digits_start s = record { within = omega arith; rest = refl; worth = refl; size = omega arith }

pub digits_next : (s : List ℕ) (i value : ℕ) → i < length s → DigitsRead s i value → 48 ≤ get_or s i 0 → get_or s i 0 ≤ 57 → DigitsRead s (i + 1) (value * 10 + (get_or s i 0 - 48))
unfolding value_of
digits_next s i value h read l u =
    record {
      within = omega arith;
      rest = read.rest ∙ digits_more s i h l u;
      worth = rw (add-one, take-suc s i 0 h, read.worth) (sym (value_join 0 (take i s) (get_or s i 0 ∷ [])));
      size = rw (add-one, pow-suc 10 i) (omega (arith, read.size));
    }

-- one digit more of at most nineteen fits a machine word
pub digits_fit : (s : List ℕ) (i value : ℕ) → i < length s → length s ≤ 19 → DigitsRead s i value → value < 1000000000000000000
digits_fit s i value h l read = omega (arith, read.size, pow-le-pow_right {n = 10} (omega arith) {i = i} {j = 18} (omega arith))

-- ---- how large a number of some digits is

value_least : (front : ℕ) (s : List ℕ) → front * 10 ^ length s ≤ value_of front s
unfolding value_of
value_least front [] = omega arith
value_least front (byte ∷ s) =
    let more : front * 10 * 10 ^ length s ≤ (front * 10 + (byte - 48)) * 10 ^ length s = mul-le-mul_right (10 ^ length s) (omega arith) in
    let same : front * 10 ^ suc (length s) ≡ front * 10 * 10 ^ length s = rw (pow-suc 10 (length s), mul_comm (10 ^ length s) 10) (sym (mul_assoc front 10 (10 ^ length s))) in
    omega (arith, value_least (front * 10 + (byte - 48)) s)

large_digits : (s : List ℕ) → plain s ≡ true → 19 < length s → 10000000000000000000 ≤ value_of 0 s
unfolding value_of
large_digits [] p l = absurd (omega arith)
large_digits (byte ∷ []) p l = absurd (omega arith)
large_digits (byte ∷ (next ∷ rest)) p l =
    let s : List ℕ = byte ∷ (next ∷ rest) in
    let digit = digit_at s 0 (plain_digits s p) (omega arith) in
    let other = eqb-false byte 48 (not-true (eqb byte 48) (and_left (not (eqb byte 48)) (all_digits s) p)) in
    let first : ℕ = 0 * 10 + (byte - 48) in
    let one : 1 ≤ first = omega (arith, digit, other) in
    let least : first * 10 ^ length (next ∷ rest) ≤ value_of 0 s = value_least first (next ∷ rest) in
    let more : 1 * 10 ^ length (next ∷ rest) ≤ first * 10 ^ length (next ∷ rest) = mul-le-mul_right (10 ^ length (next ∷ rest)) one in
    let power : 10 ^ 19 ≤ 10 ^ length (next ∷ rest) = pow-le-pow_right {n = 10} (omega arith) {i = 19} {j = length (next ∷ rest)} (omega arith) in
    omega (arith, one-mul (10 ^ length (next ∷ rest)))

-- ---- what the code holds

pub data HeldIs (digits : List ℕ) : Result ℕ NumberError → Type 0 where
  small : natural_of digits ≡ some (value_of 0 digits) → HeldIs digits (Ok (value_of 0 digits))
  large : {value : ℕ} → natural_of digits ≡ some value → 10000000000000000000 ≤ value → HeldIs digits (Err error.Outside)
  broken : natural_of digits ≡ none → HeldIs digits (Err error.Malformed)

pub held_is : (digits : List ℕ) → HeldIs digits (held_natural digits)
unfolding held_natural
held_is digits = go (plain digits) refl (leb (length digits) 19) refl
  where
    go : (p : Bool) → plain digits ≡ p → (few : Bool) → leb (length digits) 19 ≡ few → HeldIs digits (cond p (cond few (Ok (value_of 0 digits)) (Err error.Outside)) (Err error.Malformed))
    go true p true few = small (rw p)
    go true p false few = large {value = value_of 0 digits} (rw p) (large_digits digits p (leb-false (length digits) 19 few))
    go false p few f = broken (rw p)

-- the digits of a text, from what was seen of them
module _ (s : List ℕ) where
  pub held_none : plain s ≡ false → Err error.Malformed ≡ held_natural s
  unfolding held_natural
  held_none p = rw p

  pub held_empty : length s ≡ 0 → Err error.Malformed ≡ held_natural s
  held_empty e = held_none (empty s e)
    where
      empty : (s : List ℕ) → length s ≡ 0 → plain s ≡ false
      empty [] e = refl
      empty (byte ∷ s) e = absurd (omega arith)

  pub held_led : 1 < length s → get_or s 0 0 ≡ 48 → Err error.Malformed ≡ held_natural s
  held_led l e = held_none (plain_led s l e)

  pub held_broken : all_digits s ≡ false → Err error.Malformed ≡ held_natural s
  held_broken d = held_none (go (plain s) refl)
    where
      go : (p : Bool) → plain s ≡ p → p ≡ false
      go true p = let z : true ≡ false = sym (plain_digits s p) ∙ d in z
      go false p = refl

  pub held_large : 19 < length s → (get_or s 0 0 ≡ 48 → ⊥) → all_digits s ≡ true → Err error.Outside ≡ held_natural s
  unfolding held_natural
  held_large l other d = rw (plain_other s (omega arith) other ∙ d, lt-leb (length s) 19 l)

  -- every byte was read
  module _ (i value : ℕ) (few : length s ≤ 19) (over : length s ≤ i) (read : DigitsRead s i value) where
    held_value : plain s ≡ all_digits s → Ok value ≡ held_natural s
    unfolding held_natural
    held_value p =
        rw (p ∙ read.rest ∙ digits_over s i over, le-leb (length s) 19 few) (ap Ok (read.worth ∙ ap (value_of 0) (take_all i s over)))

    pub held_one : i ≡ 1 → Ok value ≡ held_natural s
    held_one e = held_value (plain_one s (omega (arith, read.within)))

    pub held_many : (i ≡ 0 → ⊥) → (get_or s 0 0 ≡ 48 → ⊥) → Ok value ≡ held_natural s
    held_many n other = held_value (plain_other s (omega (arith, n, read.within)) other)

    pub held_zero_led : (i ≡ 1 → ⊥) → (i ≡ 0 → ⊥) → get_or s 0 0 ≡ 48 → Err error.Malformed ≡ held_natural s
    held_zero_led n m e = held_led (omega (arith, n, m, read.within)) e

    pub held_no_bytes : i ≡ 0 → Err error.Malformed ≡ held_natural s
    held_no_bytes e = held_empty (omega arith)
