-- The digits of a number: with no leading zero, of the number's value, and the only such digits.
use Prim.Native.Nat.{ℕ, zero, suc, ◌+◌, ◌-◌, ◌*◌, ◌/◌, ◌%◌, ◌^◌, ◌≤◌, ◌<◌}
use native.Mathlib.Nat.{pow-suc, div-lt_iff_lt-mul}
use native.Mathlib.Omega.{arith}
use mathlib.Core.Bool.{Bool, true, false, not, ◌&&◌, cond}
use mathlib.Core.List.{List, [], ◌∷◌, ◌++◌, append_assoc, append-nil}
use mathlib.Core.Option.{Option, none, some}
use mathlib.Core.Path.{◌≡◌, refl, sym, ap, ◌∙◌}
use lib.Dec.{eqb, ltb, leb}
use lib.IntN.{ℤ, pos, negsuc, nat_abs}
use lib.Signed.{le_z}
use lib.ListN.{length, length-append}
use borrow.Author.Tests.{ltb-true, ltb-false, leb-true, eqb-true, eqb-false, lt-ltb, le-ltb, le-leb, ne_eqb, not-true}
use Rattle.text_line.specs.Line.{OneLine}
use Rattle.text_line.proofs.LineBytes.{one_line_none, one_line_byte}
use Rattle.text_number.specs.Number.{is_digit, all_digits, value_of, plain, natural_of, positive, negative, number_of, digits_within, digits_of, written_number}
use Rattle.text_refusal.proofs.Choices.{and_left, and_right}
use Rattle.text_number.proofs.Digits.{plain_digits}

-- ---- one digit more

digits_few : (steps n : ℕ) → n ≤ steps → n < 10 → digits_within steps n ≡ (48 + n) ∷ []
unfolding digits_within
digits_few zero n h l = let e : n ≡ 0 = omega arith in rw e
digits_few (suc steps) n h l = rw (lt-ltb n 10 l, digits_within)

digits_again : (steps n : ℕ) → 10 ≤ n → digits_within (suc steps) n ≡ digits_within steps (n / 10) ++ ((48 + n % 10) ∷ [])
unfolding digits_within
digits_again steps n l = rw (le-ltb n 10 l, digits_within)

-- more steps than digits change nothing
digits_enough : (steps others n : ℕ) → n ≤ steps → n ≤ others → digits_within steps n ≡ digits_within others n
digits_enough zero others n h k = digits_few zero n h (omega arith) ∙ sym (digits_few others n k (omega arith))
digits_enough (suc steps) zero n h k = digits_few (suc steps) n h (omega arith) ∙ sym (digits_few zero n k (omega arith))
digits_enough (suc steps) (suc others) n h k = go (ltb n 10) refl (digits_enough steps others (n / 10))
  where
    go : (b : Bool) → ltb n 10 ≡ b → (n / 10 ≤ steps → n / 10 ≤ others → digits_within steps (n / 10) ≡ digits_within others (n / 10)) → digits_within (suc steps) n ≡ digits_within (suc others) n
    go true e again = digits_few (suc steps) n h (ltb-true n 10 e) ∙ sym (digits_few (suc others) n k (ltb-true n 10 e))
    go false e again =
        let l : 10 ≤ n = ltb-false n 10 e in
        rw (digits_again steps n l, digits_again others n l, again (omega arith) (omega arith))

pub digits_one : (n : ℕ) → n < 10 → digits_of n ≡ (48 + n) ∷ []
digits_one n l = digits_few n n (omega arith) l

pub digits_more : (n : ℕ) → 10 ≤ n → digits_of n ≡ digits_of (n / 10) ++ ((48 + n % 10) ∷ [])
digits_more zero l = absurd (omega arith)
digits_more (suc n) l = digits_again n (suc n) l ∙ ap (λ (front : List ℕ). front ++ ((48 + suc n % 10) ∷ [])) (digits_enough n (suc n / 10) (suc n / 10) (omega arith) (omega arith))

-- ---- bytes that are digits

pub digit_low : (byte : ℕ) → is_digit byte ≡ true → 48 ≤ byte
digit_low byte e = leb-true 48 byte (and_left (leb 48 byte) (leb byte 57) e)

pub digit_high : (byte : ℕ) → is_digit byte ≡ true → byte ≤ 57
digit_high byte e = leb-true byte 57 (and_right (leb 48 byte) (leb byte 57) e)

is_digit_lem : (d : ℕ) → d < 10 → is_digit (48 + d) ≡ true
is_digit_lem d l = rw (le-leb 48 (48 + d) (omega arith), le-leb (48 + d) 57 (omega arith))

pub digits_line : (bytes : List ℕ) → all_digits bytes ≡ true → OneLine bytes
unfolding all_digits
digits_line [] e = one_line_none
digits_line (byte ∷ bytes) e =
    let low : 48 ≤ byte = digit_low byte (and_left (is_digit byte) (all_digits bytes) e) in
    one_line_byte byte bytes (ne_eqb byte 10 (λ same. omega arith)) (digits_line bytes (and_right (is_digit byte) (all_digits bytes) e))

all_digits_more : (bytes : List ℕ) (d : ℕ) → d < 10 → all_digits bytes ≡ true → all_digits (bytes ++ ((48 + d) ∷ [])) ≡ true
unfolding all_digits
all_digits_more [] d l e = rw (is_digit_lem d l)
all_digits_more (byte ∷ bytes) d l e = rw (and_left (is_digit byte) (all_digits bytes) e) (all_digits_more bytes d l (and_right (is_digit byte) (all_digits bytes) e))

-- digits alone, the first one no zero
abbrev leading : List ℕ → Bool
leading [] = false
leading (byte ∷ bytes) = not (eqb byte 48) && all_digits (byte ∷ bytes)

leading_more : (bytes : List ℕ) (d : ℕ) → d < 10 → leading bytes ≡ true → leading (bytes ++ ((48 + d) ∷ [])) ≡ true
leading_more [] d l e = cc
leading_more (byte ∷ bytes) d l e =
    rw (and_left (not (eqb byte 48)) (all_digits (byte ∷ bytes)) e)
    (all_digits_more (byte ∷ bytes) d l (and_right (not (eqb byte 48)) (all_digits (byte ∷ bytes)) e))

leading_plain : (bytes : List ℕ) → leading bytes ≡ true → plain bytes ≡ true
unfolding all_digits
leading_plain [] e = e
leading_plain (byte ∷ []) e = and_left (is_digit byte) true (and_right (not (eqb byte 48)) (is_digit byte && true) e)
leading_plain (byte ∷ (next ∷ bytes)) e = e

-- what holds of the numbers below 10, and of a number where it holds of a tenth of it, holds of all
by_digits : (P : ℕ → Type 0) → ((n : ℕ) → n < 10 → P n) → ((n : ℕ) → 10 ≤ n → P (n / 10) → P n) → (n : ℕ) → P n
by_digits P one more n = go n n (omega arith)
  where
    step : (n : ℕ) (b : Bool) → ltb n 10 ≡ b → P (n / 10) → P n
    step n true e rest = one n (ltb-true n 10 e)
    step n false e rest = more n (ltb-false n 10 e) rest

    go : (steps n : ℕ) → n ≤ steps → P n
    go zero n h = one n (omega arith)
    go (suc steps) n h = step n (ltb n 10) refl (go steps (n / 10) (omega arith))

-- ---- the digits of a number are its only plain ones

digits_leading : (n : ℕ) → 0 < n → leading (digits_of n) ≡ true
unfolding all_digits
digits_leading =
    by_digits (λ n. 0 < n → leading (digits_of n) ≡ true)
    (λ n l h. rw (digits_one n l) (first n l h))
    (λ n l rest h. rw (digits_more n l) (leading_more (digits_of (n / 10)) (n % 10) (omega arith) (rest (omega arith))))
  where
    first : (n : ℕ) → n < 10 → 0 < n → leading ((48 + n) ∷ []) ≡ true
    first n l h = rw (ne_eqb (48 + n) 48 (λ e. omega arith), is_digit_lem n l)

pub digits_plain : (n : ℕ) → plain (digits_of n) ≡ true
digits_plain zero = rw (digits_one 0 (omega arith))
digits_plain (suc n) = leading_plain (digits_of (suc n)) (digits_leading (suc n) (omega arith))

pub value_more : (front : ℕ) (bytes : List ℕ) (byte : ℕ) → value_of front (bytes ++ (byte ∷ [])) ≡ value_of front bytes * 10 + (byte - 48)
unfolding value_of
value_more front [] byte = refl
value_more front (first ∷ bytes) byte = value_more (front * 10 + (first - 48)) bytes byte

pub digits_value : (n : ℕ) → value_of 0 (digits_of n) ≡ n
unfolding value_of
digits_value =
    by_digits (λ n. value_of 0 (digits_of n) ≡ n)
    (λ n l. rw (digits_one n l) (first n))
    (λ n l rest. rw (digits_more n l, value_more 0 (digits_of (n / 10)) (48 + n % 10), rest) (omega arith))
  where
    first : (n : ℕ) → value_of 0 ((48 + n) ∷ []) ≡ n
    first n = omega arith

digits_follow : (bytes : List ℕ) (front : ℕ) → 0 < front → all_digits bytes ≡ true → digits_of (value_of front bytes) ≡ digits_of front ++ bytes
unfolding all_digits value_of
digits_follow [] front h e = sym (append-nil (digits_of front))
digits_follow (byte ∷ bytes) front h e =
    let low : 48 ≤ byte = digit_low byte (and_left (is_digit byte) (all_digits bytes) e) in
    let high : byte ≤ 57 = digit_high byte (and_left (is_digit byte) (all_digits bytes) e) in
    let n : ℕ = front * 10 + (byte - 48) in
    let tenth : n / 10 ≡ front = omega arith in
    let last : 48 + n % 10 ≡ byte = omega arith in
    digits_follow bytes n (omega arith) (and_right (is_digit byte) (all_digits bytes) e) ∙
    rw (digits_more n (omega arith), tenth, last, append_assoc)

pub plain_is : (bytes : List ℕ) → plain bytes ≡ true → digits_of (value_of 0 bytes) ≡ bytes
unfolding all_digits value_of
plain_is [] e = cc
plain_is (byte ∷ []) e =
    let low : 48 ≤ byte = digit_low byte e in
    let high : byte ≤ 57 = digit_high byte e in
    let same : 48 + (0 * 10 + (byte - 48)) ≡ byte = omega arith in
    rw (digits_one (0 * 10 + (byte - 48)) (omega arith), same)
plain_is (byte ∷ (next ∷ bytes)) e =
    let digits : all_digits (byte ∷ next ∷ bytes) ≡ true = and_right (not (eqb byte 48)) (all_digits (byte ∷ next ∷ bytes)) e in
    let first : is_digit byte ≡ true = and_left (is_digit byte) (all_digits (next ∷ bytes)) digits in
    let low : 48 ≤ byte = digit_low byte first in
    let high : byte ≤ 57 = digit_high byte first in
    let other : ¬ (byte ≡ 48) = eqb-false byte 48 (not-true (eqb byte 48) (and_left (not (eqb byte 48)) (all_digits (byte ∷ next ∷ bytes)) e)) in
    let front : ℕ = 0 * 10 + (byte - 48) in
    let same : 48 + front ≡ byte = omega arith in
    digits_follow (next ∷ bytes) front (omega arith) (and_right (is_digit byte) (all_digits (next ∷ bytes)) digits) ∙
    rw (digits_one front (omega arith), same)

-- ---- numbers

natural_is : (bytes : List ℕ) (n : ℕ) → natural_of bytes ≡ some n → digits_of n ≡ bytes
natural_is bytes n e = go (plain bytes) refl e
  where
    go : (b : Bool) → plain bytes ≡ b → cond b (some (value_of 0 bytes)) none ≡ some n → digits_of n ≡ bytes
    go true h e = let v : value_of 0 bytes ≡ n = cc in rw (← v) (plain_is bytes h)
    go false h e = cc

digits_natural : (n : ℕ) → natural_of (digits_of n) ≡ some n
digits_natural n = rw (digits_plain n, digits_value n)

-- digits do not begin with `-`
plain-positive : (bytes : List ℕ) → plain bytes ≡ true → number_of bytes ≡ positive (natural_of bytes)
unfolding all_digits number_of
plain-positive [] e = cc
plain-positive (byte ∷ bytes) e =
    let low : 48 ≤ byte = digit_low byte (and_left (is_digit byte) (all_digits bytes) (plain_digits (byte ∷ bytes) e)) in
    rw (ne_eqb byte 45 (λ same. omega arith))

-- a written number is read as that number
pub number_of_written : (z : ℤ) → number_of (written_number z) ≡ some z
unfolding number_of written_number
number_of_written (pos n) = plain-positive (digits_of n) (digits_plain n) ∙ ap positive (digits_natural n)
number_of_written (negsuc n) = ap negative (digits_natural (suc n))

positive_is : (bytes : List ℕ) (z : ℤ) (read : Option ℕ) → natural_of bytes ≡ read → positive read ≡ some z → written_number z ≡ bytes
unfolding written_number
positive_is bytes z none h e = cc
positive_is bytes z (some n) h e = let same : pos n ≡ z = cc in rw (← same) (natural_is bytes n h)

negative_is : (bytes : List ℕ) (z : ℤ) (read : Option ℕ) → natural_of bytes ≡ read → negative read ≡ some z → written_number z ≡ 45 ∷ bytes
unfolding written_number
negative_is bytes z none h e = cc
negative_is bytes z (some zero) h e = cc
negative_is bytes z (some (suc n)) h e = let same : negsuc n ≡ z = cc in rw (← same) (ap (λ (l : List ℕ). 45 ∷ l) (natural_is bytes (suc n) h))

-- bytes that are read as a number are that number as it is written
pub written_of_number : (bytes : List ℕ) (z : ℤ) → number_of bytes ≡ some z → written_number z ≡ bytes
unfolding number_of
written_of_number [] z e = cc
written_of_number (byte ∷ bytes) z e = go (eqb byte 45) refl e
  where
    go : (b : Bool) → eqb byte 45 ≡ b → cond b (negative (natural_of bytes)) (positive (natural_of (byte ∷ bytes))) ≡ some z → written_number z ≡ byte ∷ bytes
    go true h e = rw (eqb-true byte 45 h) (negative_is bytes z (natural_of bytes) refl e)
    go false h e = positive_is (byte ∷ bytes) z (natural_of (byte ∷ bytes)) refl e

-- a written number is one line, with at least one byte
pub number_line : (z : ℤ) → OneLine (written_number z)
unfolding written_number
number_line (pos n) = digits_line (digits_of n) (plain_digits (digits_of n) (digits_plain n))
number_line (negsuc n) = one_line_byte 45 (digits_of (suc n)) refl (digits_line (digits_of (suc n)) (plain_digits (digits_of (suc n)) (digits_plain (suc n))))

plain_some : (bytes : List ℕ) → plain bytes ≡ true → 0 < length bytes
plain_some [] e = let z : ◌≡◌ {A = ℕ} 0 1 = cc in omega arith
plain_some (byte ∷ bytes) e = omega arith

digits_some : (n : ℕ) → 0 < length (digits_of n)
digits_some n = plain_some (digits_of n) (digits_plain n)

pub number_some : (z : ℤ) → 0 < length (written_number z)
unfolding written_number
number_some (pos n) = digits_some n
number_some (negsuc n) = omega arith

-- ---- how many digits

pub count_one : (n : ℕ) → n < 10 → length (digits_of n) ≡ 1
count_one n l = ap length (digits_one n l)

pub count_more : (n : ℕ) → 10 ≤ n → length (digits_of n) ≡ length (digits_of (n / 10)) + 1
count_more n l = ap length (digits_more n l) ∙ length-append (digits_of (n / 10)) ((48 + n % 10) ∷ [])

pub count_bound : (n : ℕ) → length (digits_of n) ≤ n / 2 + 1
count_bound =
    by_digits (λ n. length (digits_of n) ≤ n / 2 + 1)
    (λ n l. omega (arith, count_one n l))
    (λ n l rest. omega (arith, count_more n l))

-- a number below a power of ten has no more digits than that power
pub digits_within_lem : (k n : ℕ) → n < 10 ^ suc k → length (digits_of n) ≤ suc k
digits_within_lem zero n h = omega (arith, count_one n h)
digits_within_lem (suc k) n h = go (ltb n 10) refl (digits_within_lem k (n / 10))
  where
    go : (b : Bool) → ltb n 10 ≡ b → (n / 10 < 10 ^ suc k → length (digits_of (n / 10)) ≤ suc k) → length (digits_of n) ≤ suc (suc k)
    go true b others = omega (arith, count_one n (ltb-true n 10 b))
    go false b others = omega (arith, count_more n (ltb-false n 10 b), others ((div-lt_iff_lt-mul {k = 10} {x = n} {y = 10 ^ suc k} (omega arith)).1 (rw (pow-suc 10 (suc k)) at h)))

-- one that reaches a power of ten has one digit more
pub digits_beyond : (k n : ℕ) → 10 ^ k ≤ n → suc k ≤ length (digits_of n)
digits_beyond zero n h = digits_some n
digits_beyond (suc k) n h =
    let p = pow-suc 10 k in
    omega (arith, count_more n (omega (arith, p, power_some k)), digits_beyond k (n / 10) (omega (arith, p)))
  where
    power_some : (k : ℕ) → 1 ≤ 10 ^ k
    power_some zero = omega arith
    power_some (suc k) = omega (arith, pow-suc 10 k, power_some k)

-- a machine number has at most twenty digits
pub twenty_digits : (n : ℕ) → n < 2 ^ 64 → length (digits_of n) ≤ 20
twenty_digits n h = digits_within_lem 19 n (omega arith)

-- ---- a number as it is written, by its sign

pub written_natural : (n : ℕ) → written_number (pos n) ≡ digits_of n
unfolding written_number
written_natural n = refl

pub written_below : (n : ℕ) → written_number (negsuc n) ≡ 45 ∷ digits_of (suc n)
unfolding written_number
written_below n = refl

pub number_bound : (z : ℤ) → length (written_number z) ≤ nat_abs z / 2 + 2
unfolding written_number
number_bound (pos n) = omega (arith, count_bound n)
number_bound (negsuc n) = omega (arith, count_bound (suc n))

-- how many bytes a number has, by its magnitude: one more where it may be below zero
pub written_within : (k : ℕ) (z : ℤ) → nat_abs z < 10 ^ suc k → length (written_number z) ≤ suc (suc k)
unfolding written_number
written_within k (pos n) h = omega (arith, digits_within_lem k n h)
written_within k (negsuc n) h = omega (arith, digits_within_lem k (suc n) h)

pub natural_within : (k : ℕ) (z : ℤ) → le_z (pos 0) z ≡ true → nat_abs z < 10 ^ suc k → length (written_number z) ≤ suc k
unfolding written_number
natural_within k (pos n) e h = digits_within_lem k n h
natural_within k (negsuc n) e h = let z : ◌≡◌ {A = ℕ} 0 1 = cc in absurd (omega arith)
