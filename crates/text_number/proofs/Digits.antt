-- Laws of digits: each byte of digits, and digits with no leading zero.
use Prim.Native.Nat.{ℕ, zero, suc, ◌≤◌, ◌<◌}
use native.Mathlib.Omega.{arith}
use mathlib.Core.Bool.{Bool, true, false, not, ◌&&◌}
use mathlib.Core.List.{List, [], ◌∷◌}
use mathlib.Core.Path.{◌≡◌, refl, ap}
use lib.Dec.{eqb, leb}
use lib.ListN.{length, get_or}
use borrow.Author.Tests.{leb-true, ne_eqb}
use Rattle.std.specs.List.{list_all}
use Rattle.text_refusal.proofs.Choices.{and_left, and_right}
use Rattle.text_number.specs.Number.{is_digit, all_digits, plain}

-- a test of every byte
pub every_digit : (s : List ℕ) → list_all is_digit s ≡ all_digits s
unfolding all_digits
every_digit [] = refl
every_digit (byte ∷ s) = ap (λ (rest : Bool). is_digit byte && rest) (every_digit s)

pub digit_at : (s : List ℕ) (i : ℕ) → all_digits s ≡ true → i < length s → (48 ≤ get_or s i 0) × (get_or s i 0 ≤ 57)
unfolding all_digits
digit_at [] i d h = absurd (omega arith)
digit_at (byte ∷ s) zero d h =
    let e = and_left (is_digit byte) (all_digits s) d in
    (leb-true 48 byte (and_left (leb 48 byte) (leb byte 57) e), leb-true byte 57 (and_right (leb 48 byte) (leb byte 57) e))
digit_at (byte ∷ s) (suc i) d h = digit_at s i (and_right (is_digit byte) (all_digits s) d) (omega arith)

-- a zero before other bytes
pub plain_led : (s : List ℕ) → 1 < length s → get_or s 0 0 ≡ 48 → plain s ≡ false
plain_led [] l e = absurd (omega arith)
plain_led (byte ∷ []) l e = absurd (omega arith)
plain_led (byte ∷ (next ∷ rest)) l e = rw e

and-true : (t : Bool) → t ≡ (t && true)
and-true true = refl
and-true false = refl

-- one byte alone
pub plain_one : (s : List ℕ) → length s ≡ 1 → plain s ≡ all_digits s
unfolding all_digits
plain_one [] l = absurd (omega arith)
plain_one (byte ∷ []) l = and-true (is_digit byte)
plain_one (byte ∷ (next ∷ rest)) l = absurd (omega arith)

-- digits that no zero leads
pub plain_other : (s : List ℕ) → 0 < length s → (get_or s 0 0 ≡ 48 → ⊥) → plain s ≡ all_digits s
unfolding all_digits
plain_other [] l n = absurd (omega arith)
plain_other (byte ∷ []) l n = and-true (is_digit byte)
plain_other (byte ∷ (next ∷ rest)) l n = rw (ne_eqb byte 48 n)

pub plain_digits : (s : List ℕ) → plain s ≡ true → all_digits s ≡ true
unfolding all_digits
plain_digits [] p = cc
plain_digits (byte ∷ []) p = rw p
plain_digits (byte ∷ (next ∷ rest)) p = and_right (not (eqb byte 48)) (all_digits (byte ∷ (next ∷ rest))) p
