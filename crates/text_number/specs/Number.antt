-- Document 01, "Texts": a number is decimal digits, `-` in front if below zero, no leading zero, no `-0`. Refusals 6 and 7.
use Rattle.std.specs.Prelude.{ℕ, zero, suc, ◌+◌, ◌-◌, ◌*◌, ◌/◌, ◌%◌, Bool, true, false, not, ◌&&◌, cond, List, [], ◌∷◌, ◌++◌, eqb, ltb, leb, ℤ, pos, negsuc, Result, Ok, Err}
use Rattle.std.proofs.Math.Option.{Option, none, some}
use Rattle.std.specs.Int.Signed.{le_z}
use Rattle.text_number.specs.declared.NumberError.{NumberError}
use Rattle.text_number.specs.declared.NumberError.TheVariants as error

-- `0` to `9`
abbrev pub is_digit : ℕ → Bool
is_digit byte = leb 48 byte && leb byte 57

unfoldable pub all_digits : List ℕ → Bool
all_digits [] = true
all_digits (byte ∷ rest) = is_digit byte && all_digits rest

-- the value of digits that follow digits of the value `front`
unfoldable pub value_of : ℕ → List ℕ → ℕ
value_of front [] = front
value_of front (byte ∷ rest) = value_of (front * 10 + (byte - 48)) rest

-- at least one digit, digits alone, no leading zero
abbrev pub plain : List ℕ → Bool
plain [] = false
plain (byte ∷ []) = is_digit byte
plain (byte ∷ (next ∷ rest)) = not (eqb byte 48) && all_digits (byte ∷ next ∷ rest)

-- a number above zero, or zero, from its digits
abbrev pub natural_of : List ℕ → Option ℕ
natural_of digits = cond (plain digits) (some (value_of 0 digits)) none

abbrev pub positive : Option ℕ → Option ℤ
positive none = none
positive (some n) = some (pos n)

-- `-0` is no number
abbrev pub negative : Option ℕ → Option ℤ
negative none = none
negative (some zero) = none
negative (some (suc n)) = some (negsuc n)

-- the number that a value's bytes write; none where it is badly written. 45 is `-`
unfoldable pub number_of : List ℕ → Option ℤ
number_of [] = none
number_of (byte ∷ rest) = cond (eqb byte 45) (negative (natural_of rest)) (positive (natural_of (byte ∷ rest)))

-- what the bytes of a value say: a well written number in its range, one outside it, or a badly written one
abbrev pub in_range : ℤ → ℤ → ℤ → Result ℤ NumberError
in_range low high z = cond (le_z low z && le_z z high) (Ok z) (Err error.Outside)

abbrev pub ranged : ℤ → ℤ → Option ℤ → Result ℤ NumberError
ranged low high none = Err error.Malformed
ranged low high (some z) = in_range low high z

abbrev pub number_in : ℤ → ℤ → List ℕ → Result ℤ NumberError
number_in low high value = ranged low high (number_of value)

-- document 01's number for each case: a number outside its range is refused by 7, a badly written one by 6; 0 is no refusal
abbrev pub number_refusal : {A : Type 0} → Result A NumberError → ℕ
number_refusal (Ok z) = 0
number_refusal (Err error.Outside) = 7
number_refusal (Err error.Malformed) = 6

-- the digits of a number, the last one n mod 10; `steps` bounds their number from above
unfoldable pub digits_within : ℕ → ℕ → List ℕ
digits_within zero n = (48 + n % 10) ∷ []
digits_within (suc steps) n = elim (ltb n 10) [ true ↦ (48 + n) ∷ [] | false ↦ digits_within steps (n / 10) ++ ((48 + n % 10) ∷ []) ]

abbrev pub digits_of : ℕ → List ℕ
digits_of n = digits_within n n

-- a number as it is written
unfoldable pub written_number : ℤ → List ℕ
written_number (pos n) = digits_of n
written_number (negsuc n) = 45 ∷ digits_of (suc n)
