-- How the code of this crate holds a number. Nobody needs to believe this page: it stands in no contract of a public function.
use Rattle.std.specs.Prelude.{ℕ, Bool, true, false, not, ◌&&◌, cond, List, leb, ℤ, pos, negsuc, length, Result, Ok, Err}
use Rattle.std.proofs.Math.Option.{Option}
use Rattle.std.specs.Int.Signed.{le_z}
use Rattle.text_number.specs.Number.{plain, value_of, positive, negative}
use Rattle.text_number.specs.declared.NumberError.{NumberError}
use Rattle.text_number.specs.declared.NumberError.TheVariants as error

-- the natural number that bytes write, of at most nineteen digits; a longer one is beyond every range
unfoldable pub held_natural : List ℕ → Result ℕ NumberError
held_natural digits =
    cond (plain digits)
    (cond (leb (length digits) 19) (Ok (value_of 0 digits)) (Err error.Outside))
    (Err error.Malformed)

-- a number by its sign and magnitude
abbrev pub signed_number : Bool → Option ℕ → Option ℤ
signed_number true magnitude = negative magnitude
signed_number false magnitude = positive magnitude

-- a number by its distance from 0, or from -1 where it is below zero, so that both ends of the machine's range have the same
abbrev pub signed : Bool → ℕ → ℤ
signed true distance = negsuc distance
signed false distance = pos distance

-- outside its range
abbrev pub is_outside : ℤ → ℤ → ℤ → Bool
is_outside low high z = not (le_z low z && le_z z high)
