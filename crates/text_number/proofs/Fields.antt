-- Laws of a line that holds a number: what it gives by what the reader of numbers says of its value, and what a number that was read lies between.
use Prim.Native.Nat.{ℕ, ◌≤◌}
use native.Mathlib.Omega.{arith}
use mathlib.Core.Bool.{Bool, true, false, ◌&&◌, cond}
use mathlib.Core.List.{List}
use mathlib.Core.Option.{Option, none, some}
use mathlib.Core.Path.{◌≡◌, refl, sym, ap, ◌∙◌}
use lib.IntN.{ℤ}
use lib.ListN.{length}
use lib.Signed.{le_z}
use Rattle.std.specs.Prelude.{Result, Ok, Err}
use Rattle.text_refusal.proofs.Choices.{and_left, and_right}
use Rattle.text_line.specs.Judged.{good, bad}
use Rattle.text_line.specs.Line.{value_at, value_fault}
use Rattle.text_line.specs.Field.{got, refused, next_at, field_at}
use Rattle.text_line.proofs.Fields.{NoneEmpty, field_got, field_within, field_refused}
use Rattle.text_number.specs.Number.{number_of, ranged, number_in, number_refusal}
use Rattle.text_number.specs.Field.{judged_number, number_field}
use Rattle.text_number.specs.declared.NumberError.{NumberError}
use Rattle.text_number.specs.declared.NumberError.TheVariants as error

-- no bytes are no number
pub number_none_empty : (key : List ℕ) (low high : ℤ) → NoneEmpty (number_field key low high)
unfolding number_of
number_none_empty key low high value e = let z : ◌≡◌ {A = ℕ} 0 1 = cc in omega arith

-- what the reader of numbers said of the line's value, and what the line gives
module _ (key text : List ℕ) (at : ℕ) (low high : ℤ) {value : List ℕ} {n : Result ℤ NumberError} (same : value ≡ value_at key text at) (is : n ≡ number_in low high value) where
  judged_is : {said : Result ℤ NumberError} → n ≡ said → (number_field key low high).read (value_at key text at) ≡ judged_number said
  judged_is told = ap judged_number (ap (number_in low high) (sym same) ∙ sym is ∙ told)

  pub number_got : {z : ℤ} → n ≡ Ok z → got z (next_at at key value) ≡ field_at (number_field key low high) text at
  number_got told = rw same (field_got (number_field key low high) text at (number_none_empty key low high) (judged_is told))

  pub number_within : {z : ℤ} → n ≡ Ok z → next_at at key value ≤ length text
  number_within told = rw same (field_within (number_field key low high) text at (number_none_empty key low high) (judged_is told)).0

  -- a number that was not taken: the line's own fault, or 7, or 6
  pub number_refused : ((z : ℤ) → n ≡ Ok z → ⊥) → refused (value_fault key text at (number_refusal n)) ≡ field_at (number_field key low high) text at
  number_refused not_taken = go n refl
    where
      go : (said : Result ℤ NumberError) → n ≡ said → refused (value_fault key text at (number_refusal n)) ≡ field_at (number_field key low high) text at
      go (Ok z) told = absurd (not_taken z told)
      go (Err error.Outside) told = rw told (field_refused (number_field key low high) text at (judged_is told))
      go (Err error.Malformed) told = rw told (field_refused (number_field key low high) text at (judged_is told))

-- a number that was refused was not taken
pub not_taken : {n : Result ℤ NumberError} {e : NumberError} → n ≡ Err e → (z : ℤ) → n ≡ Ok z → ⊥
not_taken {e = e} is z told = let n : ◌≡◌ {A = Result ℤ NumberError} (Err e) (Ok z) = sym is ∙ told in cc

-- a number that was read is the value in its range
pub number_between : (low high z : ℤ) (bytes : List ℕ) → judged_number (number_in low high bytes) ≡ good z → (le_z low z ≡ true) × (le_z z high ≡ true)
number_between low high z bytes e = go (number_of bytes) e
  where
    go : (o : Option ℤ) → judged_number (ranged low high o) ≡ good z → (le_z low z ≡ true) × (le_z z high ≡ true)
    go none e = let n : ◌≡◌ {A = ℕ} 0 1 = cc in absurd (omega arith)
    go (some y) e = by (le_z low y && le_z y high) refl e
      where
        by : (b : Bool) → (le_z low y && le_z y high) ≡ b → judged_number (cond b (Ok y) (Err error.Outside)) ≡ good z → (le_z low z ≡ true) × (le_z z high ≡ true)
        by true h e = let same : y ≡ z = cc in rw (← same) (and_left (le_z low y) (le_z y high) h, and_right (le_z low y) (le_z y high) h)
        by false h e = let n : ◌≡◌ {A = ℕ} 0 1 = cc in absurd (omega arith)

-- a refused number has document 01's number, which is not 0
pub number_refused_some : {A : Type 0} (n : Result A NumberError) {k : ℕ} → judged_number n ≡ bad k → (6 ≤ k) × (k ≤ 7)
number_refused_some (Ok z) e = let n : ◌≡◌ {A = ℕ} 0 1 = cc in absurd (omega arith)
number_refused_some (Err error.Outside) {k} e = let same : k ≡ 7 = cc in (omega arith, omega arith)
number_refused_some (Err error.Malformed) {k} e = let same : k ≡ 6 = cc in (omega arith, omega arith)
