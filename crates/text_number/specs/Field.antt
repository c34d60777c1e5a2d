-- A line that holds a number.
use Rattle.std.specs.Prelude.{List, ℕ, ℤ, Result, Ok, Err}
use Rattle.text_line.specs.Judged.{Judged, good, bad}
use Rattle.text_line.specs.Field.{Field}
use Rattle.text_number.specs.Number.{number_in, written_number, number_refusal}
use Rattle.text_number.specs.declared.NumberError.{NumberError}

-- the number, or document 01's number of the refusal
abbrev pub judged_number : {A : Type 0} → Result A NumberError → Judged A
judged_number (Ok z) = good z
judged_number {A = A} (Err e) = bad (number_refusal {A = A} (Err e))

-- a number from low to high under a key
abbrev pub number_field : List ℕ → ℤ → ℤ → Field ℤ
number_field key low high =
    record {
      key = key;
      read = λ value. judged_number (number_in low high value);
      write = written_number;
    }
