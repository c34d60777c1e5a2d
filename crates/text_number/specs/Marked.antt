-- Document 02, W-206: a number that may end in one `?`, by which a reading is marked suspect.
use Rattle.std.specs.Prelude.{ℕ, ◌+◌, ◌-◌, ◌*◌, ◌/◌, ◌%◌, Bool, true, false, cond, List, [], ◌∷◌, ◌++◌, map, eqb, ℤ, length, get_or, Result, Ok, Err}
use Rattle.text_line.specs.Judged.{Judged}
use Rattle.text_line.specs.Piece.{part}
use Rattle.text_line.specs.Field.{Field}
use Rattle.text_number.specs.Number.{number_in, written_number}
use Rattle.text_number.specs.Field.{judged_number}
use Rattle.text_number.specs.declared.NumberError.{NumberError}
use Rattle.text_number.specs.declared.marked.Marked.{Marked}

-- ---- reading

-- whether the last byte is `?` (63), and the bytes before the last
abbrev pub ends_in_mark : List ℕ → Bool
ends_in_mark value = eqb (get_or value (length value - 1) 0) 63

abbrev pub without_mark : List ℕ → List ℕ
without_mark value = part value 0 (length value - 1)

-- what the bytes of a value say: a number without a mark, one with a mark, one out of its range, or a badly written one
abbrev pub with_mark : Bool → Result ℤ NumberError → Result Marked NumberError
with_mark suspect (Ok z) = Ok (record { number = z; suspect = suspect })
with_mark suspect (Err e) = Err e

abbrev pub plain_number : Result ℤ NumberError → Result Marked NumberError
plain_number n = with_mark false n

abbrev pub suspect_number : Result ℤ NumberError → Result Marked NumberError
suspect_number n = with_mark true n

-- the bytes before one `?` are read as a number: a mark alone and a second mark are badly written
unfoldable pub marked_in : ℤ → ℤ → List ℕ → Result Marked NumberError
marked_in low high value = cond (ends_in_mark value) (suspect_number (number_in low high (without_mark value))) (plain_number (number_in low high value))

-- document 01's number for each refusal is `number_refusal`
abbrev pub judged_marked : Result Marked NumberError → Judged Marked
judged_marked m = judged_number m

-- ---- writing

-- the mark stands after the number
unfoldable pub written_marked : Marked → List ℕ
written_marked m = written_number m.number ++ cond m.suspect (63 ∷ []) []

-- ---- lines

-- a number from low to high under a key, which may be marked
abbrev pub marked_field : List ℕ → ℤ → ℤ → Field Marked
marked_field key low high =
    record {
      key = key;
      read = λ value. judged_marked (marked_in low high value);
      write = written_marked;
    }

-- one that carries no mark, in a schema where others may: a mark is badly written
abbrev pub unmarked_field : List ℕ → ℤ → ℤ → Field Marked
unmarked_field key low high =
    record {
      key = key;
      read = λ value. judged_marked (plain_number (number_in low high value));
      write = written_marked;
    }

-- ---- the marks of several numbers as one number: 1 for the first number, 2 for the second, 4 for the third, and so on

abbrev pub numbers_of : List Marked → List ℤ
numbers_of values = map (λ (m : Marked). m.number) values

unfoldable pub marks_of : List Marked → ℕ
marks_of [] = 0
marks_of (m ∷ values) = cond m.suspect 1 0 + 2 * marks_of values

-- whether the first number is marked
abbrev pub first_marked : ℕ → Bool
first_marked marks = eqb (marks % 2) 1

-- numbers with their marks
unfoldable pub marked_by : ℕ → List ℤ → List Marked
marked_by marks [] = []
marked_by marks (z ∷ numbers) = record { number = z; suspect = first_marked marks } ∷ marked_by (marks / 2) numbers
