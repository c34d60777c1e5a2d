-- How many bytes numbers and their marks have. Nobody needs to believe this page: it stands in no contract of a public function.
use Rattle.std.specs.Prelude.{ℕ, zero, suc, ◌+◌, ◌/◌, ◌%◌, List, [], ◌∷◌, ℤ, length}
use Rattle.text_number.specs.Number.{written_number}

-- the bytes of numbers as they are written, the sign of each with its digits
unfoldable pub number_bytes : List ℤ → ℕ
number_bytes [] = 0
number_bytes (z ∷ values) = length (written_number z) + number_bytes values

-- the marks of so many numbers, one byte each
unfoldable pub mark_bytes : ℕ → ℕ → ℕ
mark_bytes zero marks = 0
mark_bytes (suc count) marks = marks % 2 + mark_bytes count (marks / 2)
