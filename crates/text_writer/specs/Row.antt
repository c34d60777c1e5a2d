-- A row of a table: cells of fixed width, filled up with spaces (byte 32), so that columns stand under each other.
use Rattle.std.specs.Prelude.{ℕ, ◌-◌, List, [], ◌∷◌, ◌++◌, ℤ, length, drop, replicate}
use Rattle.text_number.specs.Number.{written_number}

-- so many spaces
abbrev pub spaces : ℕ → List ℕ
spaces count = replicate count 32

-- a text right-aligned in a width: spaces before it. A cell is never wider: of a text that is longer than the width, its last bytes stand.
unfoldable pub aligned_right : ℕ → List ℕ → List ℕ
aligned_right width text = spaces (width - length text) ++ drop (length text - width) text

-- a text padded right to a width: spaces behind it
unfoldable pub padded_right : ℕ → List ℕ → List ℕ
padded_right width text = text ++ spaces (width - length text)

-- a cell: a space, and a number right-aligned in the width of its column
abbrev pub number_cell : ℕ → ℤ → List ℕ
number_cell width value = 32 ∷ aligned_right width (written_number value)

-- numbers in their columns, one cell after the other
unfoldable pub written_cells : List ℕ → List ℤ → List ℕ
written_cells [] values = []
written_cells (width ∷ widths) [] = []
written_cells (width ∷ widths) (value ∷ values) = number_cell width value ++ written_cells widths values

-- a row: its name, the cells, byte 10
abbrev pub written_row : List ℕ → List ℕ → List ℤ → List ℕ
written_row name widths values = name ++ (written_cells widths values ++ (10 ∷ []))
