-- Internal: the text of one row.
use Rattle.std.specs.Prelude.{ℕ, List, [], ◌∷◌, ◌++◌}
use Rattle.text_schema.specs.Checked.{text_of}
use Rattle.pricing_held.specs.Rows.{Row}
use Rattle.pricing_held.specs.Lines.{row_lines}

-- the text of a row: which ids stand above does not show in it
abbrev pub row_text : Row → List ℕ
row_text row = text_of (row_lines [] row)

-- the text of several
unfoldable pub rows_text : List Row → List ℕ
rows_text [] = []
rows_text (row ∷ rows) = row_text row ++ rows_text rows
