-- Document 02, W-204: the lines of a snapshot held as values, each with the number by which it is refused: 7 for a value out of range, 6 for an ill-formed or empty
-- id, 8 for a repeated one, and 6 for a kind or a status outside its list, or for a flag that is marked. The earliest line comes first. Then 15 (W-206).
use Rattle.std.specs.Prelude.{ℕ, zero, suc, cond, List, [], ◌∷◌, ◌++◌, eqb, ℤ, Ok}
use Rattle.text_refusal.specs.Bytes.{bytes}
use Rattle.text_refusal.specs.Answer.{Answer, refusal, followed_by}
use Rattle.text_id.specs.Id.{id_field}
use Rattle.text_id_table.specs.Ids.{stands_in}
use Rattle.text_schema.specs.Checked.{CheckedLine, checked_line, checked_lines, text_of, first_refused}
use Rattle.pricing_sums.specs.Header.{header_values}
use Rattle.pricing_sums.specs.declared.header.Header.{Header}
use Rattle.pricing_resource_text.specs.Resource.{kind_field, status_field, generator_fields, controllable_fields, load_fields}
use Rattle.pricing_resource.specs.Suspect.{suspect_line}
use Rattle.pricing_snapshot.specs.Snapshot.{header_fields, resources_of}
use Rattle.pricing_held.specs.Rows.{Row, marked_numbers, held_count, held_rows, header_held, contents_held}

-- ---- the lines of a resource

-- one that stands above is refused by 8, after 6
abbrev pub new_id : List (List ℕ) → List ℕ → CheckedLine → CheckedLine
new_id above id line = record { bytes = line.bytes; number = cond (eqb line.number 0) (cond (stands_in id above) 8 0) line.number }

abbrev pub id_line : List (List ℕ) → List ℕ → CheckedLine
id_line above id = new_id above id (checked_line (id_field (bytes "id=")) id)

-- the lines of a generator after its kind's: its status and six numbers
abbrev pub generator_lines : Row → List CheckedLine
generator_lines row = checked_line status_field row.status ∷ checked_lines generator_fields (marked_numbers row)

-- the lines after the kind's, by the kind's place in the list of words: `gen`, `wind`, `irr`, `nuke`, `clr`, `nclr`; a load has four numbers
abbrev pub lines_of_kind : ℕ → Row → List CheckedLine
lines_of_kind zero row = generator_lines row
lines_of_kind (suc zero) row = generator_lines row
lines_of_kind (suc (suc zero)) row = generator_lines row
lines_of_kind (suc (suc (suc zero))) row = generator_lines row
lines_of_kind (suc (suc (suc (suc zero)))) row = checked_lines controllable_fields (marked_numbers row)
lines_of_kind (suc (suc (suc (suc (suc n))))) row = checked_lines load_fields (marked_numbers row)

-- the lines of a row below the ids above: `id`, `kind`, then those of the kind
unfoldable pub row_lines : List (List ℕ) → Row → List CheckedLine
row_lines above row = id_line above row.id ∷ (checked_line kind_field row.kind ∷ lines_of_kind row.kind row)

unfoldable pub rows_lines : List (List ℕ) → List Row → List CheckedLine
rows_lines above [] = []
rows_lines above (row ∷ rows) = row_lines above row ++ rows_lines (row.id ∷ above) rows

-- ---- the lines of a snapshot

abbrev pub header_checked : Header → List CheckedLine
header_checked h = checked_lines header_fields (header_values h)

-- the header's lines, then those of the rows
unfoldable pub held_lines : List ℤ → List ℕ → List ℤ → List CheckedLine
held_lines header ids numbers = header_checked (header_held header (held_count ids numbers)) ++ rows_lines [] (held_rows ids numbers)

-- 15 at a line, or nothing at 0
abbrev pub suspect_answer : ℕ → Answer
suspect_answer line = cond (eqb line 0) (Ok tt) (refusal 15 line)

-- the first refused line, then 15 with that of the first marked number on a unit where that turns the snapshot back
unfoldable pub held_answer : List ℤ → List ℕ → List ℤ → Answer
held_answer header ids numbers =
    followed_by (first_refused 1 (held_lines header ids numbers)) (suspect_answer (suspect_line (resources_of (contents_held header ids numbers).entries)))

-- the text
unfoldable pub held_text : List ℤ → List ℕ → List ℤ → List ℕ
held_text header ids numbers = text_of (held_lines header ids numbers)
