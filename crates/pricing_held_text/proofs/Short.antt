-- No written text is longer than 516198 bytes: 102 for the header and 126 for each of 4096 rows, of which 5 are marks.
use Prim.Native.Nat.{ℕ, zero, suc, ◌*◌, ◌≤◌}
use native.Mathlib.Omega.{arith}
use mathlib.Core.List.{List, [], ◌∷◌, ◌++◌}
use mathlib.Core.Path.{◌≡◌, refl, sym, ap, ◌∙◌}
use lib.IntN.{ℤ}
use lib.ListN.{length, length-append}
use Rattle.std.specs.Prelude.{Ok}
use Rattle.text_refusal.specs.Bytes.{bytes}
use Rattle.text_word.specs.Word.{written_word}
use Rattle.text_schema.specs.Checked.{checked_line, checked_lines, text_of, first_refused}
use Rattle.text_schema.proofs.Checked.{Unrefused, accepted_unrefused, text_none, text_first, text_append, unrefused_both, wide_text}
use Rattle.text_schema.proofs.MarkedWidths.{marked_wide}
use Rattle.text_writer.proofs.Writing.{text_line_length}
use Rattle.text_id_table.proofs.Ids.{id_few}
use Rattle.pricing_sums.specs.Header.{header_values}
use Rattle.pricing_resource_text.specs.Resource.{kind_words, kind_field, status_words, status_field, generator_fields}
use Rattle.pricing_resource_text.proofs.Places.{generator_widths, controllable_widths, load_widths}
use Rattle.pricing_snapshot.proofs.HeaderLines.{header_wide}
use Rattle.pricing_held.specs.Rows.{Row, marked_numbers, held_count, row_at, rows_from, held_rows, header_held}
use Rattle.pricing_held.specs.Lines.{id_line, lines_of_kind, row_lines, rows_lines, header_checked, held_answer, held_text}
use Rattle.pricing_held.proofs.Definitions.{row_at_is, rows_from_none, rows_from_more, row_lines_are, rows_lines_none, rows_lines_more, held_lines_are}
use Rattle.pricing_held.proofs.Held.{held_accepted, held_few, held_text_lem}
use Rattle.pricing_held_text.proofs.Listed.{word_short}

-- ---- a row

-- its lines after the kind's
lines_short : (k : ℕ) (row : Row) → Unrefused (lines_of_kind k row) → length (text_of (lines_of_kind k row)) ≤ 96
lines_short zero row all = generator_short row all
  where
    generator_short : (row : Row) → Unrefused (lines_of_kind 0 row) → length (text_of (lines_of_kind 0 row)) ≤ 96
    generator_short row all =
        let numbers = checked_lines generator_fields (marked_numbers row) in
        let line = checked_line status_field row.status in
        omega (
          arith,
          ap length (text_first line numbers),
          length-append line.bytes (text_of numbers),
          text_line_length (bytes "status=") (written_word status_words row.status),
          word_short 8 status_words refl row.status,
          marked_wide generator_widths (marked_numbers row) all.1,
        )
lines_short (suc zero) row all = lines_short zero row all
lines_short (suc (suc zero)) row all = lines_short zero row all
lines_short (suc (suc (suc zero))) row all = lines_short zero row all
lines_short (suc (suc (suc (suc zero)))) row all = omega (arith, marked_wide controllable_widths (marked_numbers row) all)
lines_short (suc (suc (suc (suc (suc k))))) row all = omega (arith, marked_wide load_widths (marked_numbers row) all)

row_short : (above : List (List ℕ)) (row : Row) → length row.id ≤ 16 → Unrefused (row_lines above row) → length (text_of (row_lines above row)) ≤ 126
row_short above row few all =
    let kind_line = checked_line kind_field row.kind in
    let rest = lines_of_kind row.kind row in
    let told : Unrefused (id_line above row.id ∷ (kind_line ∷ rest)) = rw (row_lines_are above row) at all in
    omega (
      arith,
      ap length (ap text_of (row_lines_are above row) ∙ text_first (id_line above row.id) (kind_line ∷ rest)),
      length-append (id_line above row.id).bytes (text_of (kind_line ∷ rest)),
      text_line_length (bytes "id=") row.id,
      ap length (text_first kind_line rest),
      length-append kind_line.bytes (text_of rest),
      text_line_length (bytes "kind=") (written_word kind_words row.kind),
      word_short 4 kind_words refl row.kind,
      lines_short row.kind row told.1.1,
    )

-- ---- the rows and the whole

rows_short : (ids : List ℕ) (numbers : List ℤ) (i n : ℕ) (above : List (List ℕ)) → Unrefused (rows_lines above (rows_from ids numbers i n)) → length (text_of (rows_lines above (rows_from ids numbers i n))) ≤ 126 * n
rows_short ids numbers i zero above all = rw (rows_from_none ids numbers i, rows_lines_none above, text_none) (omega arith)
rows_short ids numbers i (suc n) above all =
    let row = row_at ids numbers i in
    let rows = rows_from ids numbers (suc i) n in
    let more : rows_lines above (rows_from ids numbers i (suc n)) ≡ row_lines above row ++ rows_lines (row.id ∷ above) rows = ap (rows_lines above) (rows_from_more ids numbers i n) ∙ rows_lines_more above row rows in
    let both = unrefused_both (row_lines above row) (rows_lines (row.id ∷ above) rows) (rw more at all) in
    let few : length row.id ≤ 16 = rw (row_at_is ids numbers i) (id_few 0 ids (32 * i)) in
    omega (
      arith,
      ap length (ap text_of more ∙ text_append (row_lines above row) (rows_lines (row.id ∷ above) rows)),
      length-append (text_of (row_lines above row)) (text_of (rows_lines (row.id ∷ above) rows)),
      row_short above row few both.0,
      rows_short ids numbers (suc i) n (row.id ∷ above) both.1,
    )

pub held_text_short : (header : List ℤ) (ids : List ℕ) (numbers : List ℤ) → held_answer header ids numbers ≡ Ok tt → length (held_text header ids numbers) ≤ 516198
held_text_short header ids numbers accepted =
    let h = header_held header (held_count ids numbers) in
    let rows = rows_lines [] (held_rows ids numbers) in
    let all = accepted_unrefused 1 (header_checked h ++ rows) (ap (first_refused 1) (sym (held_lines_are header ids numbers)) ∙ (held_accepted header ids numbers accepted).lines_accepted) in
    let both = unrefused_both (header_checked h) rows all in
    omega (
      arith,
      ap length (held_text_lem header ids numbers),
      length-append (text_of (header_checked h)) (text_of rows),
      wide_text header_wide (header_values h) both.0,
      rows_short ids numbers 0 (held_count ids numbers) [] both.1,
      held_few header ids numbers accepted,
    )
