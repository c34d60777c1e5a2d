-- The text of a row, of rows one after the other, and of the whole snapshot.
use Prim.Native.Nat.{ℕ, suc, ◌+◌, ◌*◌, ◌≤◌, ◌<◌}
use native.Mathlib.Numerals.{add-one}
use native.Mathlib.Omega.{arith}
use mathlib.Core.List.{List, [], ◌∷◌, ◌++◌, append_assoc, append-nil}
use mathlib.Core.Path.{◌≡◌, refl, sym, ap, ap₂, ◌∙◌}
use lib.IntN.{ℤ}
use lib.ListN.{length, drop, get_or, length-append, drop_of_length-le}
use lib.Seq.{drop-cons}
use Rattle.std.specs.Simd.{first_chunks}
use Rattle.text_refusal.specs.Bytes.{bytes}
use Rattle.text_word.specs.Word.{written_word}
use Rattle.text_id_table.specs.Ids.{id_at}
use Rattle.text_schema.specs.Schema.{value, keys_of}
use Rattle.text_schema.specs.Checked.{checked_line, text_of}
use Rattle.text_schema.proofs.Checked.{text_none, text_first, text_append, text_written}
use Rattle.text_writer.specs.Write.{written_numbers}
use Rattle.text_writer.proofs.Writing.{text_line_length}
use Rattle.text_writer.proofs.BySchema.{schema_written}
use Rattle.pricing_sums.specs.Header.{header_values}
use Rattle.pricing_sums.specs.declared.header.Header.{Header}
use Rattle.pricing_resource_text.specs.Resource.{kind_words, kind_field}
use Rattle.pricing_snapshot.specs.Snapshot.{header_fields}
use Rattle.pricing_snapshot.proofs.HeaderLines.{header_keys}
use Rattle.pricing_held.specs.Rows.{Row, place_of, held_count, held_rows, header_held}
use Rattle.pricing_held.specs.Lines.{id_line, lines_of_kind, row_lines, rows_lines, held_text}
use Rattle.pricing_held.specs.internal.Checks.{row_of, row_in, rows_in}
use Rattle.pricing_held.proofs.Chunks.{rows_in_none, rows_in_more, rows_held}
use Rattle.pricing_held.proofs.RowChecks.{row_lines_lem}
use Rattle.pricing_held.proofs.Definitions.{row_lines_are, rows_lines_none, rows_lines_more}
use Rattle.pricing_held.proofs.Held.{held_text_lem}
use Rattle.text_writer.specs.internal.Counted.{number_bytes}
use Rattle.pricing_held_text.specs.internal.RowText.{row_text, rows_text}
use Rattle.text_writer.proofs.Counted.{KeyBytes, key_bytes_lem, lines_bytes}

-- ---- a row

module _ (id : List ℕ) (values : List ℤ) where
  abbrev pub id_text : List ℕ
  id_text = bytes "id=" ++ (id ++ (10 ∷ []))

  abbrev pub kind_at : ℕ
  kind_at = place_of (value values 0)

  abbrev pub kind_text : List ℕ
  kind_text = bytes "kind=" ++ (written_word kind_words kind_at ++ (10 ∷ []))

  abbrev pub values_text : List ℕ
  values_text = text_of (lines_of_kind kind_at (row_of values))

  pub row_text_lem : row_text (row_in id values) ≡ id_text ++ (kind_text ++ values_text)
  row_text_lem =
      let rest = checked_line kind_field kind_at ∷ lines_of_kind kind_at (row_of values) in
      ap text_of (row_lines_lem id values [])
      ∙ text_first (id_line [] id) rest
      ∙ ap (λ (rest : List ℕ). bytes "id=" ++ (id ++ (10 ∷ [])) ++ rest) (text_first (checked_line kind_field kind_at) (lines_of_kind kind_at (row_of values)))

  pub row_length : length (row_text (row_in id values)) ≡ 10 + length id + length (written_word kind_words kind_at) + length values_text
  row_length =
      omega (
        arith,
        ap length row_text_lem,
        length-append id_text (kind_text ++ values_text),
        length-append kind_text values_text,
        text_line_length (bytes "id=") id,
        text_line_length (bytes "kind=") (written_word kind_words kind_at),
      )

-- ---- rows one after the other

-- which ids stand above does not show in the text
row_above : (above : List (List ℕ)) (row : Row) → text_of (row_lines above row) ≡ row_text row
row_above above row =
    let rest = checked_line kind_field row.kind ∷ lines_of_kind row.kind row in
    ap text_of (row_lines_are above row) ∙ text_first (id_line above row.id) rest ∙ sym (ap text_of (row_lines_are [] row) ∙ text_first (id_line [] row.id) rest)

rows_text_lem : (above : List (List ℕ)) (rows : List Row) → text_of (rows_lines above rows) ≡ rows_text rows
unfolding rows_text
rows_text_lem above [] = ap text_of (rows_lines_none above) ∙ text_none
rows_text_lem above (row ∷ rows) =
    ap text_of (rows_lines_more above row rows)
    ∙ text_append (row_lines above row) (rows_lines (row.id ∷ above) rows)
    ∙ ap₂ (λ (one others : List ℕ). one ++ others) (row_above above row) (rows_text_lem (row.id ∷ above) rows)

-- the text of the rows passed, and what the rest of them adds to it
pub record RowsPassed (ids : List ℕ) (rows : List (List ℤ)) (i : ℕ) : Type 0 where
  pub done : List ℕ
  pub whole : rows_text (rows_in ids 0 rows) ≡ done ++ rows_text (rows_in ids i (drop i rows))

abbrev pub rows_start : (ids : List ℕ) (rows : List (List ℤ)) → RowsPassed ids rows 0
rows_start ids rows = record { done = []; whole = refl }

module _ {ids : List ℕ} {rows : List (List ℤ)} {i : ℕ} (passed : RowsPassed ids rows i) where
  pub rows_over : length rows ≤ i → rows_text (rows_in ids 0 rows) ≡ passed.done
  unfolding rows_text
  rows_over h = passed.whole ∙ rw (drop_of_length-le rows {i = i} h, rows_in_none ids i) (append-nil passed.done)

  pub rows_within : length passed.done ≤ length (rows_text (rows_in ids 0 rows))
  rows_within = omega (arith, ap length passed.whole, length-append passed.done (rows_text (rows_in ids i (drop i rows))))

  -- one row more
  pub rows_next : i < length rows → (next : RowsPassed ids rows (i + 1)) × (next.done ≡ passed.done ++ row_text (row_in (id_at 0 ids (32 * i)) (get_or rows i [])))
  unfolding rows_text
  rows_next more =
      let values = get_or rows i [] in
      let row = row_text (row_in (id_at 0 ids (32 * i)) values) in (
        record {
          done = passed.done ++ row;
          whole = passed.whole ∙ rw (drop-cons rows i [] more, rows_in_more ids i values (drop (suc i) rows), add-one i) (sym (append_assoc passed.done row (rows_text (rows_in ids (suc i) (drop (suc i) rows)))));
        },
        refl,
      )

-- ---- the whole text

header_bytes : KeyBytes (bytes "month=hour=lambda=factor=prc=eea1=short=count=") 8 54
header_bytes = key_bytes_lem (bytes "month=hour=lambda=factor=prc=eea1=short=count=") refl refl

abbrev pub header_text : Header → List ℕ
header_text h = written_numbers (keys_of (bytes "month=hour=lambda=factor=prc=eea1=short=count=")) (header_values h)

pub header_length : (h : Header) → length (header_text h) ≡ 54 + number_bytes (header_values h)
header_length h = lines_bytes header_bytes (header_values h) (omega arith)

-- by the rows of numbers that are held
pub whole_text : (header : List ℤ) (ids : List ℕ) (numbers : List ℤ) {rows : List (List ℤ)} → rows ≡ first_chunks 9 (held_count ids numbers) numbers →
    held_text header ids numbers ≡ header_text (header_held header (held_count ids numbers)) ++ rows_text (rows_in ids 0 rows)
whole_text header ids numbers held =
    let h = header_held header (held_count ids numbers) in
    held_text_lem header ids numbers
    ∙ ap₂ (λ (one others : List ℕ). one ++ others)
    (text_written header_fields (header_values h) ∙ schema_written header_keys (header_values h))
    (rows_text_lem [] (held_rows ids numbers) ∙ ap rows_text (sym (rows_held ids numbers held)))
