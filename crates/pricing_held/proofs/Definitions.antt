-- The definitions of what is held and of its lines, step by step, for the proofs of crates above.
use Prim.Native.Nat.{ℕ, zero, suc, ◌+◌, ◌*◌}
use mathlib.Core.List.{List, [], ◌∷◌, ◌++◌, map}
use mathlib.Core.Path.{◌≡◌, refl}
use lib.IntN.{ℤ, nat_abs}
use lib.ListN.{take, drop}
use Rattle.text_refusal.specs.Answer.{followed_by}
use Rattle.text_id_table.specs.Ids.{id_at}
use Rattle.text_schema.specs.Schema.{value}
use Rattle.text_schema.specs.Checked.{checked_line, text_of, first_refused}
use Rattle.pricing_resource.specs.Suspect.{suspect_line}
use Rattle.pricing_resource_text.specs.Resource.{kind_field}
use Rattle.pricing_snapshot.specs.Snapshot.{resources_of}
use Rattle.pricing_held.specs.Rows.{Row, held_count, place_of, row_at, rows_from, held_rows, resource_of_kind, entry_of, header_held, contents_held}
use Rattle.pricing_held.specs.Lines.{id_line, lines_of_kind, row_lines, rows_lines, header_checked, held_lines, suspect_answer, held_answer, held_text}

-- ---- rows

pub row_at_is : (ids : List ℕ) (numbers : List ℤ) (i : ℕ) →
    row_at ids numbers i ≡
    record {
      id = id_at 0 ids (32 * i);
      kind = place_of (value numbers (9 * i));
      status = place_of (value numbers (9 * i + 1));
      numbers = take 6 (drop (9 * i + 2) numbers);
      marks = nat_abs (value numbers (9 * i + 8));
    }
unfolding row_at
row_at_is ids numbers i = refl

module _ (ids : List ℕ) (numbers : List ℤ) (i : ℕ) where
  pub rows_from_none : rows_from ids numbers i zero ≡ []
  unfolding rows_from
  rows_from_none = refl

  pub rows_from_more : (n : ℕ) → rows_from ids numbers i (suc n) ≡ row_at ids numbers i ∷ rows_from ids numbers (suc i) n
  unfolding rows_from
  rows_from_more n = refl

pub entry_of_is : (row : Row) → entry_of row ≡ record { id = row.id; resource = resource_of_kind row.kind row }
unfolding entry_of
entry_of_is row = refl

-- ---- lines

pub row_lines_are : (above : List (List ℕ)) (row : Row) → row_lines above row ≡ id_line above row.id ∷ (checked_line kind_field row.kind ∷ lines_of_kind row.kind row)
unfolding row_lines
row_lines_are above row = refl

pub rows_lines_none : (above : List (List ℕ)) → rows_lines above [] ≡ []
unfolding rows_lines
rows_lines_none above = refl

pub rows_lines_more : (above : List (List ℕ)) (row : Row) (rows : List Row) → rows_lines above (row ∷ rows) ≡ row_lines above row ++ rows_lines (row.id ∷ above) rows
unfolding rows_lines
rows_lines_more above row rows = refl

-- ---- the snapshot

module _ (header : List ℤ) (ids : List ℕ) (numbers : List ℤ) where
  pub contents_held_are : contents_held header ids numbers ≡ record { header = header_held header (held_count ids numbers); entries = map entry_of (held_rows ids numbers) }
  unfolding contents_held
  contents_held_are = refl

  pub held_lines_are : held_lines header ids numbers ≡ header_checked (header_held header (held_count ids numbers)) ++ rows_lines [] (held_rows ids numbers)
  unfolding held_lines
  held_lines_are = refl

  pub held_answer_is :
      held_answer header ids numbers ≡ followed_by (first_refused 1 (held_lines header ids numbers)) (suspect_answer (suspect_line (resources_of (contents_held header ids numbers).entries)))
  unfolding held_answer
  held_answer_is = refl

  pub held_text_is : held_text header ids numbers ≡ text_of (held_lines header ids numbers)
  unfolding held_text
  held_text_is = refl
