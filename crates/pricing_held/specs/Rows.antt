-- Document 02, W-204: a snapshot held as values, which a host can edit. Three lent slices: the header's eight numbers in the order of its lines; `ids`, a row of
-- 32 bytes for each resource; `numbers`, a row of 9 numbers for each resource.
use Rattle.std.specs.Prelude.{ℕ, zero, suc, ◌+◌, ◌*◌, ◌/◌, min, cond, List, [], ◌∷◌, map, ℤ, pos, nat_abs, length, take, drop}
use Rattle.std.specs.Int.Signed.{lt_z}
use Rattle.text_number.specs.declared.marked.Marked.{Marked}
use Rattle.text_number.specs.Marked.{marked_by}
use Rattle.text_schema.specs.Schema.{value}
use Rattle.text_id_table.specs.Ids.{id_at}
use Rattle.pricing_sums.specs.declared.header.Header.{Header}
use Rattle.pricing_resource.specs.declared.Kind.TheVariants as kind
use Rattle.pricing_resource.specs.declared.Resource.{Resource}
use Rattle.pricing_resource_text.specs.Resource.{status_of, generator_of, controllable_of, load_of, with_marks}
use Rattle.pricing_snapshot.specs.Snapshot.{Entry, Contents}

-- ---- rows

-- how many resources are held: as many as there are whole rows of both; what is left over is not looked at
unfoldable pub held_count : List ℕ → List ℤ → ℕ
held_count ids numbers = min (length ids / 32) (length numbers / 9)

-- one resource as it is held: its id, its kind and its status by their places in the lists of words, six numbers, and which of them are marked suspect
pub record Row : Type 0 where
  pub id : List ℕ
  pub kind : ℕ
  pub status : ℕ
  pub numbers : List ℤ
  pub marks : ℕ

-- a number as a place in a list of words: one below 0 stands outside the list, as one above does (the longest list has 7 words)
abbrev pub place_of : ℤ → ℕ
place_of z = cond (lt_z z (pos 0)) 7 (nat_abs z)

-- the row of a resource, the first being 0. Of its 32 bytes the first 16 hold the id, up to the first byte 0; of its 9 numbers the first is the kind, the second
-- the status, then six numbers, then the marks: 1 for the first of the six, 2 for the second, 4 for the third, and so on, of a number below 0 its magnitude. The
-- bytes after the id are not looked at.
unfoldable pub row_at : List ℕ → List ℤ → ℕ → Row
row_at ids numbers i =
    record {
      id = id_at 0 ids (32 * i);
      kind = place_of (value numbers (9 * i));
      status = place_of (value numbers (9 * i + 1));
      numbers = take 6 (drop (9 * i + 2) numbers);
      marks = nat_abs (value numbers (9 * i + 8));
    }

-- so many rows from one on
unfoldable pub rows_from : List ℕ → List ℤ → ℕ → ℕ → List Row
rows_from ids numbers i zero = []
rows_from ids numbers i (suc n) = row_at ids numbers i ∷ rows_from ids numbers (suc i) n

abbrev pub held_rows : List ℕ → List ℤ → List Row
held_rows ids numbers = rows_from ids numbers 0 (held_count ids numbers)

-- ---- what the rows hold

-- the six numbers with their marks, and those of a load, which has four
abbrev pub marked_numbers : Row → List Marked
marked_numbers row = marked_by row.marks row.numbers

abbrev pub load_numbers : Row → List Marked
load_numbers row = take 4 (marked_numbers row)

-- the resource of a row: the numbers are those of its kind in the order of its lines, and numbers and marks that the kind does not use are not looked at, nor is the
-- status of a load
abbrev pub resource_of_kind : ℕ → Row → Resource
resource_of_kind zero row = with_marks (generator_of kind.Gen (status_of row.status)) (marked_numbers row)
resource_of_kind (suc zero) row = with_marks (generator_of kind.Wind (status_of row.status)) (marked_numbers row)
resource_of_kind (suc (suc zero)) row = with_marks (generator_of kind.Irr (status_of row.status)) (marked_numbers row)
resource_of_kind (suc (suc (suc zero))) row = with_marks (generator_of kind.Nuke (status_of row.status)) (marked_numbers row)
resource_of_kind (suc (suc (suc (suc zero)))) row = with_marks controllable_of (load_numbers row)
resource_of_kind (suc (suc (suc (suc (suc n))))) row = with_marks load_of (load_numbers row)

unfoldable pub entry_of : Row → Entry
entry_of row = record { id = row.id; resource = resource_of_kind row.kind row }

-- the header: `count` is the number of resources held, whatever the eighth number is
abbrev pub header_held : List ℤ → ℕ → Header
header_held values count =
    record {
      month = value values 0;
      hour = value values 1;
      lambda = value values 2;
      factor = value values 3;
      prc = value values 4;
      eea1 = value values 5;
      short = value values 6;
      count = pos count;
    }

-- the header and the resources of a snapshot held as values: that of which the definition of a snapshot speaks
unfoldable pub contents_held : List ℤ → List ℕ → List ℤ → Contents
contents_held header ids numbers =
    record { header = header_held header (held_count ids numbers); entries = map entry_of (held_rows ids numbers) }
