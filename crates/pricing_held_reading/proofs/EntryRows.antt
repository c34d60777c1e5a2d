-- The rows of the resources that were read, one resource after the other.
use Prim.Native.Nat.{ℕ, suc, ◌+◌, ◌-◌, ◌*◌, ◌≤◌, ◌<◌}
use native.Mathlib.Nat.{sub-zero, mul-suc}
use native.Mathlib.Numerals.{add-one}
use native.Mathlib.Omega.{arith}
use mathlib.Core.List.{List, [], ◌∷◌, ◌++◌, append_assoc, append-nil}
use mathlib.Core.Path.{◌≡◌, refl, sym, ap, ◌∙◌}
use lib.IntN.{ℤ}
use lib.ListN.{length, take, drop, replicate, length-append, length-replicate}
use lib.Seq.{take_at, drop_at, drop-drop}
use Rattle.text_line.specs.Field.{got}
use Rattle.text_schema.specs.Schema.{laid_over}
use Rattle.pricing_resource.specs.declared.Resource.{Resource}
use Rattle.pricing_resource.specs.declared.Resource.TheVariants as resource
use Rattle.pricing_resource_text.specs.Resource.{resource_at}
use Rattle.pricing_snapshot.specs.Snapshot.{Entry, resources_at}
use Rattle.pricing_snapshot.proofs.Entries.{no_entries, FirstEntry, first_entry}
use Rattle.pricing_held_reading.specs.Reading.{id_row, number_row, id_rows, number_rows}
use Rattle.pricing_held_reading.proofs.Readings.{got_same}
use Rattle.pricing_held_reading.proofs.IdsRead.{id_stands}

-- ---- rows

pub id_row_long : (id : List ℕ) → length id ≤ 16 → length (id_row id) ≡ 32
unfolding id_row
id_row_long id few = length-append id (replicate (32 - length id) 0) ∙ rw (length-replicate {A = ℕ} (32 - length id) 0) (omega arith)

pub number_row_long : (one : Resource) → length (number_row one) ≡ 9
unfolding number_row
number_row_long (resource.Generator g) = refl
number_row_long (resource.Controllable c) = refl
number_row_long (resource.Load l) = refl

-- one entry more
id_rows_more : (laid : List Entry) (entry : Entry) → id_rows (laid ++ (entry ∷ [])) ≡ id_rows laid ++ id_row entry.id
unfolding id_rows
id_rows_more [] entry = append-nil (id_row entry.id)
id_rows_more (first ∷ laid) entry = rw (id_rows_more laid entry) (sym (append_assoc (id_row first.id) (id_rows laid) (id_row entry.id)))

number_rows_more : (laid : List Entry) (entry : Entry) → number_rows (laid ++ (entry ∷ [])) ≡ number_rows laid ++ number_row entry.resource
unfolding number_rows
number_rows_more [] entry = append-nil (number_row entry.resource)
number_rows_more (first ∷ laid) entry = rw (number_rows_more laid entry) (sym (append_assoc (number_row first.resource) (number_rows laid) (number_row entry.resource)))

-- so many rows of a size stand in place of the first ones
pub record RowsOver {A : Type 0} (size i : ℕ) (rows places now : List A) : Type 0 where
  pub long : length rows ≡ size * i
  pub are : now ≡ rows ++ drop (size * i) places

-- one row more, put where a part of the places was lent
row_put :
    {A : Type 0} {size i : ℕ} {rows places now : List A} (row : List A) (lent : ℕ) → lent ≡ size → length row ≡ size → RowsOver size i rows places now →
    RowsOver size (i + 1) (rows ++ row) places (take (size * i) now ++ (row ++ drop lent (drop (size * i) now)))
row_put {size = size} {i} {rows} {places} {now} row lent whole long over =
    let next : size * i + size ≡ size * (i + 1) = rw (add-one i) (sym (mul-suc size i)) in
    record {
      long = length-append rows row ∙ rw (over.long, long) next;
      are =
          rw (
            over.are,
            whole,
            take_at rows (drop (size * i) places) (size * i) over.long,
            drop_at rows (drop (size * i) places) (size * i) over.long,
            drop-drop size (size * i) places,
            next,
            append_assoc,
          );
    }

rows_over : {A : Type 0} {size i : ℕ} {rows places now : List A} → RowsOver size i rows places now → now ≡ laid_over rows places
rows_over {rows = rows} {places} over = over.are ∙ ap (λ (n : ℕ). rows ++ drop n places) (sym over.long)

-- ---- the entries, of which so many were laid

pub record RowsFrom (text : List ℕ) (count : ℕ) (entries : List Entry) (last : ℕ) (ids₀ : List ℕ) (numbers₀ : List ℤ) (ids : List ℕ) (numbers : List ℤ) (next i : ℕ) : Type 0 where
  pub laid : List Entry
  pub rest : List Entry
  pub above : List (List ℕ)
  pub are : entries ≡ laid ++ rest
  pub rest_read : resources_at resource_at (count - i) above text next ≡ got rest last
  pub ids_over : RowsOver 32 i (id_rows laid) ids₀ ids
  pub numbers_over : RowsOver 9 i (number_rows laid) numbers₀ numbers

pub rows_none :
    (text : List ℕ) (count : ℕ) (at : ℕ) {entries : List Entry} {last : ℕ} (ids : List ℕ) (numbers : List ℤ) → resources_at resource_at count [] text at ≡ got entries last →
    RowsFrom text count entries last ids numbers ids numbers at 0
unfolding id_rows number_rows
rows_none text count at {entries} ids numbers e =
    record {
      laid = [];
      rest = entries;
      above = [];
      are = refl;
      rest_read = rw (sub-zero count) e;
      ids_over = record { long = refl; are = refl };
      numbers_over = record { long = refl; are = refl };
    }

module _
    {text : List ℕ} {count : ℕ} {entries : List Entry} {last : ℕ} {ids₀ : List ℕ} {numbers₀ : List ℤ} {ids : List ℕ} {numbers : List ℤ} {next i : ℕ}
    (so_far : RowsFrom text count entries last ids₀ numbers₀ ids numbers next i) where
  module _ (h : i < count) where
    pub entry_due : FirstEntry resource_at (count - (i + 1)) so_far.above text next so_far.rest last
    entry_due =
        let less : count - i ≡ suc (count - (i + 1)) = omega arith in
        first_entry resource_at (count - (i + 1)) so_far.above text next (rw less at so_far.rest_read)

    pub rows_more :
        {after : ℕ} {put_id_row : List ℕ} {put_number_row : List ℤ} → after ≡ entry_due.after → put_id_row ≡ id_row entry_due.id → put_number_row ≡ number_row entry_due.one →
        RowsFrom text count entries last ids₀ numbers₀ (take (32 * i) ids ++ (put_id_row ++ drop (32 * i + 32 - 32 * i) (drop (32 * i) ids))) (take (9 * i) numbers ++ (put_number_row ++ drop (9 * i + 9 - 9 * i) (drop (9 * i) numbers))) after (i + 1)
    rows_more after_is id_is number_is =
        let entry : Entry = record { id = entry_due.id; resource = entry_due.one } in
        record {
          laid = so_far.laid ++ (entry ∷ []);
          rest = entry_due.others;
          above = entry_due.id ∷ so_far.above;
          are = so_far.are ∙ ap (λ (others : List Entry). so_far.laid ++ others) entry_due.are ∙ sym (append_assoc so_far.laid (entry ∷ []) entry_due.others);
          rest_read = rw after_is entry_due.others_read;
          ids_over =
              rw (id_is, id_rows_more so_far.laid entry)
              (row_put (id_row entry_due.id) (32 * i + 32 - 32 * i) (omega arith) (id_row_long entry_due.id (id_stands text next entry_due.id_read).few) so_far.ids_over);
          numbers_over =
              rw (number_is, number_rows_more so_far.laid entry)
              (row_put (number_row entry_due.one) (9 * i + 9 - 9 * i) (omega arith) (number_row_long entry_due.one) so_far.numbers_over);
        }

  pub rows_all : count ≤ i → (ids ≡ laid_over (id_rows entries) ids₀) × (numbers ≡ laid_over (number_rows entries) numbers₀)
  rows_all over =
      let none : count - i ≡ 0 = omega arith in
      let left = got_same (rw none at so_far.rest_read) (no_entries resource_at so_far.above text next) in
      let all : entries ≡ so_far.laid = so_far.are ∙ rw left.0 (append-nil so_far.laid) in
      rw all (rows_over so_far.ids_over, rows_over so_far.numbers_over)
