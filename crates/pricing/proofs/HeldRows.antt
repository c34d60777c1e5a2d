-- The rows that resources are read into hold these resources.
use Prim.Native.Nat.{ℕ, suc, ◌+◌, ◌-◌, ◌*◌, ◌^◌, ◌<◌}
use native.Mathlib.Nat.{add-zero, mod-eq_of_lt}
use native.Mathlib.Omega.{arith}
use mathlib.Core.Bool.{true}
use mathlib.Core.List.{List, [], ◌∷◌, ◌++◌, map, append_assoc}
use mathlib.Core.Path.{◌≡◌, refl, sym, ap, ap₂, ◌∙◌}
use lib.IntN.{ℤ, pos, nat_abs}
use lib.ListN.{length, take, drop, replicate, length-append}
use lib.Seq.{drop_at, drop-drop, get_or-drop}
use Rattle.text_id.specs.Id.{is_id}
use Rattle.text_id.proofs.Ids.{id_bytes}
use Rattle.text_id_table.proofs.Ids.{id_in_row}
use Rattle.text_number.specs.Marked.{numbers_of, marks_of, marked_by}
use Rattle.text_number.proofs.Marks.{by_take, by_numbers, by_marks}
use Rattle.text_schema.specs.Schema.{value}
use Rattle.pricing_resource.specs.Suspect.{marks}
use Rattle.pricing_resource.specs.declared.Kind.{Kind}
use Rattle.pricing_resource.specs.declared.Kind.TheVariants as kind
use Rattle.pricing_resource.specs.declared.Status.{Status}
use Rattle.pricing_resource.specs.declared.Status.TheVariants as status
use Rattle.pricing_resource.specs.declared.Resource.{Resource}
use Rattle.pricing_resource.specs.declared.Resource.TheVariants as resource
use Rattle.pricing_resource_text.specs.Resource.{status_of}
use Rattle.pricing_snapshot.specs.Snapshot.{Entry}
use Rattle.pricing_held.specs.Rows.{held_count, place_of, row_at, rows_from, held_rows, resource_of_kind, entry_of}
use Rattle.pricing_held.proofs.Counts.{held_count_is}
use Rattle.pricing_held.proofs.Definitions.{row_at_is, rows_from_none, rows_from_more, entry_of_is}
use Rattle.pricing_held_reading.specs.Reading.{kind_place, status_place, id_row, number_row, id_rows, number_rows}
use Rattle.pricing_held_reading.proofs.EntryRows.{id_row_long, number_row_long}
use Rattle.pricing_held_reading.proofs.Definitions.{id_row_is, generator_row, controllable_row, load_row, id_rows_none, number_rows_none, id_rows_first, number_rows_first}
use Rattle.pricing.proofs.ResourceTrip.{kind_index, status_index, kind_of_resource, status_of_resource, numbers_of_resource, row_of_resource, MarksFit}
use Rattle.pricing.proofs.RowsTrip.{row_of_entry, ValidEntries}

-- ---- the numbers of a row

kind_place_lem : (k : Kind) → place_of (kind_place k) ≡ kind_index k
kind_place_lem kind.Gen = refl
kind_place_lem kind.Wind = refl
kind_place_lem kind.Irr = refl
kind_place_lem kind.Nuke = refl

status_place_lem : (s : Status) → place_of (status_place s) ≡ status_index s
status_place_lem status.On = refl
status_place_lem status.Off = refl
status_place_lem status.OffNs = refl
status_place_lem status.OnTest = refl
status_place_lem status.Startup = refl
status_place_lem status.Shutdown = refl
status_place_lem status.Out = refl

-- the row of a resource, by its numbers
record NumbersHeld (one : Resource) (values : List ℤ) : Type 0 where
  kind_is : place_of (value values 0) ≡ kind_of_resource one
  status_is : place_of (value values 1) ≡ status_of_resource one
  numbers_are : take 6 (drop 2 values) ≡ numbers_of_resource one
  marks_are : nat_abs (value values 8) ≡ marks one

numbers_held : (one : Resource) (rest : List ℤ) → NumbersHeld one (number_row one ++ rest)
numbers_held (resource.Generator g) rest =
    rw (generator_row g) (record { kind_is = kind_place_lem g.kind; status_is = status_place_lem g.status; numbers_are = refl; marks_are = refl })
numbers_held (resource.Controllable c) rest = rw (controllable_row c) (record { kind_is = refl; status_is = refl; numbers_are = refl; marks_are = refl })
numbers_held (resource.Load l) rest = rw (load_row l) (record { kind_is = refl; status_is = refl; numbers_are = refl; marks_are = refl })

-- ---- rows one after the other

module _ (ids : List ℕ) (numbers : List ℤ) (i : ℕ) where
  row_of : (entry : Entry) (id_rest : List ℕ) (number_rest : List ℤ) → is_id entry.id ≡ true → drop (32 * i) ids ≡ id_row entry.id ++ id_rest →
      drop (9 * i) numbers ≡ number_row entry.resource ++ number_rest → row_at ids numbers i ≡ row_of_entry entry
  row_of entry id_rest number_rest valid id_there numbers_there =
      let id : List ℕ = entry.id in
      let few = (id_bytes id valid).few in
      let zeros : 32 - length id ≡ suc (31 - length id) = omega arith in
      let stands : drop (32 * i) ids ≡ id ++ (0 ∷ (replicate (31 - length id) 0 ++ id_rest)) =
      id_there ∙ rw (id_row_is id, zeros) (append_assoc id (0 ∷ replicate (31 - length id) 0) id_rest) in
      let held = numbers_held entry.resource number_rest in
      let at : (k : ℕ) → value (drop (9 * i) numbers) k ≡ value numbers (9 * i + k) = λ k. get_or-drop (9 * i) numbers k (pos 0) in
      let first : place_of (value numbers (9 * i)) ≡ kind_of_resource entry.resource =
      ap place_of (ap (value numbers) (sym (add-zero (9 * i))) ∙ sym (at 0) ∙ ap (λ (l : List ℤ). value l 0) numbers_there) ∙ held.kind_is in
      let second : place_of (value numbers (9 * i + 1)) ≡ status_of_resource entry.resource =
      ap place_of (sym (at 1) ∙ ap (λ (l : List ℤ). value l 1) numbers_there) ∙ held.status_is in
      let rest : take 6 (drop (9 * i + 2) numbers) ≡ numbers_of_resource entry.resource =
      ap (take 6) (sym (drop-drop 2 (9 * i) numbers) ∙ ap (drop 2) numbers_there) ∙ held.numbers_are in
      let ninth : nat_abs (value numbers (9 * i + 8)) ≡ marks entry.resource =
      ap nat_abs (sym (at 8) ∙ ap (λ (l : List ℤ). value l 8) numbers_there) ∙ held.marks_are in
      row_at_is ids numbers i ∙ rw (id_in_row ids (32 * i) id (replicate (31 - length id) 0 ++ id_rest) valid stands, first, second, rest, ninth)

-- what is left of the rows from one on
rows_of : (ids : List ℕ) (numbers : List ℤ) (entries : List Entry) (i : ℕ) → ValidEntries entries → drop (32 * i) ids ≡ id_rows entries → drop (9 * i) numbers ≡ number_rows entries →
    rows_from ids numbers i (length entries) ≡ map row_of_entry entries
rows_of ids numbers [] i valid e f = rows_from_none ids numbers i
rows_of ids numbers (entry ∷ entries) i valid e f =
    let id_there : drop (32 * i) ids ≡ id_row entry.id ++ id_rows entries = e ∙ id_rows_first entry entries in
    let numbers_there : drop (9 * i) numbers ≡ number_row entry.resource ++ number_rows entries = f ∙ number_rows_first entry entries in
    let next : 32 * i + 32 ≡ 32 * suc i = omega arith in
    let after : 9 * i + 9 ≡ 9 * suc i = omega arith in
    let ids_left : drop (32 * suc i) ids ≡ id_rows entries =
    ap (λ (n : ℕ). drop n ids) (sym next) ∙ sym (drop-drop 32 (32 * i) ids) ∙ ap (drop 32) id_there ∙ drop_at (id_row entry.id) (id_rows entries) 32 (id_row_long entry.id (id_bytes entry.id valid.0.0).few) in
    let numbers_left : drop (9 * suc i) numbers ≡ number_rows entries =
    ap (λ (n : ℕ). drop n numbers) (sym after) ∙ sym (drop-drop 9 (9 * i) numbers) ∙ ap (drop 9) numbers_there ∙ drop_at (number_row entry.resource) (number_rows entries) 9 (number_row_long entry.resource) in
    rows_from_more ids numbers i (length entries) ∙
    ap₂ ◌∷◌ (row_of ids numbers i entry (id_rows entries) (number_rows entries) valid.0.0 id_there numbers_there) (rows_of ids numbers entries (suc i) valid.1 ids_left numbers_left)

-- ---- the rows of entries

pub id_rows_long : (entries : List Entry) → ValidEntries entries → length (id_rows entries) ≡ 32 * length entries
id_rows_long [] valid = ap length id_rows_none
id_rows_long (entry ∷ entries) valid =
    omega (arith, ap length (id_rows_first entry entries), length-append (id_row entry.id) (id_rows entries), id_row_long entry.id (id_bytes entry.id valid.0.0).few, id_rows_long entries valid.1)

pub number_rows_long : (entries : List Entry) → length (number_rows entries) ≡ 9 * length entries
number_rows_long [] = ap length number_rows_none
number_rows_long (entry ∷ entries) =
    omega (arith, ap length (number_rows_first entry entries), length-append (number_row entry.resource) (number_rows entries), number_row_long entry.resource, number_rows_long entries)

pub rows_counted : (entries : List Entry) → ValidEntries entries → held_count (id_rows entries) (number_rows entries) ≡ length entries
rows_counted entries valid = held_count_is (id_rows entries) (number_rows entries) (length entries) (id_rows_long entries valid) (number_rows_long entries)

pub rows_held : (entries : List Entry) → ValidEntries entries → held_rows (id_rows entries) (number_rows entries) ≡ map row_of_entry entries
rows_held entries valid = rw (rows_counted entries valid) (rows_of (id_rows entries) (number_rows entries) entries 0 valid refl refl)

-- ---- the resource of the row of a resource

status_back : (s : Status) → status_of (status_index s) ≡ s
status_back status.On = refl
status_back status.Off = refl
status_back status.OffNs = refl
status_back status.OnTest = refl
status_back status.Startup = refl
status_back status.Shutdown = refl
status_back status.Out = refl

-- the marks of so many numbers
few_marks : (k : ℕ) {n : ℕ} (numbers : List ℤ) → length numbers ≡ k → n < 2 ^ k → marks_of (marked_by n numbers) ≡ n
few_marks k {n} numbers long few = by_marks n numbers ∙ rw long (mod-eq_of_lt few)

-- a load's four of the six numbers
four_marks : {n : ℕ} (a b c d : ℤ) → n < 16 → marks_of (take 4 (marked_by n (a ∷ b ∷ c ∷ d ∷ pos 0 ∷ pos 0 ∷ []))) ≡ n
four_marks {n} a b c d few = ap marks_of (by_take 4 n (a ∷ b ∷ c ∷ d ∷ pos 0 ∷ pos 0 ∷ [])) ∙ few_marks 4 (a ∷ b ∷ c ∷ d ∷ []) refl few

four_back : (n : ℕ) (a b c d : ℤ) → numbers_of (take 4 (marked_by n (a ∷ b ∷ c ∷ d ∷ pos 0 ∷ pos 0 ∷ []))) ≡ a ∷ b ∷ c ∷ d ∷ []
four_back n a b c d = ap numbers_of (by_take 4 n (a ∷ b ∷ c ∷ d ∷ pos 0 ∷ pos 0 ∷ [])) ∙ by_numbers n (a ∷ b ∷ c ∷ d ∷ [])

resource_back : (id : List ℕ) (one : Resource) → MarksFit one → resource_of_kind (kind_of_resource one) (row_of_resource id one) ≡ one
resource_back id (resource.Generator g) few = go g.kind refl
  where
    numbers : List ℤ
    numbers = g.net ∷ g.lsl ∷ g.hsl ∷ g.base ∷ g.nonspin ∷ g.cold30 ∷ []

    go : (k : Kind) → g.kind ≡ k → resource_of_kind (kind_index k) (row_of_resource id (resource.Generator g)) ≡ resource.Generator g
    go kind.Gen e = rw (status_back g.status, by_numbers g.marks numbers, few_marks 6 numbers refl few, ← e)
    go kind.Wind e = rw (status_back g.status, by_numbers g.marks numbers, few_marks 6 numbers refl few, ← e)
    go kind.Irr e = rw (status_back g.status, by_numbers g.marks numbers, few_marks 6 numbers refl few, ← e)
    go kind.Nuke e = rw (status_back g.status, by_numbers g.marks numbers, few_marks 6 numbers refl few, ← e)
resource_back id (resource.Controllable c) few = rw (four_back c.marks c.base c.lpc c.nonspin c.regup, four_marks c.base c.lpc c.nonspin c.regup few)
resource_back id (resource.Load l) few = rw (four_back l.marks l.rrsok l.net l.lpc l.rrs, four_marks l.rrsok l.net l.lpc l.rrs few)

pub entries_back : (entries : List Entry) → ValidEntries entries → map entry_of (map row_of_entry entries) ≡ entries
entries_back [] valid = refl
entries_back (entry ∷ entries) valid =
    ap₂ ◌∷◌ (entry_of_is (row_of_entry entry) ∙ ap (λ (one : Resource). record { id = entry.id; resource = one }) (resource_back entry.id entry.resource valid.0.1)) (entries_back entries valid.1)
