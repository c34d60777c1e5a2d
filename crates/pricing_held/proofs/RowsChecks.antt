-- Laws on checking the rows one after the other: what is left to check is what the rows from one on say.
use Prim.Native.Nat.{ℕ, zero, suc, ◌+◌, ◌*◌, ◌≤◌, ◌<◌}
use native.Mathlib.Numerals.{add-one}
use native.Mathlib.Omega.{arith}
use mathlib.Core.Bool.{Bool, true, false, cond}
use mathlib.Core.List.{List, [], ◌∷◌}
use mathlib.Core.Path.{◌≡◌, refl, sym, ◌∙◌}
use borrow.Author.Tests.{le-ltb}
use lib.Dec.{ltb}
use lib.IntN.{ℤ}
use lib.ListN.{length, take, drop, get_or, length-drop, drop_of_length-le}
use lib.Seq.{drop-cons, length-take-le}
use Rattle.std.specs.Prelude.{Ok, Err}
use Rattle.text_refusal.specs.Answer.{Answer, followed_by}
use Rattle.text_refusal.specs.declared.refusal.Refusal.{Refusal}
use Rattle.text_id_table.specs.Ids.{id_at}
use Rattle.text_id_table.specs.internal.Kept.{IdTable, RoomForOne, Room}
use Rattle.text_id_table.proofs.Table.{table_room}
use Rattle.text_schema.specs.Schema.{value}
use Rattle.text_schema.specs.Checked.{checked_lines, first_refused}
use Rattle.text_number.specs.Marked.{marked_by}
use Rattle.text_number.proofs.Marks.{by_length}
use Rattle.text_schema.proofs.Checked.{checked_length, first_none, first_append}
use Rattle.pricing_resource_text.specs.Resource.{generator_fields, controllable_fields, load_fields}
use Rattle.pricing_resource_text.proofs.Lines.{generator_long, controllable_long, load_long}
use Rattle.pricing_held.specs.Rows.{Row, place_of}
use Rattle.pricing_held.specs.Lines.{lines_of_kind, row_lines, rows_lines}
use Rattle.pricing_held.specs.internal.Checks.{line_count, row_in, rows_in, RowRoom, RowChecked}

-- ---- how many lines a row has

count_of_kind : (k : ℕ) (row : Row) → length row.numbers ≡ 6 → length (lines_of_kind k row) + 2 ≡ line_count k
count_of_kind k row six = go k
  where
    marked : length (marked_by row.marks row.numbers) ≡ 6
    marked = by_length row.marks row.numbers ∙ six

    generator : length (checked_lines generator_fields (marked_by row.marks row.numbers)) ≡ 6
    generator = checked_length generator_fields (marked_by row.marks row.numbers) (omega (arith, generator_long, marked)) ∙ generator_long

    controllable : length (checked_lines controllable_fields (marked_by row.marks row.numbers)) ≡ 4
    controllable = checked_length controllable_fields (marked_by row.marks row.numbers) (omega (arith, controllable_long, marked)) ∙ controllable_long

    load : length (checked_lines load_fields (marked_by row.marks row.numbers)) ≡ 4
    load = checked_length load_fields (marked_by row.marks row.numbers) (omega (arith, load_long, marked)) ∙ load_long

    go : (k : ℕ) → length (lines_of_kind k row) + 2 ≡ line_count k
    go zero = omega (arith, generator)
    go (suc zero) = omega (arith, generator)
    go (suc (suc zero)) = omega (arith, generator)
    go (suc (suc (suc zero))) = omega (arith, generator)
    go (suc (suc (suc (suc zero)))) = omega (arith, controllable)
    go (suc (suc (suc (suc (suc k))))) = rw (le-ltb (suc (suc (suc (suc (suc k))))) 4 (omega arith)) (omega (arith, load))

row_count : (id : List ℕ) (values : List ℤ) (above : List (List ℕ)) → 9 ≤ length values → length (row_lines above (row_in id values)) ≡ line_count (place_of (value values 0))
unfolding row_lines
row_count id values above h =
    let six : length (take 6 (drop 2 values)) ≡ 6 = length-take-le 6 (drop 2 values) (omega (arith, length-drop 2 values)) in
    let counted = count_of_kind (place_of (value values 0)) (row_in id values) six in
    omega arith

pub count_most : (k : ℕ) → line_count k ≤ 9
count_most k = go (ltb k 4)
  where
    go : (b : Bool) → cond b 9 6 ≤ 9
    go true = omega arith
    go false = omega arith

-- ---- the rows under way

-- i of them are checked: their ids are in the table, and the rest is due at a line
pub record RowsUnderWay (ids : List ℕ) (rows : List (List ℤ)) (starts₀ starts : List ℕ) (line i : ℕ) : Type 0 where
  pub held : 32 * length rows ≤ length ids
  pub room : Room (length rows) starts
  pub long : length starts ≡ length starts₀
  pub above : List (List ℕ)
  pub counted : length above ≡ i
  pub table : IdTable 0 ids starts above
  pub small : line ≤ 9 + 9 * i
  pub rest : first_refused 9 (rows_lines [] (rows_in ids 0 rows)) ≡ first_refused line (rows_lines above (rows_in ids i (drop i rows)))

pub rows_start : {ids : List ℕ} {rows : List (List ℤ)} {starts : List ℕ} → IdTable 0 ids starts [] → Room (length rows) starts → 32 * length rows ≤ length ids → RowsUnderWay ids rows starts starts 9 0
rows_start table room held =
    record { held = held; room = room; long = refl; above = []; counted = refl; table = table; small = omega arith; rest = refl }

module _
    {ids : List ℕ} {rows : List (List ℤ)} {starts₀ starts : List ℕ} {line i : ℕ} (so_far : RowsUnderWay ids rows starts₀ starts line i) where
  pub rows_over : length rows ≤ i → Ok tt ≡ first_refused 9 (rows_lines [] (rows_in ids 0 rows))
  unfolding rows_in rows_lines
  rows_over h = sym (so_far.rest ∙ rw (drop_of_length-le rows {i = i} h) (first_none line))

  module _ (more : i < length rows) where
    one_left : RoomForOne starts so_far.above
    one_left = table_room so_far.table so_far.room (omega (arith, so_far.counted))

    pub rows_room : RowRoom ids i line starts
    rows_room =
        record {
          id_row = omega (arith, so_far.held);
          small = omega (arith, so_far.small, so_far.room.few);
          above = so_far.above;
          table = so_far.table;
          room = one_left;
        }

    module _ {values : List ℤ} (this : values ≡ get_or rows i []) where
      abbrev due : Row
      due = row_in (id_at 0 ids (32 * i)) values

      one_due :
          first_refused 9 (rows_lines [] (rows_in ids 0 rows)) ≡
          followed_by (first_refused line (row_lines so_far.above due)) (first_refused (line + length (row_lines so_far.above due)) (rows_lines (due.id ∷ so_far.above) (rows_in ids (suc i) (drop (suc i) rows))))
      unfolding rows_in rows_lines
      one_due = so_far.rest ∙ rw (drop-cons rows i [] more, ← this) (first_append line (row_lines so_far.above due) (rows_lines (due.id ∷ so_far.above) (rows_in ids (suc i) (drop (suc i) rows))))

      module _ {starts' : List ℕ} {found : Answer} (checked : RowChecked due line ids starts starts' found) where
        row_answer : found ≡ first_refused line (row_lines so_far.above due)
        row_answer = checked.answers so_far.above so_far.table one_left

        -- a line of the row is refused
        pub rows_stop : {told : Refusal} → found ≡ Err told → found ≡ first_refused 9 (rows_lines [] (rows_in ids 0 rows))
        rows_stop is = is ∙ sym (rw (one_due, ← row_answer, is))

        -- one more row is checked
        pub rows_next :
            {count_of : ℕ} → found ≡ Ok tt → count_of ≡ line_count (place_of (value values 0)) → 9 ≤ length values → length starts' ≡ length starts →
            RowsUnderWay ids rows starts₀ starts' (line + count_of) (i + 1)
        rows_next {count_of} is counts nine l =
            let lines : count_of ≡ length (row_lines so_far.above due) = counts ∙ sym (row_count (id_at 0 ids (32 * i)) values so_far.above nine) in
            record {
              held = so_far.held;
              room = record { few = so_far.room.few; slots = omega (arith, l, so_far.room.slots) };
              long = l ∙ so_far.long;
              above = due.id ∷ so_far.above;
              counted = omega (arith, so_far.counted);
              table = checked.table so_far.above so_far.table one_left is;
              small = omega (arith, so_far.small, counts, count_most (place_of (value values 0)));
              rest = rw (one_due, ← row_answer, is, lines, add-one i);
            }
