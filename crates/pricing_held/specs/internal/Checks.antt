-- Internal: what checking a row says to checking the rows.
use Rattle.std.specs.Prelude.{ℕ, zero, suc, ◌+◌, ◌*◌, ◌≤◌, ◌≡◌, Bool, cond, List, [], ◌∷◌, ltb, ℤ, pos, nat_abs, length, take, drop, Ok}
use Rattle.integer.specs.Range.{within}
use Rattle.text_refusal.specs.Answer.{Answer, refusal}
use Rattle.text_id_table.specs.Ids.{id_at}
use Rattle.text_id_table.specs.internal.Kept.{IdTable, RoomForOne}
use Rattle.text_schema.specs.Schema.{value}
use Rattle.text_schema.specs.Checked.{first_refused}
use Rattle.pricing_resource.specs.Flag.{is_one}
use Rattle.pricing_resource.specs.declared.Kind.{Kind}
use Rattle.pricing_resource.specs.declared.Kind.TheVariants as kind
use Rattle.pricing_resource.specs.declared.Resource.{Resource}
use Rattle.pricing_held.specs.Rows.{Row, place_of, resource_of_kind}
use Rattle.pricing_held.specs.Lines.{row_lines}

-- the first of some numbers that is out of its range, by 7 and its line
unfoldable pub numbers_checked : ℕ → List ℤ → List ℤ → List ℤ → Answer
numbers_checked line lows highs [] = Ok tt
numbers_checked line [] highs (z ∷ values) = Ok tt
numbers_checked line (low ∷ lows) [] (z ∷ values) = Ok tt
numbers_checked line (low ∷ lows) (high ∷ highs) (z ∷ values) = cond (within low high z) (numbers_checked (suc line) lows highs values) (refusal 7 line)

-- a flag: a mark is badly written there
abbrev pub flag_checked : ℕ → Bool → ℤ → Answer
flag_checked line marked z = cond marked (refusal 6 line) (cond (within (pos 0) (pos 1) z) (Ok tt) (refusal 7 line))

-- the numbers of a row as a row with an id, and with none
abbrev pub row_in : List ℕ → List ℤ → Row
row_in id values = record { id = id; kind = place_of (value values 0); status = place_of (value values 1); numbers = take 6 (drop 2 values); marks = nat_abs (value values 8) }

abbrev pub row_of : List ℤ → Row
row_of values = row_in [] values

-- the rows from one on, each by its numbers; its id stands in its 32 bytes
unfoldable pub rows_in : List ℕ → ℕ → List (List ℤ) → List Row
rows_in ids i [] = []
rows_in ids i (values ∷ rows) = row_in (id_at 0 ids (32 * i)) values ∷ rows_in ids (suc i) rows

-- the kind of a generator by its place in the list of words, and its flag as far as a verdict hangs on it
abbrev pub kind_of : ℕ → Kind
kind_of zero = kind.Gen
kind_of (suc zero) = kind.Wind
kind_of (suc (suc zero)) = kind.Irr
kind_of (suc (suc (suc n))) = kind.Nuke

abbrev pub flag_of : ℤ → ℤ
flag_of z = cond (is_one z) (pos 1) (pos 0)

-- the resource at a row, which does not hang on the ids
abbrev pub resource_in : List ℤ → Resource
resource_in values = resource_of_kind (place_of (value values 0)) (row_of values)

-- how many lines a row has, by its kind
abbrev pub line_count : ℕ → ℕ
line_count kind = cond (ltb kind 4) 9 6

-- the row's id stands among the ids, its line is small, and the slot of its id is one of the table's
pub record RowRoom (ids : List ℕ) (i line : ℕ) (starts : List ℕ) : Type 0 where
  pub id_row : 32 * i + 32 ≤ length ids
  pub small : line ≤ 70000
  pub above : List (List ℕ)
  pub table : IdTable 0 ids starts above
  pub room : RoomForOne starts above

-- what checking a row gives: its first refused line; or none, and then the table has its id
pub record RowChecked (row : Row) (line : ℕ) (ids starts starts' : List ℕ) (found : Answer) : Type 0 where
  pub answers : (above : List (List ℕ)) → IdTable 0 ids starts above → RoomForOne starts above → found ≡ first_refused line (row_lines above row)
  pub table :
      (above : List (List ℕ)) → IdTable 0 ids starts above → RoomForOne starts above → found ≡ Ok tt → IdTable 0 ids starts' (row.id ∷ above)
