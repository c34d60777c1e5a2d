-- Internal: what stands in a text that was read already, so that its values are taken with one look at each byte.
use Rattle.std.specs.Prelude.{ℕ, ◌+◌, ◌*◌, ◌≤◌, Bool, ◌≡◌, List, [], ◌∷◌, ◌++◌, ℤ, pos, nat_abs, length, drop}
use Rattle.text_line.specs.Field.{LineAnswer, got}
use Rattle.text_number.specs.declared.marked.Marked.{Marked}
use Rattle.text_number.specs.Marked.{written_marked}
use Rattle.text_schema.specs.Schema.{laid_over}
use Rattle.pricing_sums.specs.declared.header.Header.{Header}
use Rattle.pricing_snapshot.specs.Snapshot.{Entry, SnapshotAnswer, read}
use Rattle.pricing_held_reading.specs.Reading.{id_rows, number_rows, header_read, entries_read}

-- an answer that is no refusal
pub record Got {A : Type 0} (answer : LineAnswer A) : Type 0 where
  pub value : A
  pub next : ℕ
  pub is : answer ≡ got value next

-- what was read is laid: the row of the value, and where the next line starts
abbrev pub Laid : {A B : Type 0} → LineAnswer A → (A → B) → B → ℕ → Type 0
Laid {A} answer row_of row next = (value : A) (after : ℕ) → answer ≡ got value after → (next ≡ after) × (row ≡ row_of value)

-- bytes stand at a position, ended by byte 10, after which the next line starts
pub record Stands (text : List ℕ) (at : ℕ) (bytes : List ℕ) (next : ℕ) : Type 0 where
  pub next_is : next ≡ at + length bytes + 1
  pub there : drop at text ≡ bytes ++ (10 ∷ drop next text)

-- a number with its mark, if it has one: one not below zero, of which digits alone stand before the mark, and any one; small enough for a machine word
pub record DigitsStand (text : List ℕ) (at n : ℕ) (suspect : Bool) (next : ℕ) : Type 0 where
  pub small : n ≤ 1000000000
  pub stands : Stands text at (written_marked (record { number = pos n; suspect = suspect })) next

pub record NumberStands (text : List ℕ) (at : ℕ) (m : Marked) (next : ℕ) : Type 0 where
  pub small : nat_abs m.number ≤ 1000000000
  pub stands : Stands text at (written_marked m) next

-- numbers stand one after the other, each behind a key of so many bytes
abbrev pub NumbersStand : List ℕ → ℕ → List ℕ → List Marked → ℕ → Type 0
NumbersStand text at [] [] last = at ≡ last
NumbersStand text at [] (m ∷ values) last = ⊥
NumbersStand text at (size ∷ sizes) [] last = ⊥
NumbersStand text at (size ∷ sizes) (m ∷ values) last = (next : ℕ) × NumberStands text (at + size) m next × NumbersStand text next sizes values last

-- ---- a snapshot that was read, with rows enough for its resources, and laid

pub record SnapshotRoom (answer : SnapshotAnswer) (count : ℕ) (ids : List ℕ) (numbers : List ℤ) : Type 0 where
  pub header : Header
  pub entries : List Entry
  pub is : answer ≡ read header entries
  pub counted : count ≡ nat_abs header.count
  pub id_room : 32 * count ≤ length ids
  pub number_room : 9 * count ≤ length numbers

pub record SnapshotLaid (answer : SnapshotAnswer) (ids : List ℕ) (numbers header' : List ℤ) (ids' : List ℕ) (numbers' : List ℤ) : Type 0 where
  pub header_is : header' ≡ header_read answer
  pub ids_are : ids' ≡ laid_over (id_rows (entries_read answer)) ids
  pub numbers_are : numbers' ≡ laid_over (number_rows (entries_read answer)) numbers
