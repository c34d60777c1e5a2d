-- Internal: the id due at a position held against those above it, by the table of those. Which id is refused (8) is said by `new_id_at` of Snapshot.antt, not here.
use Rattle.std.specs.Prelude.{ℕ, ◌≡◌, List, ◌∷◌, Result, Ok, Err}
use Rattle.text_refusal.specs.declared.refusal.Fault.{Fault}
use Rattle.text_refusal.specs.Bytes.{bytes}
use Rattle.text_line.specs.Line.{value_at}
use Rattle.text_line.specs.Field.{LineAnswer, got, refused}
use Rattle.text_id_table.specs.internal.Kept.{IdTable, RoomForOne}
use Rattle.pricing_snapshot.specs.Snapshot.{new_id_at}

-- the table of the ids above, with room for one more
pub record RoomLeft (text starts : List ℕ) : Type 0 where
  pub above : List (List ℕ)
  pub table : IdTable 10 text starts above
  pub one : RoomForOne starts above

-- a new id by its bytes
abbrev pub id_answer : List ℕ → Result ℕ Fault → LineAnswer (List ℕ)
id_answer value (Ok next) = got value next
id_answer value (Err found) = refused found

-- what taking in the id due at a position gives: the id, and the table with it; or the refusal
pub record IdKept (text : List ℕ) (at : ℕ) (starts starts' : List ℕ) (found : Result ℕ Fault) : Type 0 where
  pub answers : (left : RoomLeft text starts) → id_answer (value_at (bytes "id=") text at) found ≡ new_id_at left.above text at
  pub table : (left : RoomLeft text starts) (next : ℕ) → found ≡ Ok next → IdTable 10 text starts' (value_at (bytes "id=") text at ∷ left.above)
