-- Internal: a table that keeps the ids above. Which id is refused (8) is said by `stands_in` of Ids.antt, not here.
use Rattle.std.specs.Prelude.{ℕ, ◌+◌, ◌-◌, ◌*◌, ◌/◌, ◌≤◌, ◌<◌, ◌≡◌, true, List, length, get_or}
use Rattle.text_id_table.specs.Ids.{id_at, stands_in}
use Rattle.text_id_table.specs.Table.{bucket_of}

-- the id that a slot leads to
abbrev pub id_in : ℕ → List ℕ → List ℕ → ℕ → List ℕ
id_in mark bytes starts slot = id_at mark bytes (get_or starts slot 0 - 1)

-- an id stands in the table
pub record Held (mark : ℕ) (bytes starts id : List ℕ) : Type 0 where
  pub slot : ℕ
  pub filled : (k : ℕ) → bucket_of starts id ≤ k → k ≤ slot → 0 < get_or starts k 0
  pub behind : bucket_of starts id ≤ slot
  pub same : id_in mark bytes starts slot ≡ id

-- the table of the ids above
pub record IdTable (mark : ℕ) (bytes starts : List ℕ) (above : List (List ℕ)) : Type 0 where
  pub buckets : 0 < length starts / 2
  pub known : (slot : ℕ) → 0 < get_or starts slot 0 → stands_in (id_in mark bytes starts slot) above ≡ true
  pub held : (id : List ℕ) → stands_in id above ≡ true → Held mark bytes starts id
  pub empty : (slot : ℕ) → length starts / 2 + length above ≤ slot → get_or starts slot 0 ≡ 0

-- there is room for one more id: the last slot is empty
abbrev pub RoomForOne : List ℕ → List (List ℕ) → Type 0
RoomForOne starts above = length starts / 2 + length above < length starts

-- slots for as many ids as there are resources, at most 4096
pub record Room (count : ℕ) (starts : List ℕ) : Type 0 where
  pub few : count ≤ 4096
  pub slots : 2 * count ≤ length starts
