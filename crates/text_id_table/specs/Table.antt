-- The slot of an id in a table, so that an id is found among others with no work for each pair of ids. Which id is refused (8) is said by `stands_in` of
-- Ids.antt, not here. A slot holds one more than the position at which its id starts, and 0 where it is empty; the first half of the slots are buckets.
use Rattle.std.specs.Prelude.{ℕ, suc, ◌+◌, ◌-◌, ◌*◌, ◌/◌, ◌%◌, cond, List, [], ◌∷◌, eqb, length, drop}
use Rattle.text_word.specs.Word.{same_bytes}
use Rattle.text_id_table.specs.Ids.{id_at}

-- a number below 2^32 from the bytes of an id
unfoldable pub hash_from : ℕ → List ℕ → ℕ
hash_from front [] = front
hash_from front (byte ∷ rest) = hash_from ((front + byte) * 40503 % 4294967296) rest

abbrev pub hash_of : List ℕ → ℕ
hash_of id = hash_from 0 id

abbrev pub bucket_of : List ℕ → List ℕ → ℕ
bucket_of starts id = hash_of id % (length starts / 2)

-- the first of some slots that is empty or leads to the same id, `slot` of them standing before; one past the last where there is none
unfoldable pub slot_from : ℕ → List ℕ → List ℕ → ℕ → List ℕ → ℕ
slot_from mark bytes id slot [] = slot
slot_from mark bytes id slot (start ∷ starts) =
    cond (eqb start 0) slot (cond (same_bytes id (id_at mark bytes (start - 1))) slot (slot_from mark bytes id (suc slot) starts))

-- from the id's bucket on; past the last where there are no buckets
unfoldable pub slot_of : ℕ → List ℕ → List ℕ → List ℕ → ℕ
slot_of mark bytes starts id =
    cond (eqb (length starts / 2) 0)
    (length starts)
    (slot_from mark bytes id (bucket_of starts id) (drop (bucket_of starts id) starts))
