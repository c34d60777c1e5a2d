-- Ids among others, in a text or in rows: where an id starts, where it ends, and whether it stands above (8).
use Rattle.std.specs.Prelude.{ℕ, Bool, false, ◌||◌, cond, List, [], ◌∷◌, eqb, take, drop}
use Rattle.text_word.specs.Word.{same_bytes}

-- the bytes before the first mark
unfoldable pub before : ℕ → List ℕ → List ℕ
before mark [] = []
before mark (byte ∷ rest) = cond (eqb byte mark) [] (byte ∷ before mark rest)

-- the id that starts at a position: up to a mark, at most 16 bytes
unfoldable pub id_at : ℕ → List ℕ → ℕ → List ℕ
id_at mark bytes start = before mark (take 16 (drop start bytes))

-- whether an id stands among others
unfoldable pub stands_in : List ℕ → List (List ℕ) → Bool
stands_in id [] = false
stands_in id (other ∷ others) = same_bytes id other || stands_in id others
