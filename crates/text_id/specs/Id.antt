-- Document 01, "Snapshot to reserves": an id is 1 to 16 of A-Z, 0-9, _. Any other value is badly written (6).
use Rattle.std.specs.Prelude.{ℕ, Bool, true, false, ◌&&◌, ◌||◌, List, [], ◌∷◌, eqb, leb, ltb, length}
use Rattle.text_line.specs.Judged.{Judged, good, bad}
use Rattle.text_line.specs.Field.{Field}

-- `0` to `9`, `A` to `Z`, `_`
abbrev pub is_id_byte : ℕ → Bool
is_id_byte byte = (leb 48 byte && leb byte 57) || ((leb 65 byte && leb byte 90) || eqb byte 95)

unfoldable pub all_id_bytes : List ℕ → Bool
all_id_bytes [] = true
all_id_bytes (byte ∷ rest) = is_id_byte byte && all_id_bytes rest

-- whether the bytes of a value are an id
unfoldable pub is_id : List ℕ → Bool
is_id value = ltb 0 (length value) && (leb (length value) 16 && all_id_bytes value)

-- document 01's number for each case: a badly written id is refused by 6; 0 is no refusal
abbrev pub id_refusal : Bool → ℕ
id_refusal true = 0
id_refusal false = 6

-- what is read of a value, by whether it is an id: an id is its bytes
abbrev pub judged_id : List ℕ → Bool → Judged (List ℕ)
judged_id value true = good value
judged_id value false = bad (id_refusal false)

-- an id under a key
abbrev pub id_field : List ℕ → Field (List ℕ)
id_field key =
    record {
      key = key;
      read = λ value. judged_id value (is_id value);
      write = λ value. value;
    }
