-- Lines by a schema, over any kind of value: reading line after line, and writing.
use Rattle.text_refusal.specs.declared.refusal.Fault.{Fault}
use Rattle.std.specs.Prelude.{ℕ, zero, suc, ◌≡◌, List, [], ◌∷◌, ◌++◌, ℤ, pos, length, get_or, take, drop, Result, Ok, Err}
use Rattle.text_line.specs.Piece.{pieces_of}
use Rattle.text_line.specs.Field.{Field, LineAnswer, got, refused, field_at}
use Rattle.text_number.specs.Field.{number_field}

-- the values read, and how reading ended: after the last line, or at the first refused one
pub record Reading (A : Type 0) : Type 0 where
  pub values : List A
  pub end : Result ℕ Fault

abbrev pub and_then : {A : Type 0} → LineAnswer A → (ℕ → Reading A) → Reading A
and_then (got value next) others = record { values = value ∷ (others next).values; end = (others next).end }
and_then (refused found) others = record { values = []; end = Err found }

-- lines in fixed order, each checked before the next
unfoldable pub read_fields : {A : Type 0} → List (Field A) → List ℕ → ℕ → Reading A
read_fields [] text at = record { values = []; end = Ok at }
read_fields (field ∷ fields) text at = and_then (field_at field text at) (λ next. read_fields fields text next)

-- a line is its key with `=`, the value, byte 10
unfoldable pub write_fields : {A : Type 0} → List (Field A) → List A → List ℕ
write_fields [] values = []
write_fields (field ∷ fields) [] = []
write_fields (field ∷ fields) (value ∷ values) = field.key ++ field.write value ++ (10 ∷ write_fields fields values)

-- lines that stand several times, one after the other
unfoldable pub repeated : {A : Type 0} → ℕ → List (Field A) → List (Field A)
repeated zero fields = []
repeated (suc n) fields = fields ++ repeated n fields

-- ---- numbers

-- one of the values read, by its place
abbrev pub value : List ℤ → ℕ → ℤ
value values place = get_or values place (pos 0)

-- the keys of a schema, each ended by `=`
abbrev pub keys_of : List ℕ → List (List ℕ)
keys_of keys = pieces_of 61 keys

-- a schema of numbers: keys, the least and the greatest number of each
unfoldable pub number_fields : List (List ℕ) → List ℤ → List ℤ → List (Field ℤ)
number_fields [] lows highs = []
number_fields (key ∷ keys) [] highs = []
number_fields (key ∷ keys) (low ∷ lows) [] = []
number_fields (key ∷ keys) (low ∷ lows) (high ∷ highs) = number_field key low high ∷ number_fields keys lows highs

-- new values in place of the first ones
abbrev pub laid_over : {A : Type 0} → List A → List A → List A
laid_over values places = values ++ drop (length values) places

-- the schema that is read into some places: no more lines than places
abbrev pub placed_fields : List ℕ → List ℤ → List ℤ → List ℤ → List (Field ℤ)
placed_fields keys lows highs places = take (length places) (number_fields (keys_of keys) lows highs)

-- what reading lines into places gives: how it ended, and the values read laid over the first places
pub record LinesRead (text : List ℕ) (at : ℕ) (keys : List ℕ) (lows highs places after : List ℤ) (ended : Result ℕ Fault) : Type 0 where
  pub ends : ended ≡ (read_fields (placed_fields keys lows highs places) text at).end
  pub filled : after ≡ laid_over (read_fields (placed_fields keys lows highs places) text at).values places
