-- What the writer writes is what the schema writes.
use Prim.Native.Nat.{ℕ, ◌≤◌}
use native.Mathlib.Omega.{arith}
use mathlib.Core.List.{List, [], ◌∷◌, ◌++◌, append_assoc}
use mathlib.Core.Path.{◌≡◌, sym, ap}
use lib.IntN.{ℤ, pos}
use lib.ListN.{length, take, length-take, length-replicate}
use lib.Seq.{take_all}
use Rattle.text_line.specs.Field.{Field}
use Rattle.text_number.specs.Number.{written_number}
use Rattle.text_number.specs.Field.{number_field}
use Rattle.text_schema.specs.Schema.{keys_of, number_fields, write_fields}
use Rattle.text_schema.proofs.Fields.{Schema, Keys, places, numbers_first, numbers_no_keys, numbers_few}
use Rattle.text_schema.proofs.Written.{write_none, write_first, write_no_values}
use Rattle.text_writer.specs.Write.{written_numbers}

pub written_by_schema : (keys : List (List ℕ)) (lows highs values : List ℤ) → length keys ≤ length lows → length keys ≤ length highs → write_fields (number_fields keys lows highs) values ≡ written_numbers keys values
unfolding written_numbers
written_by_schema [] lows highs values h k = rw (numbers_no_keys lows highs) (write_none values)
written_by_schema (key ∷ keys) [] highs values h k = absurd (omega arith)
written_by_schema (key ∷ keys) (low ∷ lows) [] values h k = absurd (omega arith)
written_by_schema (key ∷ keys) (low ∷ lows) (high ∷ highs) [] h k = write_no_values (number_fields (key ∷ keys) (low ∷ lows) (high ∷ highs))
written_by_schema (key ∷ keys) (low ∷ lows) (high ∷ highs) (value ∷ values) h k =
    rw (numbers_first key keys low lows high highs, write_first (number_field key low high) (number_fields keys lows highs) value values, written_by_schema keys lows highs values (omega arith) (omega arith))
    (sym (append_assoc (key ++ written_number value) (10 ∷ []) (written_numbers keys values)))

-- a schema as code hands its keys over
pub schema_written : {fields : List (Field ℤ)} {schema : Schema fields} {keys : List ℕ} → Keys schema keys → (values : List ℤ) → write_fields fields values ≡ written_numbers (keys_of keys) values
schema_written {fields} {schema} {keys} known values =
    let due : List (Field ℤ) = number_fields (keys_of keys) schema.lows schema.highs in
    let same : take (length (places fields)) due ≡ fields = rw known.are at schema.same in
    let few = numbers_few (keys_of keys) schema.lows schema.highs in
    let long : length (places fields) ≡ length fields = length-replicate (length fields) (pos 0) in
    let all : length fields ≤ length due = omega (arith, ap length same, length-take (length (places fields)) due) in
    rw (← same, take_all (length (places fields)) due (omega (arith, few.by_keys, known.few)))
    (written_by_schema (keys_of keys) schema.lows schema.highs values (omega (arith, few.by_lows, known.few)) (omega (arith, few.by_highs, known.few)))
